-- The loop keeps: the ticks left from here give what all n give from the start; what the types of code say; a steady state where it began with one; and the senders' packet bits. Each arm's turn is a law of Loop; what is known at a point of the code is shown once, for all that need it. Assumes nothing.
use mathlib.Core.Path.{◌≡◌, refl, sym, ap, subst, ◌∙◌}
use mathlib.Core.Bool.{Bool}
use mathlib.Core.List.{List}
use Prim.Native.Nat.{ℕ, ◌+◌, ◌≤◌, ◌<◌, ◌^◌}
use native.Mathlib.Omega.{arith}
use lib.ListN.{get_or, replicate}
use borrow.Author.Tests.{ne_eqb}
use Rattle.quantities.specs.Units.{amount_of}
use Rattle.link.specs.declared.link.LineValues.{LineValues}
use Rattle.link.specs.Ring.{places}
use Rattle.link.proofs.Items.{Sound}
use Rattle.toggler.specs.Queue.{queue_places, pick_of}
use Rattle.toggler.proofs.Pick.{NoneFrom, finished}
use Rattle.remy.specs.declared.network.RemyNetwork.{RemyNetwork}
use Rattle.remy.specs.declared.simulation.Simulation.{Simulation}
use Rattle.remy.specs.declared.simulation.TickRecord.{TickRecord}
use Rattle.remy.specs.State.{has_back, line_count, values_of, link, sender, toggler, no_waiting, line_at, sender_at, meter_at, front_of, first_of, sender_bits}
use Rattle.remy.specs.HeldTimes.{Full}
use Rattle.remy.specs.Queue.{picked}
use Rattle.remy.specs.Run.{batch, no_noted}
use Rattle.remy.specs.Tick.{moves, unmoved, ticked, tick_of}
use Rattle.remy.specs.Fit.{fit}
use Rattle.remy.proofs.Roles.{part_inside, parts_few}
use Rattle.steady.specs.Clock.{Typed}
use Rattle.steady.proofs.Steady.{steady-fit}
use Rattle.queueing.proofs.Picks.{part_inside as place_inside, picks_emptied}
use Rattle.turns.specs.declared.LinkValues.{LinkValues}
use Rattle.turns.specs.Turns.{link_values, link_acted, heard_by, arrived_at, waiting_at}
use Rattle.advance.specs.Advance.{advance_of}
use Rattle.advance.proofs.Arms.{link-stops, sender-stops, sender-full, toggler_stops}
use Rattle.advance.proofs.Types.{typed}
use Rattle.advance.proofs.Ticks.{parts_of, begins, Due, Ripe, Kept, ends, ends_kept, ripens, ripe_full, picked-due, waits, moving, room, senders_few}
use Rattle.advance.proofs.Loop.{LinkTurn, Turn, first-line, no_turn, link_turn, sender_turn, toggler_turn, owner-small, link_at, link_start, arrive_at, arrive_start, second_line, passes_room, pass_stopped, pass_stored, pass_none, home_stored, home_none, sender-stored, sender-none, toggler_stored, toggler_none}
use Rattle.advance.proofs.advance.Goals as goal
use Rattle.advance.proofs.advance.Goals.{After-arrive-arrival, After-arrive-arrival-in-Sender, After-hear-hearing, After-link_acts-acts, After-link_part-place, After-loop-k, After-owner-receiver, After-waiting_at-new, After-waiting_at-waits, After-whose_turn-now, Else-ripe, In-Link, In-Some, In-Sender, In-Toggler, Joined-steady, Then-ripe, then-steady, else-steady}

due-at : (p : Else-ripe) → Due (advance_of p.args.n 0 (replicate batch no_noted) p.args.simulation) p.is_steady-steady.result p.args.n p.loop-done.done p.loop-done.records p.loop-done.st
due-at p =
    let l = p.loop-done in
    subst (λ (b : Bool). Kept b (advance_of p.args.n 0 (replicate batch no_noted) p.args.simulation) p.is_steady-steady.result p.args.n p.part_count-parts.result l.done l.records l.note l.st) p.if-ripe.false l.invariant.1

ripe-at : (p : Then-ripe) → Ripe (advance_of p.args.n 0 (replicate batch no_noted) p.args.simulation) p.is_steady-steady.result p.args.n p.part_count-parts.result p.loop-done.done p.loop-done.records p.loop-done.note p.loop-done.st
ripe-at p =
    let l = p.loop-done in
    subst (λ (b : Bool). Kept b (advance_of p.args.n 0 (replicate batch no_noted) p.args.simulation) p.is_steady-steady.result p.args.n p.part_count-parts.result l.done l.records l.note l.st) p.if-ripe.true l.invariant.1

-- what was looked at holds the pick, once all parts were
best-known : (p : After-loop-k) → p.loop-k.best ≡ pick_of p.loop-done.st.queue
best-known p =
    let m = p.loop-k in
    finished p.loop-done.st.queue m.k m.best (λ j h. (ripe-at p.before.before).none j (omega (arith, p.loop-k-test.false, h))) ∙ m.invariant.2

best-inside : (p : After-loop-k) → p.loop-k.best.part < queue_places
best-inside p = place_inside p.loop-done.st.queue _ (best-known p) p.loop-k.invariant.1

-- the test of the state, or a steady state
fit-known : (p : Joined-steady) → p.if-steady.fit ≡ fit p.loop-done.st
fit-known p =
    let l = p.loop-done in
    elim p.if-steady.branch [
      | then-steady w ↦ w.fit-is ∙ w.if-steady.true ∙ sym (steady-fit l.st ((due-at p.before).keeps w.if-steady.true).test)
      | else-steady w ↦ w.fit-is ∙ w.is_fit-fit.ensures
    ]

-- ---- from a point of the code to an earlier one

abbrev turn-fit : (p : After-whose_turn-now) → Joined-steady
turn-fit p = p.before.before.before.before

abbrev acts-link : (p : After-link_acts-acts) → In-Link
acts-link p = p.before.before.before.before.before.before.before

abbrev place-link : (p : After-link_part-place) → In-Link
place-link p = p.before.before.before.before.before.before.before.before.before.before.before.before.before.before.before

abbrev owner-link : (p : After-owner-receiver) → In-Link
owner-link p = p.before.before.before.before.before.before.before.before.before.before.before.before.before.before.before.before.before

abbrev pass-acts : (p : In-Some) → After-link_acts-acts
pass-acts p = p.before.before.before.before.before.before.before.before.before.before.before.before

abbrev back-pass : (p : After-arrive-arrival) → In-Some
back-pass p = p.before.before.before.before

abbrev waits-pass : (p : After-waiting_at-waits) → In-Some
waits-pass p = p.before.before.before.before.before.before.before.before.before.before

abbrev hear-link : (p : After-hear-hearing) → In-Link
hear-link p = p.before.before.before.before.before.before.before.before.before.before.before.before.before.before.before.before.before.before.before.before.before.before

abbrev arrive-sender : (p : After-arrive-arrival-in-Sender) → In-Sender
arrive-sender p = p.before.before.before.before.before.before.before.before

abbrev new-sender : (p : After-waiting_at-new) → In-Sender
new-sender p = p.before.before.before.before.before.before.before.before.before.before.before.before.before

-- the state that the turn begins with
abbrev now_at : (p : After-whose_turn-now) → Simulation
now_at p = p.loop-done.st

full_at : (p : After-whose_turn-now) → Full (now_at p)
full_at p = (due-at (turn-fit p).before).typed.full

-- the packet bits of a sender, as they are read from the copy
bits-known : (p : After-whose_turn-now) (i : ℕ) → get_or p.args.simulation.network.bits i 0 ≡ (sender_bits (now_at p).network i).0
bits-known p i = ap (λ (sizes : List ℕ). get_or sizes i 0) p.loop-done.invariant.2

-- a link's turn, and its line
abbrev line-at : (p : In-Link) → ℕ
line-at p = p.in-Link.l

link-known : (p : In-Link) → LinkTurn (now_at p.before) (line-at p)
link-known p = link_turn (now_at p.before) _ (fit-known (turn-fit p.before)) p.whose_turn-now.result p.whose_turn-now.ensures _ p.in-Link.is

sender-known : (p : In-Sender) → Turn (now_at p.before) (sender p.in-Sender.i) p.in-Sender.i
sender-known p = sender_turn (now_at p.before) _ (fit-known (turn-fit p.before)) p.whose_turn-now.result p.whose_turn-now.ensures _ p.in-Sender.is

toggler-known : (p : In-Toggler) → Turn (now_at p.before) (toggler p.in-Toggler.i) p.in-Toggler.i
toggler-known p = toggler_turn (now_at p.before) _ (fit-known (turn-fit p.before)) p.whose_turn-now.result p.whose_turn-now.ensures _ p.in-Toggler.is

-- its rings
line-waits : (p : In-Link) → Sound (now_at p.before).waiting (line-at p) (line_at (now_at p.before) (line-at p)).waiting
line-waits p = waits (now_at p.before) (link-known p).fits (full_at p.before) (line-at p) (link-known p).there

line-moving : (p : In-Link) → Sound (now_at p.before).on_line (line-at p) (line_at (now_at p.before) (line-at p)).on_line
line-moving p = moving (now_at p.before) (link-known p).fits (full_at p.before) (line-at p) (link-known p).there

-- what it does, by the values of its line
acts-known : (p : After-link_acts-acts) →
    let s = now_at (acts-link p).before in
    let l = line-at (acts-link p) in
    p.link_acts-acts.result ≡ link_acted (link_values (values_of s.network l)) (line_at s l) s.head.clock (front_of s l) (first_of s l)
acts-known p =
    let s = now_at (acts-link p).before in
    let l = line-at (acts-link p) in
    p.link_acts-acts.ensures ∙ ap (λ (v : LinkValues). link_acted v (line_at s l) s.head.clock (front_of s l) (first_of s l)) p.values_at-values.ensures

link-place : (p : After-link_acts-acts) → p.link_acts-acts.result.at < places
link-place p = link_at _ _ _ _ _ p.link_acts-acts.result p.link_acts-acts.ensures

link-front : (p : After-link_acts-acts) → p.link_acts-acts.result.line.on_line.start < places
link-front p = let ring = line-moving (acts-link p) in link_start _ _ _ _ _ p.link_acts-acts.result p.link_acts-acts.ensures ring.start ring.count

part-known : (p : After-link_part-place) → p.link_part-place.result < queue_places
part-known p =
    let s = now_at (place-link p).before in
    let t = link-known (place-link p) in
    subst (λ (k : ℕ). k < queue_places) (sym p.link_part-place.ensures) (part_inside s.network (link (line-at (place-link p))) t.few t.there)

owner-known : (p : After-owner-receiver) → p.owner-receiver.result < 16
owner-known p = owner-small (front_of (now_at (owner-link p).before) (line-at (owner-link p))).packet p.owner-receiver.result p.owner-receiver.ensures

-- a packet is passed on: the rings and the room of the return line
abbrev pass-link : (p : In-Some) → In-Link
pass-link p = acts-link (pass-acts p)

abbrev pass-state : (p : In-Some) → Simulation
pass-state p = now_at (pass-link p).before

second-there : (p : In-Some) → 1 < line_count (pass-state p).network
second-there p =
    second_line (pass-state p) (full_at (pass-link p).before) (line-at (pass-link p)) (link-known (pass-link p)) p.owner-receiver.result p.owner-receiver.ensures p.link_acts-acts.result (acts-known (pass-acts p)) p.pass_on-passing.result p.pass_on-passing.ensures _ p.in-Some.is

second-waits : (p : In-Some) → Sound (pass-state p).waiting 1 (line_at (pass-state p) 1).waiting
second-waits p = waits (pass-state p) (link-known (pass-link p)).fits (full_at (pass-link p).before) 1 (second-there p)

second-moving : (p : In-Some) → Sound (pass-state p).on_line 1 (line_at (pass-state p) 1).on_line
second-moving p = moving (pass-state p) (link-known (pass-link p)).fits (full_at (pass-link p).before) 1 (second-there p)

second-room : (p : In-Some) → (line_at (pass-state p) 1).buffer_contains.0 + (sender_bits (pass-state p).network p.owner-receiver.result).0 < 2 ^ 64
second-room p =
    passes_room (pass-state p) (full_at (pass-link p).before) (line-at (pass-link p)) (link-known (pass-link p)) p.owner-receiver.result p.owner-receiver.ensures p.link_acts-acts.result (acts-known (pass-acts p)) p.pass_on-passing.result p.pass_on-passing.ensures _ p.in-Some.is

-- what comes of it there, with its sender's bits
passed-known : (p : After-arrive-arrival) →
    let s = pass-state (back-pass p) in
    p.arrive-arrival.result ≡ arrived_at 1 (values_of s.network 1).limit (sender_bits s.network p.owner-receiver.result).0 (line_at s 1) p.pass_on-passing.result
passed-known p =
    let s = pass-state (back-pass p) in
    p.arrive-arrival.ensures
    ∙ ap (λ (v : LineValues). arrived_at 1 v.limit (get_or p.args.simulation.network.bits p.owner-receiver.result 0) (line_at s 1) p.pass_on-passing.result) p.values_of-limit.ensures
    ∙ ap (λ (b : ℕ). arrived_at 1 (values_of s.network 1).limit b (line_at s 1) p.pass_on-passing.result) (bits-known (pass-link (back-pass p)).before _)

pass-place : (p : After-arrive-arrival) → p.arrive-arrival.result.at < places
pass-place p = arrive_at _ _ _ _ p.pass_on-passing.result p.arrive-arrival.result p.arrive-arrival.ensures

pass-front : (p : After-arrive-arrival) → p.arrive-arrival.result.line.on_line.start < places
pass-front p = arrive_start _ _ _ _ p.pass_on-passing.result p.arrive-arrival.result p.arrive-arrival.ensures (second-moving (back-pass p)).start

pass-waits : (p : After-waiting_at-waits) →
    let s = pass-state (waits-pass p) in
    let a = p.arrive-arrival.result in
    p.waiting_at-waits.result ≡ waiting_at a.admitted (sender_bits s.network p.owner-receiver.result).0 p.pass_on-passing.result (get_or s.waiting (places + a.at) no_waiting)
pass-waits p =
    let s = pass-state (waits-pass p) in
    let a = p.arrive-arrival.result in
    p.waiting_at-waits.ensures ∙ ap (λ (b : ℕ). waiting_at a.admitted b p.pass_on-passing.result (get_or s.waiting (places + a.at) no_waiting)) (bits-known (pass-link (waits-pass p)).before _)

-- a packet comes to its sender, with its bits
heard-known : (p : After-hear-hearing) →
    let s = now_at (hear-link p).before in
    let k = p.owner-receiver.result in
    p.hear-hearing.result ≡ heard_by s.network.policy (sender_bits s.network k).0 s.head.clock (line-at (hear-link p)) p.link_acts-acts.result.left (sender_at s k) (meter_at s k)
heard-known p =
    let s = now_at (hear-link p).before in
    let k = p.owner-receiver.result in
    p.hear-hearing.ensures ∙ ap (λ (b : ℕ). heard_by s.network.policy b s.head.clock (line-at (hear-link p)) p.link_acts-acts.result.left (sender_at s k) (meter_at s k)) (bits-known (hear-link p).before k)

-- a sender's turn: the rings and the room of the first line
first-waits : (p : In-Sender) → Sound (now_at p.before).waiting 0 (line_at (now_at p.before) 0).waiting
first-waits p = waits (now_at p.before) (sender-known p).fits (full_at p.before) 0 (first-line (now_at p.before).network)

first-moving : (p : In-Sender) → Sound (now_at p.before).on_line 0 (line_at (now_at p.before) 0).on_line
first-moving p = moving (now_at p.before) (sender-known p).fits (full_at p.before) 0 (first-line (now_at p.before).network)

first-room : (p : In-Sender) → (line_at (now_at p.before) 0).buffer_contains.0 + (sender_bits (now_at p.before).network p.in-Sender.i).0 < 2 ^ 64
first-room p = room (now_at p.before) (sender-known p).fits (full_at p.before) 0 (first-line (now_at p.before).network) _ (sender-known p).inside

arrive-place : (p : After-arrive-arrival-in-Sender) → p.arrive-arrival-in-Sender.result.at < places
arrive-place p = arrive_at _ _ _ _ p.sender_acts-acts.result.sending p.arrive-arrival-in-Sender.result p.arrive-arrival-in-Sender.ensures

arrive-front : (p : After-arrive-arrival-in-Sender) → p.arrive-arrival-in-Sender.result.line.on_line.start < places
arrive-front p = arrive_start _ _ _ _ p.sender_acts-acts.result.sending p.arrive-arrival-in-Sender.result p.arrive-arrival-in-Sender.ensures (first-moving (arrive-sender p)).start

arrived-known : (p : After-arrive-arrival-in-Sender) →
    let s = now_at (arrive-sender p).before in
    p.arrive-arrival-in-Sender.result ≡ arrived_at 0 s.network.line.limit (sender_bits s.network p.in-Sender.i).0 (line_at s 0) p.sender_acts-acts.result.sending
arrived-known p =
    let s = now_at (arrive-sender p).before in
    p.arrive-arrival-in-Sender.ensures ∙ ap (λ (b : ℕ). arrived_at 0 s.network.line.limit b (line_at s 0) p.sender_acts-acts.result.sending) (bits-known (arrive-sender p).before _)

waits-known : (p : After-waiting_at-new) →
    let s = now_at (new-sender p).before in
    let a = p.arrive-arrival-in-Sender.result in
    p.waiting_at-new.result ≡ waiting_at a.admitted (sender_bits s.network p.in-Sender.i).0 p.sender_acts-acts.result.sending (get_or s.waiting a.at no_waiting)
waits-known p =
    let s = now_at (new-sender p).before in
    let a = p.arrive-arrival-in-Sender.result in
    p.waiting_at-new.ensures ∙ ap (λ (b : ℕ). waiting_at a.admitted b p.sender_acts-acts.result.sending (get_or s.waiting a.at no_waiting)) (bits-known (new-sender p).before _)

-- the tick is refused or idle: the loop ends
stopped : (p : After-whose_turn-now) (k : ℕ) → tick_of (now_at p) ≡ unmoved (now_at p) k
    → record { done = p.loop-done.done; number = k; records = p.loop-done.records; simulation = now_at p } ≡ (advance_of p.args.n 0 (replicate batch no_noted) p.args.simulation)
stopped p k t = ends _ _ _ _ _ (now_at p) (due-at (turn-fit p).before) p.loop-done-test.true k t

-- the tick moves: the state is ripe
moved : (p : After-whose_turn-now) (x : TickRecord) (m : Simulation) → tick_of (now_at p) ≡ ticked (now_at p) (moves x (picked m)) → (now_at p).network ≡ m.network
    → (now_at p).network.senders ≤ 16 → NoneFrom (parts_of (now_at p).network) m.queue
    → (p.loop-done.done ≤ p.args.n)
    × Ripe (advance_of p.args.n 0 (replicate batch no_noted) p.args.simulation) p.is_steady-steady.result p.args.n p.part_count-parts.result p.loop-done.done p.loop-done.records x m
    × (p.args.simulation.network.bits ≡ m.network.bits)
    × (p.part_count-parts.result ≡ parts_of m.network)
moved p x m t same few none =
    let l = p.loop-done in
    let places : p.part_count-parts.result ≡ parts_of l.st.network = l.invariant.3 in (
      l.invariant.0,
      ripens _ _ _ _ _ l.st (due-at (turn-fit p).before) p.loop-done-test.true _ (subst (λ (k : ℕ). k ≤ queue_places) (sym places) (parts_few l.st.network.senders (has_back l.st.network.back) few)) x m t (subst (λ (k : ℕ). NoneFrom k m.queue) (sym places) none),
      l.invariant.2 ∙ ap (λ (n : RemyNetwork). n.bits) same,
      places ∙ ap parts_of same,
    )

pub loop-done-init : goal.loop-done-init
loop-done-init c =
    let s = c.args.simulation in
    let y : Typed s = typed s _ c.well_formed.0 in (
      omega arith,
      record {
        same = begins _ _ _ (ap (λ (r : TickRecord). replicate batch (record { note = r; waiting = amount_of 0 })) c.empty_record-note.ensures);
        typed = y;
        keeps = λ e. record { test = sym c.is_steady-steady.ensures ∙ e; typed = y };
      },
      refl,
      c.part_count-parts.ensures,
    )

pub loop-k-init : goal.loop-k-init
unfolding pick_of
loop-k-init c =
    let ripe = ripe-at (goal.at.loop-k-init c).Then-ripe in
    (ripe.few, ripe_full _ _ _ _ _ _ _ _ ripe, refl)

pub offset_bounds-st-best : goal.offset_bounds-st-best
offset_bounds-st-best c = let inside = best-inside (goal.at.offset_bounds-st-best c).After-loop-k in omega (arith, inside)

pub bounds-st-best : goal.bounds-st-best
bounds-st-best c = best-inside (goal.at.bounds-st-best c).After-loop-k

pub loop-done-preserved-then-ripe : goal.loop-done-preserved-then-ripe
loop-done-preserved-then-ripe c =
    let l = c.loop-done in (
      omega (arith, c.loop-done-test.true),
      picked-due _ _ _ _ _ _ _ l.st (ripe-at (goal.at.loop-done-preserved-then-ripe c).Then-ripe) _ (picks_emptied l.st _ c.head_of-st.result (best-known (goal.at.loop-done-preserved-then-ripe c).After-loop-k) c.head_of-st.ensures) _ c.record_place-record_at.ensures _ c.noted.ensures,
      l.invariant.2,
      l.invariant.3,
    )

pub returns-in-Stop : goal.returns-in-Stop
returns-in-Stop c =
    stopped (goal.at.returns-in-Stop c).After-whose_turn-now _ (no_turn (now_at (goal.at.returns-in-Stop c).After-whose_turn-now) _ (fit-known (goal.at.returns-in-Stop c).Joined-steady) c.whose_turn-now.result c.whose_turn-now.ensures _ c.in-Stop.is)

pub offset_bounds-st-l : goal.offset_bounds-st-l
offset_bounds-st-l c = omega (arith, (link-known c).below)

pub bounds-st-l : goal.bounds-st-l
bounds-st-l c = (link-known c).below

pub overflow_mul-base : goal.overflow_mul-base
overflow_mul-base c = omega (arith, (link-known (goal.at.overflow_mul-base c).In-Link).below)

pub overflow_add-front_at : goal.overflow_add-front_at
overflow_add-front_at c = omega (arith, (link-known (goal.at.overflow_add-front_at c).In-Link).below, (line-moving (goal.at.overflow_add-front_at c).In-Link).start)

pub overflow_add-first_at : goal.overflow_add-first_at
overflow_add-first_at c = omega (arith, (link-known (goal.at.overflow_add-first_at c).In-Link).below, (line-waits (goal.at.overflow_add-first_at c).In-Link).start)

pub offset_bounds-st-front_at : goal.offset_bounds-st-front_at
offset_bounds-st-front_at c = omega (arith, (link-known (goal.at.offset_bounds-st-front_at c).In-Link).below, (line-moving (goal.at.offset_bounds-st-front_at c).In-Link).start)

pub bounds-st-front_at : goal.bounds-st-front_at
bounds-st-front_at c = omega (arith, (link-known (goal.at.bounds-st-front_at c).In-Link).below, (line-moving (goal.at.bounds-st-front_at c).In-Link).start)

pub offset_bounds-st-first_at : goal.offset_bounds-st-first_at
offset_bounds-st-first_at c = omega (arith, (link-known (goal.at.offset_bounds-st-first_at c).In-Link).below, (line-waits (goal.at.offset_bounds-st-first_at c).In-Link).start)

pub bounds-st-first_at : goal.bounds-st-first_at
bounds-st-first_at c = omega (arith, (link-known (goal.at.bounds-st-first_at c).In-Link).below, (line-waits (goal.at.bounds-st-first_at c).In-Link).start)

pub link_acts-acts-requires : goal.link_acts-acts-requires
link_acts-acts-requires c = ((line-waits (goal.at.link_acts-acts-requires c).In-Link).start, (line-moving (goal.at.link_acts-acts-requires c).In-Link).start, (line-moving (goal.at.link_acts-acts-requires c).In-Link).count)

pub returns-then-acts-ne0 : goal.returns-then-acts-ne0
returns-then-acts-ne0 c =
    let s = now_at (goal.at.returns-then-acts-ne0 c).After-whose_turn-now in
    let t = link-known (goal.at.returns-then-acts-ne0 c).In-Link in
    stopped (goal.at.returns-then-acts-ne0 c).After-whose_turn-now _ (t.tick ∙ ap (ticked s) (link-stops s (line-at (goal.at.returns-then-acts-ne0 c).In-Link) (full_at (goal.at.returns-then-acts-ne0 c).After-whose_turn-now).lines t.below c.link_acts-acts.result (acts-known (goal.at.returns-then-acts-ne0 c).After-link_acts-acts) (ne_eqb _ _ c.if-acts-ne0.true)))

pub overflow_add-at : goal.overflow_add-at
overflow_add-at c = omega (arith, (link-known (goal.at.overflow_add-at c).In-Link).below, link-place (goal.at.overflow_add-at c).After-link_acts-acts)

pub overflow_add-front_after_at : goal.overflow_add-front_after_at
overflow_add-front_after_at c = omega (arith, (link-known (goal.at.overflow_add-front_after_at c).In-Link).below, link-front (goal.at.overflow_add-front_after_at c).After-link_acts-acts)

pub offset_bounds-st-at : goal.offset_bounds-st-at
offset_bounds-st-at c = omega (arith, (link-known (goal.at.offset_bounds-st-at c).In-Link).below, link-place (goal.at.offset_bounds-st-at c).After-link_acts-acts)

pub bounds-st-at : goal.bounds-st-at
bounds-st-at c = omega (arith, (link-known (goal.at.bounds-st-at c).In-Link).below, link-place (goal.at.bounds-st-at c).After-link_acts-acts)

pub link_part-place-requires : goal.link_part-place-requires
link_part-place-requires c = (link-known (goal.at.link_part-place-requires c).In-Link).few

pub offset_bounds-sizes-receiver : goal.offset_bounds-sizes-receiver
offset_bounds-sizes-receiver c = omega (arith, owner-known c)

pub bounds-sizes-receiver : goal.bounds-sizes-receiver
bounds-sizes-receiver c = owner-known c

pub arrive-arrival-requires : goal.arrive-arrival-requires
arrive-arrival-requires c =
    ((second-waits (goal.at.arrive-arrival-requires c).In-Some).start, (second-waits (goal.at.arrive-arrival-requires c).In-Some).count, subst (λ (b : ℕ). (line_at (now_at (goal.at.arrive-arrival-requires c).After-whose_turn-now) 1).buffer_contains.0 + b < 2 ^ 64) (sym (bits-known (goal.at.arrive-arrival-requires c).After-whose_turn-now _)) (second-room (goal.at.arrive-arrival-requires c).In-Some))

pub returns-then-arrival-ne0 : goal.returns-then-arrival-ne0
returns-then-arrival-ne0 c =
    let s = now_at (goal.at.returns-then-arrival-ne0 c).After-whose_turn-now in
    let t = link-known (goal.at.returns-then-arrival-ne0 c).In-Link in
    stopped (goal.at.returns-then-arrival-ne0 c).After-whose_turn-now _
    (t.tick
    ∙ ap (ticked s)
    (pass_stopped s (full_at (goal.at.returns-then-arrival-ne0 c).After-whose_turn-now) (line-at (goal.at.returns-then-arrival-ne0 c).In-Link) t c.owner-receiver.result c.owner-receiver.ensures c.link_acts-acts.result (acts-known (goal.at.returns-then-arrival-ne0 c).After-link_acts-acts) c.pass_on-passing.result c.pass_on-passing.ensures _ c.in-Some.is
    c.if-acts-ne0.false c.arrive-arrival.result (passed-known (goal.at.returns-then-arrival-ne0 c).After-arrive-arrival) (ne_eqb _ _ c.if-arrival-ne0.true)))

pub overflow_add-waits_at : goal.overflow_add-waits_at
overflow_add-waits_at c = omega (arith, pass-place (goal.at.overflow_add-waits_at c).After-arrive-arrival)

pub offset_bounds-st-waits_at : goal.offset_bounds-st-waits_at
offset_bounds-st-waits_at c = omega (arith, pass-place (goal.at.offset_bounds-st-waits_at c).After-arrive-arrival)

pub bounds-st-waits_at : goal.bounds-st-waits_at
bounds-st-waits_at c = omega (arith, pass-place (goal.at.bounds-st-waits_at c).After-arrive-arrival)

pub offset_bounds-st-l-in-Some : goal.offset_bounds-st-l-in-Some
offset_bounds-st-l-in-Some c = omega (arith, (link-known (goal.at.offset_bounds-st-l-in-Some c).In-Link).below)

pub bounds-st-l-in-Some : goal.bounds-st-l-in-Some
bounds-st-l-in-Some c = (link-known (goal.at.bounds-st-l-in-Some c).In-Link).below

pub offset_bounds-st-at-in-Some : goal.offset_bounds-st-at-in-Some
offset_bounds-st-at-in-Some c = omega (arith, (link-known (goal.at.offset_bounds-st-at-in-Some c).In-Link).below, link-place (goal.at.offset_bounds-st-at-in-Some c).After-link_acts-acts)

pub bounds-st-at-in-Some : goal.bounds-st-at-in-Some
bounds-st-at-in-Some c = omega (arith, (link-known (goal.at.bounds-st-at-in-Some c).In-Link).below, link-place (goal.at.bounds-st-at-in-Some c).After-link_acts-acts)

pub offset_bounds-st-waits_at-in-Some : goal.offset_bounds-st-waits_at-in-Some
offset_bounds-st-waits_at-in-Some c = omega (arith, pass-place (goal.at.offset_bounds-st-waits_at-in-Some c).After-arrive-arrival)

pub bounds-st-waits_at-in-Some : goal.bounds-st-waits_at-in-Some
bounds-st-waits_at-in-Some c = omega (arith, pass-place (goal.at.bounds-st-waits_at-in-Some c).After-arrive-arrival)

pub offset_bounds-st-front_after_at : goal.offset_bounds-st-front_after_at
offset_bounds-st-front_after_at c = omega (arith, (link-known (goal.at.offset_bounds-st-front_after_at c).In-Link).below, link-front (goal.at.offset_bounds-st-front_after_at c).After-link_acts-acts)

pub bounds-st-front_after_at : goal.bounds-st-front_after_at
bounds-st-front_after_at c = omega (arith, (link-known (goal.at.bounds-st-front_after_at c).In-Link).below, link-front (goal.at.bounds-st-front_after_at c).After-link_acts-acts)

pub offset_bounds-st-place : goal.offset_bounds-st-place
offset_bounds-st-place c = omega (arith, part-known (goal.at.offset_bounds-st-place c).After-link_part-place)

pub bounds-st-place : goal.bounds-st-place
bounds-st-place c = part-known (goal.at.bounds-st-place c).After-link_part-place

pub offset_bounds-st-place-in-Some : goal.offset_bounds-st-place-in-Some
offset_bounds-st-place-in-Some c = omega (arith, part-known (goal.at.offset_bounds-st-place-in-Some c).After-link_part-place)

pub bounds-st-place-in-Some : goal.bounds-st-place-in-Some
bounds-st-place-in-Some c = part-known (goal.at.bounds-st-place-in-Some c).After-link_part-place

pub overflow_cast-senders : goal.overflow_cast-senders
overflow_cast-senders c = omega (arith, (link-known (goal.at.overflow_cast-senders c).In-Link).few)

pub overflow_mul-bouncer_place : goal.overflow_mul-bouncer_place
overflow_mul-bouncer_place c = omega (arith, (link-known (goal.at.overflow_mul-bouncer_place c).In-Link).few)

pub overflow_add-bouncer_place : goal.overflow_add-bouncer_place
overflow_add-bouncer_place c = omega (arith, (link-known (goal.at.overflow_add-bouncer_place c).In-Link).few)

pub offset_bounds-st-bouncer_place : goal.offset_bounds-st-bouncer_place
offset_bounds-st-bouncer_place c = omega (arith, (link-known (goal.at.offset_bounds-st-bouncer_place c).In-Link).few)

pub bounds-st-bouncer_place : goal.bounds-st-bouncer_place
bounds-st-bouncer_place c = omega (arith, (link-known (goal.at.bounds-st-bouncer_place c).In-Link).few)

pub overflow_add-back_front_at : goal.overflow_add-back_front_at
overflow_add-back_front_at c = omega (arith, pass-front (goal.at.overflow_add-back_front_at c).After-arrive-arrival)

pub offset_bounds-st-back_front_at : goal.offset_bounds-st-back_front_at
offset_bounds-st-back_front_at c = omega (arith, pass-front (goal.at.offset_bounds-st-back_front_at c).After-arrive-arrival)

pub bounds-st-back_front_at : goal.bounds-st-back_front_at
bounds-st-back_front_at c = omega (arith, pass-front (goal.at.bounds-st-back_front_at c).After-arrive-arrival)

pub overflow_mul-back_place : goal.overflow_mul-back_place
overflow_mul-back_place c = omega (arith, (link-known (goal.at.overflow_mul-back_place c).In-Link).few)

pub overflow_add-back_place : goal.overflow_add-back_place
overflow_add-back_place c = omega (arith, (link-known (goal.at.overflow_add-back_place c).In-Link).few)

pub offset_bounds-st-back_place : goal.offset_bounds-st-back_place
offset_bounds-st-back_place c = omega (arith, (link-known (goal.at.offset_bounds-st-back_place c).In-Link).few)

pub bounds-st-back_place : goal.bounds-st-back_place
bounds-st-back_place c = omega (arith, (link-known (goal.at.bounds-st-back_place c).In-Link).few)

pub offset_bounds-st-back_place-in-Some : goal.offset_bounds-st-back_place-in-Some
offset_bounds-st-back_place-in-Some c = omega (arith, (link-known (goal.at.offset_bounds-st-back_place-in-Some c).In-Link).few)

pub bounds-st-back_place-in-Some : goal.bounds-st-back_place-in-Some
bounds-st-back_place-in-Some c = omega (arith, (link-known (goal.at.bounds-st-back_place-in-Some c).In-Link).few)

pub loop-done-preserved-in-Some : goal.loop-done-preserved-in-Some
loop-done-preserved-in-Some c =
    moved (goal.at.loop-done-preserved-in-Some c).After-whose_turn-now _ _
    (pass_stored (now_at (goal.at.loop-done-preserved-in-Some c).After-whose_turn-now) (full_at (goal.at.loop-done-preserved-in-Some c).After-whose_turn-now) (line-at (goal.at.loop-done-preserved-in-Some c).In-Link) (link-known (goal.at.loop-done-preserved-in-Some c).In-Link) c.owner-receiver.result c.owner-receiver.ensures c.link_acts-acts.result (acts-known (goal.at.loop-done-preserved-in-Some c).After-link_acts-acts) c.pass_on-passing.result c.pass_on-passing.ensures _ c.in-Some.is
    c.if-acts-ne0.false c.arrive-arrival.result (passed-known (goal.at.loop-done-preserved-in-Some c).After-arrive-arrival) c.if-arrival-ne0.false c.on_line_at-new.result c.on_line_at-new.ensures c.link_part-place.result c.link_part-place.ensures c.waiting_at-waits.result (pass-waits (goal.at.loop-done-preserved-in-Some c).After-waiting_at-waits)
    c.link_slot.result c.link_slot.ensures c.link_slot-in-Some.result c.link_slot-in-Some.ensures c.link_note-note.result c.link_note-note.ensures)
    refl (link-known (goal.at.loop-done-preserved-in-Some c).In-Link).few
    (pass_none (now_at (goal.at.loop-done-preserved-in-Some c).After-whose_turn-now) (full_at (goal.at.loop-done-preserved-in-Some c).After-whose_turn-now) (line-at (goal.at.loop-done-preserved-in-Some c).In-Link) (link-known (goal.at.loop-done-preserved-in-Some c).In-Link) c.owner-receiver.result c.owner-receiver.ensures c.link_acts-acts.result (acts-known (goal.at.loop-done-preserved-in-Some c).After-link_acts-acts) c.pass_on-passing.result c.pass_on-passing.ensures _ c.in-Some.is
    c.if-acts-ne0.false c.arrive-arrival.result (passed-known (goal.at.loop-done-preserved-in-Some c).After-arrive-arrival) c.link_part-place.result c.link_part-place.ensures c.link_slot.result c.link_slot-in-Some.result)

pub offset_bounds-st-receiver : goal.offset_bounds-st-receiver
offset_bounds-st-receiver c = omega (arith, owner-known (goal.at.offset_bounds-st-receiver c).After-owner-receiver)

pub bounds-st-receiver : goal.bounds-st-receiver
bounds-st-receiver c = owner-known (goal.at.bounds-st-receiver c).After-owner-receiver

pub offset_bounds-st-receiver-in-None : goal.offset_bounds-st-receiver-in-None
offset_bounds-st-receiver-in-None c = omega (arith, owner-known (goal.at.offset_bounds-st-receiver-in-None c).After-owner-receiver)

pub bounds-st-receiver-in-None : goal.bounds-st-receiver-in-None
bounds-st-receiver-in-None c = owner-known (goal.at.bounds-st-receiver-in-None c).After-owner-receiver

pub offset_bounds-st-l-in-None : goal.offset_bounds-st-l-in-None
offset_bounds-st-l-in-None c = omega (arith, (link-known (goal.at.offset_bounds-st-l-in-None c).In-Link).below)

pub bounds-st-l-in-None : goal.bounds-st-l-in-None
bounds-st-l-in-None c = (link-known (goal.at.bounds-st-l-in-None c).In-Link).below

pub offset_bounds-st-at-in-None : goal.offset_bounds-st-at-in-None
offset_bounds-st-at-in-None c = omega (arith, (link-known (goal.at.offset_bounds-st-at-in-None c).In-Link).below, link-place (goal.at.offset_bounds-st-at-in-None c).After-link_acts-acts)

pub bounds-st-at-in-None : goal.bounds-st-at-in-None
bounds-st-at-in-None c = omega (arith, (link-known (goal.at.bounds-st-at-in-None c).In-Link).below, link-place (goal.at.bounds-st-at-in-None c).After-link_acts-acts)

pub offset_bounds-st-receiver-in-None-2 : goal.offset_bounds-st-receiver-in-None-2
offset_bounds-st-receiver-in-None-2 c = omega (arith, owner-known (goal.at.offset_bounds-st-receiver-in-None-2 c).After-owner-receiver)

pub bounds-st-receiver-in-None-2 : goal.bounds-st-receiver-in-None-2
bounds-st-receiver-in-None-2 c = owner-known (goal.at.bounds-st-receiver-in-None-2 c).After-owner-receiver

pub offset_bounds-st-receiver-in-None-3 : goal.offset_bounds-st-receiver-in-None-3
offset_bounds-st-receiver-in-None-3 c = omega (arith, owner-known (goal.at.offset_bounds-st-receiver-in-None-3 c).After-owner-receiver)

pub bounds-st-receiver-in-None-3 : goal.bounds-st-receiver-in-None-3
bounds-st-receiver-in-None-3 c = owner-known (goal.at.bounds-st-receiver-in-None-3 c).After-owner-receiver

pub offset_bounds-st-front_after_at-in-None : goal.offset_bounds-st-front_after_at-in-None
offset_bounds-st-front_after_at-in-None c = omega (arith, (link-known (goal.at.offset_bounds-st-front_after_at-in-None c).In-Link).below, link-front (goal.at.offset_bounds-st-front_after_at-in-None c).After-link_acts-acts)

pub bounds-st-front_after_at-in-None : goal.bounds-st-front_after_at-in-None
bounds-st-front_after_at-in-None c = omega (arith, (link-known (goal.at.bounds-st-front_after_at-in-None c).In-Link).below, link-front (goal.at.bounds-st-front_after_at-in-None c).After-link_acts-acts)

pub offset_bounds-st-place-in-None : goal.offset_bounds-st-place-in-None
offset_bounds-st-place-in-None c = omega (arith, part-known (goal.at.offset_bounds-st-place-in-None c).After-link_part-place)

pub bounds-st-place-in-None : goal.bounds-st-place-in-None
bounds-st-place-in-None c = part-known (goal.at.bounds-st-place-in-None c).After-link_part-place

pub offset_bounds-st-place-in-None-2 : goal.offset_bounds-st-place-in-None-2
offset_bounds-st-place-in-None-2 c = omega (arith, part-known (goal.at.offset_bounds-st-place-in-None-2 c).After-link_part-place)

pub bounds-st-place-in-None-2 : goal.bounds-st-place-in-None-2
bounds-st-place-in-None-2 c = part-known (goal.at.bounds-st-place-in-None-2 c).After-link_part-place

pub overflow_mul-sender_place : goal.overflow_mul-sender_place
overflow_mul-sender_place c = omega (arith, owner-known (goal.at.overflow_mul-sender_place c).After-owner-receiver)

pub overflow_add-sender_place : goal.overflow_add-sender_place
overflow_add-sender_place c = omega (arith, owner-known (goal.at.overflow_add-sender_place c).After-owner-receiver)

pub offset_bounds-st-sender_place : goal.offset_bounds-st-sender_place
offset_bounds-st-sender_place c = omega (arith, owner-known (goal.at.offset_bounds-st-sender_place c).After-owner-receiver)

pub bounds-st-sender_place : goal.bounds-st-sender_place
bounds-st-sender_place c = omega (arith, owner-known (goal.at.bounds-st-sender_place c).After-owner-receiver)

pub offset_bounds-st-sender_place-in-None : goal.offset_bounds-st-sender_place-in-None
offset_bounds-st-sender_place-in-None c = omega (arith, owner-known (goal.at.offset_bounds-st-sender_place-in-None c).After-owner-receiver)

pub bounds-st-sender_place-in-None : goal.bounds-st-sender_place-in-None
bounds-st-sender_place-in-None c = omega (arith, owner-known (goal.at.bounds-st-sender_place-in-None c).After-owner-receiver)

pub loop-done-preserved-in-None : goal.loop-done-preserved-in-None
loop-done-preserved-in-None c =
    moved (goal.at.loop-done-preserved-in-None c).After-whose_turn-now _ _
    (home_stored (now_at (goal.at.loop-done-preserved-in-None c).After-whose_turn-now) (full_at (goal.at.loop-done-preserved-in-None c).After-whose_turn-now) (line-at (goal.at.loop-done-preserved-in-None c).In-Link) (link-known (goal.at.loop-done-preserved-in-None c).In-Link) c.owner-receiver.result c.owner-receiver.ensures c.link_acts-acts.result (acts-known (goal.at.loop-done-preserved-in-None c).After-link_acts-acts) c.if-acts-ne0.false c.pass_on-passing.result c.pass_on-passing.ensures c.in-None.is
    c.hear-hearing.result (heard-known (goal.at.loop-done-preserved-in-None c).After-hear-hearing) c.on_line_at-new.result c.on_line_at-new.ensures c.link_part-place.result c.link_part-place.ensures c.link_slot-in-None.result c.link_slot-in-None.ensures c.sender_slot.result c.sender_slot.ensures
    c.link_note-note-in-None.result c.link_note-note-in-None.ensures)
    refl (link-known (goal.at.loop-done-preserved-in-None c).In-Link).few
    (home_none (now_at (goal.at.loop-done-preserved-in-None c).After-whose_turn-now) (full_at (goal.at.loop-done-preserved-in-None c).After-whose_turn-now) (line-at (goal.at.loop-done-preserved-in-None c).In-Link) (link-known (goal.at.loop-done-preserved-in-None c).In-Link) c.owner-receiver.result c.owner-receiver.ensures c.link_acts-acts.result (acts-known (goal.at.loop-done-preserved-in-None c).After-link_acts-acts) c.if-acts-ne0.false c.pass_on-passing.result c.pass_on-passing.ensures c.in-None.is
    c.hear-hearing.result (heard-known (goal.at.loop-done-preserved-in-None c).After-hear-hearing) c.link_part-place.result c.link_part-place.ensures c.link_slot-in-None.result c.sender_slot.result c.sender_slot.ensures)

pub offset_bounds-st-i : goal.offset_bounds-st-i
offset_bounds-st-i c = omega (arith, (sender-known c).below)

pub bounds-st-i : goal.bounds-st-i
bounds-st-i c = (sender-known c).below

pub sender_acts-acts-requires : goal.sender_acts-acts-requires
sender_acts-acts-requires c = (sender-known (goal.at.sender_acts-acts-requires c).In-Sender).below

pub returns-then-acts-ne0-2 : goal.returns-then-acts-ne0-2
returns-then-acts-ne0-2 c =
    let s = now_at (goal.at.returns-then-acts-ne0-2 c).After-whose_turn-now in
    stopped (goal.at.returns-then-acts-ne0-2 c).After-whose_turn-now _ ((sender-known (goal.at.returns-then-acts-ne0-2 c).In-Sender).tick ∙ ap (ticked s) (sender-stops s (full_at (goal.at.returns-then-acts-ne0-2 c).After-whose_turn-now).lines _ c.sender_acts-acts.result c.sender_acts-acts.ensures (ne_eqb _ _ c.if-acts-ne0-2.true)))

pub offset_bounds-sizes-i : goal.offset_bounds-sizes-i
offset_bounds-sizes-i c = omega (arith, (sender-known (goal.at.offset_bounds-sizes-i c).In-Sender).below)

pub bounds-sizes-i : goal.bounds-sizes-i
bounds-sizes-i c = (sender-known (goal.at.bounds-sizes-i c).In-Sender).below

pub arrive-arrival-requires-in-Sender : goal.arrive-arrival-requires-in-Sender
arrive-arrival-requires-in-Sender c =
    ((first-waits (goal.at.arrive-arrival-requires-in-Sender c).In-Sender).start, (first-waits (goal.at.arrive-arrival-requires-in-Sender c).In-Sender).count, subst (λ (b : ℕ). (line_at (now_at (goal.at.arrive-arrival-requires-in-Sender c).After-whose_turn-now) 0).buffer_contains.0 + b < 2 ^ 64) (sym (bits-known (goal.at.arrive-arrival-requires-in-Sender c).After-whose_turn-now _)) (first-room (goal.at.arrive-arrival-requires-in-Sender c).In-Sender))

pub returns-then-arrival-ne0-2 : goal.returns-then-arrival-ne0-2
returns-then-arrival-ne0-2 c =
    let s = now_at (goal.at.returns-then-arrival-ne0-2 c).After-whose_turn-now in
    stopped (goal.at.returns-then-arrival-ne0-2 c).After-whose_turn-now _
    ((sender-known (goal.at.returns-then-arrival-ne0-2 c).In-Sender).tick ∙ ap (ticked s) (sender-full s (full_at (goal.at.returns-then-arrival-ne0-2 c).After-whose_turn-now).lines _ c.sender_acts-acts.result c.sender_acts-acts.ensures c.if-acts-ne0-2.false c.arrive-arrival-in-Sender.result (arrived-known (goal.at.returns-then-arrival-ne0-2 c).After-arrive-arrival-in-Sender) (ne_eqb _ _ c.if-arrival-ne0-2.true)))

pub offset_bounds-st-at-in-Sender : goal.offset_bounds-st-at-in-Sender
offset_bounds-st-at-in-Sender c = omega (arith, arrive-place (goal.at.offset_bounds-st-at-in-Sender c).After-arrive-arrival-in-Sender)

pub bounds-st-at-in-Sender : goal.bounds-st-at-in-Sender
bounds-st-at-in-Sender c = omega (arith, arrive-place (goal.at.bounds-st-at-in-Sender c).After-arrive-arrival-in-Sender)

pub offset_bounds-st-at-in-Sender-2 : goal.offset_bounds-st-at-in-Sender-2
offset_bounds-st-at-in-Sender-2 c = omega (arith, arrive-place (goal.at.offset_bounds-st-at-in-Sender-2 c).After-arrive-arrival-in-Sender)

pub bounds-st-at-in-Sender-2 : goal.bounds-st-at-in-Sender-2
bounds-st-at-in-Sender-2 c = omega (arith, arrive-place (goal.at.bounds-st-at-in-Sender-2 c).After-arrive-arrival-in-Sender)

pub offset_bounds-st-i-in-Sender : goal.offset_bounds-st-i-in-Sender
offset_bounds-st-i-in-Sender c = omega (arith, (sender-known (goal.at.offset_bounds-st-i-in-Sender c).In-Sender).below)

pub bounds-st-i-in-Sender : goal.bounds-st-i-in-Sender
bounds-st-i-in-Sender c = (sender-known (goal.at.bounds-st-i-in-Sender c).In-Sender).below

pub overflow_mul-place : goal.overflow_mul-place
overflow_mul-place c = omega (arith, (sender-known (goal.at.overflow_mul-place c).In-Sender).below)

pub overflow_add-place : goal.overflow_add-place
overflow_add-place c = omega (arith, (sender-known (goal.at.overflow_add-place c).In-Sender).below)

pub offset_bounds-st-place-in-Sender : goal.offset_bounds-st-place-in-Sender
offset_bounds-st-place-in-Sender c = omega (arith, (sender-known (goal.at.offset_bounds-st-place-in-Sender c).In-Sender).below)

pub bounds-st-place-in-Sender : goal.bounds-st-place-in-Sender
bounds-st-place-in-Sender c = omega (arith, (sender-known (goal.at.bounds-st-place-in-Sender c).In-Sender).below)

pub offset_bounds-st-place-in-Sender-2 : goal.offset_bounds-st-place-in-Sender-2
offset_bounds-st-place-in-Sender-2 c = omega (arith, (sender-known (goal.at.offset_bounds-st-place-in-Sender-2 c).In-Sender).below)

pub bounds-st-place-in-Sender-2 : goal.bounds-st-place-in-Sender-2
bounds-st-place-in-Sender-2 c = omega (arith, (sender-known (goal.at.bounds-st-place-in-Sender-2 c).In-Sender).below)

pub offset_bounds-st-front_after_at-in-Sender : goal.offset_bounds-st-front_after_at-in-Sender
offset_bounds-st-front_after_at-in-Sender c = omega (arith, arrive-front (goal.at.offset_bounds-st-front_after_at-in-Sender c).After-arrive-arrival-in-Sender)

pub bounds-st-front_after_at-in-Sender : goal.bounds-st-front_after_at-in-Sender
bounds-st-front_after_at-in-Sender c = omega (arith, arrive-front (goal.at.bounds-st-front_after_at-in-Sender c).After-arrive-arrival-in-Sender)

pub sender_note-note-requires : goal.sender_note-note-requires
sender_note-note-requires c = (sender-known (goal.at.sender_note-note-requires c).In-Sender).below

pub loop-done-preserved-in-Sender : goal.loop-done-preserved-in-Sender
loop-done-preserved-in-Sender c =
    moved (goal.at.loop-done-preserved-in-Sender c).After-whose_turn-now _ _
    (sender-stored (now_at (goal.at.loop-done-preserved-in-Sender c).After-whose_turn-now) (full_at (goal.at.loop-done-preserved-in-Sender c).After-whose_turn-now) _ (sender-known (goal.at.loop-done-preserved-in-Sender c).In-Sender) c.sender_acts-acts.result c.sender_acts-acts.ensures c.if-acts-ne0-2.false c.arrive-arrival-in-Sender.result (arrived-known (goal.at.loop-done-preserved-in-Sender c).After-arrive-arrival-in-Sender) c.if-arrival-ne0-2.false
    c.waiting_at-new.result (waits-known (goal.at.loop-done-preserved-in-Sender c).After-waiting_at-new) c.sender_slot-in-Sender.result c.sender_slot-in-Sender.ensures c.link_slot-in-Sender.result c.link_slot-in-Sender.ensures
    c.sender_note-note.result c.sender_note-note.ensures)
    refl (senders_few (now_at (goal.at.loop-done-preserved-in-Sender c).After-whose_turn-now) (sender-known (goal.at.loop-done-preserved-in-Sender c).In-Sender).fits)
    (sender-none (now_at (goal.at.loop-done-preserved-in-Sender c).After-whose_turn-now) (full_at (goal.at.loop-done-preserved-in-Sender c).After-whose_turn-now) _ (sender-known (goal.at.loop-done-preserved-in-Sender c).In-Sender) c.sender_acts-acts.result c.sender_acts-acts.ensures c.if-acts-ne0-2.false c.arrive-arrival-in-Sender.result (arrived-known (goal.at.loop-done-preserved-in-Sender c).After-arrive-arrival-in-Sender) c.if-arrival-ne0-2.false c.sender_slot-in-Sender.result c.link_slot-in-Sender.result)

pub offset_bounds-st-i-in-Toggler : goal.offset_bounds-st-i-in-Toggler
offset_bounds-st-i-in-Toggler c = omega (arith, (toggler-known c).below)

pub bounds-st-i-in-Toggler : goal.bounds-st-i-in-Toggler
bounds-st-i-in-Toggler c = (toggler-known c).below

pub returns-then-toggle-ne0 : goal.returns-then-toggle-ne0
returns-then-toggle-ne0 c =
    let s = now_at (goal.at.returns-then-toggle-ne0 c).After-whose_turn-now in
    stopped (goal.at.returns-then-toggle-ne0 c).After-whose_turn-now _ ((toggler-known (goal.at.returns-then-toggle-ne0 c).In-Toggler).tick ∙ ap (ticked s) (toggler_stops s _ c.toggle-toggle.result c.toggle-toggle.ensures (ne_eqb _ _ c.if-toggle-ne0.true)))

pub offset_bounds-st-i-in-Toggler-2 : goal.offset_bounds-st-i-in-Toggler-2
offset_bounds-st-i-in-Toggler-2 c = omega (arith, (toggler-known (goal.at.offset_bounds-st-i-in-Toggler-2 c).In-Toggler).below)

pub bounds-st-i-in-Toggler-2 : goal.bounds-st-i-in-Toggler-2
bounds-st-i-in-Toggler-2 c = (toggler-known (goal.at.bounds-st-i-in-Toggler-2 c).In-Toggler).below

pub offset_bounds-st-i-in-Toggler-3 : goal.offset_bounds-st-i-in-Toggler-3
offset_bounds-st-i-in-Toggler-3 c = omega (arith, (toggler-known (goal.at.offset_bounds-st-i-in-Toggler-3 c).In-Toggler).below)

pub bounds-st-i-in-Toggler-3 : goal.bounds-st-i-in-Toggler-3
bounds-st-i-in-Toggler-3 c = (toggler-known (goal.at.bounds-st-i-in-Toggler-3 c).In-Toggler).below

pub offset_bounds-st-i-in-Toggler-4 : goal.offset_bounds-st-i-in-Toggler-4
offset_bounds-st-i-in-Toggler-4 c = omega (arith, (toggler-known (goal.at.offset_bounds-st-i-in-Toggler-4 c).In-Toggler).below)

pub bounds-st-i-in-Toggler-4 : goal.bounds-st-i-in-Toggler-4
bounds-st-i-in-Toggler-4 c = (toggler-known (goal.at.bounds-st-i-in-Toggler-4 c).In-Toggler).below

pub offset_bounds-st-i-in-Toggler-5 : goal.offset_bounds-st-i-in-Toggler-5
offset_bounds-st-i-in-Toggler-5 c = omega (arith, (toggler-known (goal.at.offset_bounds-st-i-in-Toggler-5 c).In-Toggler).below)

pub bounds-st-i-in-Toggler-5 : goal.bounds-st-i-in-Toggler-5
bounds-st-i-in-Toggler-5 c = (toggler-known (goal.at.bounds-st-i-in-Toggler-5 c).In-Toggler).below

pub offset_bounds-st-i-in-Toggler-6 : goal.offset_bounds-st-i-in-Toggler-6
offset_bounds-st-i-in-Toggler-6 c = omega (arith, (toggler-known (goal.at.offset_bounds-st-i-in-Toggler-6 c).In-Toggler).below)

pub bounds-st-i-in-Toggler-6 : goal.bounds-st-i-in-Toggler-6
bounds-st-i-in-Toggler-6 c = (toggler-known (goal.at.bounds-st-i-in-Toggler-6 c).In-Toggler).below

pub overflow_mul-toggler_place : goal.overflow_mul-toggler_place
overflow_mul-toggler_place c = omega (arith, (toggler-known (goal.at.overflow_mul-toggler_place c).In-Toggler).below)

pub overflow_add-toggler_place : goal.overflow_add-toggler_place
overflow_add-toggler_place c = omega (arith, (toggler-known (goal.at.overflow_add-toggler_place c).In-Toggler).below)

pub offset_bounds-st-toggler_place : goal.offset_bounds-st-toggler_place
offset_bounds-st-toggler_place c = omega (arith, (toggler-known (goal.at.offset_bounds-st-toggler_place c).In-Toggler).below)

pub bounds-st-toggler_place : goal.bounds-st-toggler_place
bounds-st-toggler_place c = omega (arith, (toggler-known (goal.at.bounds-st-toggler_place c).In-Toggler).below)

pub overflow_mul-place-in-Toggler : goal.overflow_mul-place-in-Toggler
overflow_mul-place-in-Toggler c = omega (arith, (toggler-known (goal.at.overflow_mul-place-in-Toggler c).In-Toggler).below)

pub overflow_add-place-in-Toggler : goal.overflow_add-place-in-Toggler
overflow_add-place-in-Toggler c = omega (arith, (toggler-known (goal.at.overflow_add-place-in-Toggler c).In-Toggler).below)

pub offset_bounds-st-place-in-Toggler : goal.offset_bounds-st-place-in-Toggler
offset_bounds-st-place-in-Toggler c = omega (arith, (toggler-known (goal.at.offset_bounds-st-place-in-Toggler c).In-Toggler).below)

pub bounds-st-place-in-Toggler : goal.bounds-st-place-in-Toggler
bounds-st-place-in-Toggler c = omega (arith, (toggler-known (goal.at.bounds-st-place-in-Toggler c).In-Toggler).below)

pub offset_bounds-st-place-in-Toggler-2 : goal.offset_bounds-st-place-in-Toggler-2
offset_bounds-st-place-in-Toggler-2 c = omega (arith, (toggler-known (goal.at.offset_bounds-st-place-in-Toggler-2 c).In-Toggler).below)

pub bounds-st-place-in-Toggler-2 : goal.bounds-st-place-in-Toggler-2
bounds-st-place-in-Toggler-2 c = omega (arith, (toggler-known (goal.at.bounds-st-place-in-Toggler-2 c).In-Toggler).below)

pub toggler_note-note-requires : goal.toggler_note-note-requires
toggler_note-note-requires c = (toggler-known (goal.at.toggler_note-note-requires c).In-Toggler).below

pub loop-done-preserved : goal.loop-done-preserved
loop-done-preserved c =
    moved (goal.at.loop-done-preserved c).After-whose_turn-now _ _
    (toggler_stored (now_at (goal.at.loop-done-preserved c).After-whose_turn-now) (full_at (goal.at.loop-done-preserved c).After-whose_turn-now) _ (toggler-known (goal.at.loop-done-preserved c).In-Toggler) c.toggle-toggle.result c.toggle-toggle.ensures c.if-toggle-ne0.false c.switched-switched.result c.switched-switched.ensures c.metered-metered.result c.metered-metered.ensures
    c.toggler_slot.result c.toggler_slot.ensures c.sender_slot-in-Toggler.result c.sender_slot-in-Toggler.ensures c.toggler_note-note.result c.toggler_note-note.ensures)
    refl (senders_few (now_at (goal.at.loop-done-preserved c).After-whose_turn-now) (toggler-known (goal.at.loop-done-preserved c).In-Toggler).fits)
    (toggler_none (now_at (goal.at.loop-done-preserved c).After-whose_turn-now) (full_at (goal.at.loop-done-preserved c).After-whose_turn-now) _ (toggler-known (goal.at.loop-done-preserved c).In-Toggler) c.toggle-toggle.result c.toggle-toggle.ensures c.if-toggle-ne0.false c.switched-switched.result c.switched-switched.ensures c.metered-metered.result c.metered-metered.ensures c.toggler_slot.result c.sender_slot-in-Toggler.result)

pub returns-after-loop-done : goal.returns-after-loop-done
returns-after-loop-done c = let l = c.loop-done in ends_kept _ _ _ _ _ _ _ l.st l.ripe l.invariant.1 c.loop-done-test.false
