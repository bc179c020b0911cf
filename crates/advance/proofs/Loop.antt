-- What each arm of the loop knows and stores: the turn, what is in range, and the state as it is stored. One variable and one equation for each call. Assumes nothing.
use Rattle.std.proofs.Common.{Option, Some, None}
use mathlib.Core.Path.{◌≡◌, refl, sym, ap, subst, ◌∙◌}
use mathlib.Core.Bool.{Bool, true, false, cond, true≢false}
use mathlib.Core.List.{List}
use Prim.Native.Nat.{ℕ, zero, suc, ◌+◌, ◌*◌, ◌≤◌, ◌<◌, ◌^◌}
use native.Mathlib.Nat.{zero-add}
use native.Mathlib.Omega.{arith}
use lib.ListN.{length, get_or, set}
use lib.Seq.{get_or-set_same, set-get_or}
use lib.Dec.{ltb, leb, eqb}
use borrow.Author.Tests.{ltb-true}
use Rattle.quantities.specs.declared.time.Time.{Time}
use Rattle.quantities.specs.declared.time_span.TimeSpan.{TimeSpan}
use Rattle.quantities.specs.declared.information_rate.InformationRate.{InformationRate}
use Rattle.quantities.specs.Units.{span_of, rate_of, amount_of}
use Rattle.meters.specs.declared.meter.AverageFlowMeter.{AverageFlowMeter}
use Rattle.meters.specs.Meter.{switched_of}
use Rattle.link.specs.declared.packet.Packet.{Packet}
use Rattle.link.specs.declared.packet.Waiting.{Waiting}
use Rattle.link.specs.declared.packet.Transit.{Transit}
use Rattle.link.specs.declared.link.Line.{Line}
use Rattle.link.specs.declared.link.Left.{Left}
use Rattle.link.specs.declared.link.Arrival.{Arrival}
use Rattle.link.specs.declared.link.Transmitted.{Transmitted}
use Rattle.sender.specs.declared.lossy.LossySender.{LossySender}
use Rattle.toggler.specs.declared.toggler.Toggled.{Toggled}
use Rattle.toggler.specs.declared.tick_queue.Queued.{Queued}
use Rattle.link.specs.Ring.{places, slot_of}
use Rattle.link.specs.Link.{admits, receive_of, is_free, try_deliver, try_transmit}
use Rattle.toggler.specs.Toggler.{toggle_of}
use Rattle.toggler.specs.Queue.{no_queued}
use Rattle.toggler.proofs.Pick.{NoneFrom, none-set}
use Rattle.remy.specs.declared.network.RemyNetwork.{RemyNetwork}
use Rattle.remy.specs.declared.simulation.Simulation.{Simulation}
use Rattle.remy.specs.declared.simulation.TickRecord.{TickRecord}
use Rattle.remy.specs.State.{has_back, line_count, values_of, Role, link, bouncer, sender, toggler, no_waiting, no_transit, no_sender, no_toggler, line_at, sender_at, toggler_at, meter_at, front_of, first_of, sender_bits, packet_bits}
use Rattle.remy.specs.Queue.{part_of, picked}
use Rattle.remy.specs.Fit.{fit}
use Rattle.remy.specs.HeldTimes.{Full}
use Rattle.remy.specs.Tick.{to_bouncer, moves, stops, outcome_of, unmoved, ticked, tick_of}
use Rattle.remy.proofs.Facts.{first-there, second_there, lines_few}
use Rattle.remy.proofs.Roles.{Real, part_below}
use Rattle.remy.proofs.Steps.{cond_elim}
use Rattle.queueing.specs.declared.Now.{Now}
use Rattle.turns.specs.declared.LinkValues.{LinkValues}
use Rattle.turns.specs.declared.LinkActed.{LinkActed}
use Rattle.turns.specs.declared.Hearing.{Hearing}
use Rattle.turns.specs.declared.SenderActed.{SenderActed}
use Rattle.turns.specs.declared.Arriving.{Arriving}
use Rattle.queueing.proofs.Parts.{fit_none}
use Rattle.queueing.specs.Queueing.{now_of, link_slot, sender_slot, toggler_slot}
use Rattle.turns.specs.Turns.{owner_of, link_values, link_acted, on_line_at, passed_on, heard_by, link_note, toggler_note, switched_to, sender_acted, arrived_at, waiting_at, sender_note}
use Rattle.turns.proofs.InRange.{on-line_range}
use Rattle.advance.proofs.Arms.{goes_on, home_moves, pass_moves, pass_stops, sender-moves, toggler_moves}
use Rattle.advance.proofs.Ticks.{parts_of, TickAs, now_tick, senders_few, room, own-packet}

-- ---- whose turn it is

-- of the link of line l
pub record LinkTurn (s : Simulation) (l : ℕ) : Type 0 where
  pub fits : fit s ≡ true
  pub there : l < line_count s.network
  pub below : l < 2
  pub few : s.network.senders ≤ 16
  pub tick : tick_of s ≡ ticked s (outcome_of s (link l))

-- of the part with this role, of sender i
pub record Turn (s : Simulation) (role : Role) (i : ℕ) : Type 0 where
  pub fits : fit s ≡ true
  pub inside : i < s.network.senders
  pub below : i < 16
  pub tick : tick_of s ≡ ticked s (outcome_of s role)

-- the first line is there, and the return line where there is one
pub first-line : (n : RemyNetwork) → 0 < line_count n
first-line n = first-there (has_back n.back)

module _ (s : Simulation) (b : Bool) (f : b ≡ fit s) (t : Now) (g : t ≡ now_of b s.head s.network.senders (has_back s.network.back)) where
  turn_as : (w : Now) → t ≡ w → TickAs s w
  turn_as w e = subst (TickAs s) e (now_tick s t (g ∙ ap (λ (x : Bool). now_of x s.head s.network.senders (has_back s.network.back)) f))

  pub no_turn : (k : ℕ) → t ≡ Now.Stop k → tick_of s ≡ unmoved s k
  no_turn k e = turn_as (Now.Stop k) e

  pub link_turn : (l : ℕ) → t ≡ Now.Link l → LinkTurn s l
  link_turn l e =
      let r = turn_as (Now.Link l) e in
      let inside = r.1 in
      record { fits = r.0; there = inside; below = omega (arith, lines_few (has_back s.network.back), inside); few = senders_few s r.0; tick = r.2 }

  -- by a turn of the part with this role
  part_turn : (role : Role) (i : ℕ) → (fit s ≡ true) × (i < s.network.senders) × (tick_of s ≡ ticked s (outcome_of s role)) → Turn s role i
  part_turn role i r = let inside = r.1 in record { fits = r.0; inside = inside; below = omega (arith, senders_few s r.0, inside); tick = r.2 }

  pub sender_turn : (i : ℕ) → t ≡ Now.Sender i → Turn s (sender i) i
  sender_turn i e = part_turn (sender i) i (turn_as (Now.Sender i) e)

  pub toggler_turn : (i : ℕ) → t ≡ Now.Toggler i → Turn s (toggler i) i
  toggler_turn i e = part_turn (toggler i) i (turn_as (Now.Toggler i) e)

-- ---- what is in range

pub owner-small : (p : Packet) (k : ℕ) → k ≡ owner_of p → k < 16
owner-small p k e = subst (λ (x : ℕ). x < 16) (sym e) (by (ltb p.sender 16) refl)
  where
    by : (b : Bool) → ltb p.sender 16 ≡ b → cond b p.sender 0 < 16
    by true h = ltb-true _ _ h
    by false h = omega arith

-- a start moves no ring's start but that of the packets that wait
module _ (l : Line) (clock : Time) (first : Waiting) (delay : TimeSpan) (rate : InformationRate) where
  keeps_start : (try_transmit l clock first delay rate).line.on_line.start ≡ l.on_line.start
  unfolding try_transmit
  keeps_start =
      let P : Transmitted → Type 0 = λ t. t.line.on_line.start ≡ l.on_line.start in
      cond_elim P (is_free l clock) _ _ (λ a. cond_elim P (leb places l.on_line.count) _ _ (λ b. refl) (λ b. refl)) (λ a. refl)

module _ (v : LinkValues) (x : Line) (clock : Time) (front : Transit) (first : Waiting) (c : LinkActed) (e : c ≡ link_acted v x clock front first) where
  pub link_at : c.at < places
  unfolding link_acted
  link_at = subst (λ (y : LinkActed). y.at < places) (sym e) (omega arith)

  pub link_start : x.on_line.start < places → x.on_line.count ≤ places → c.line.on_line.start < places
  unfolding link_acted
  link_start start count =
      subst (λ (y : LinkActed). y.line.on_line.start < places) (sym e)
      (subst (λ (y : ℕ). y < places) (sym (keeps_start (try_deliver x clock front v.loss).line clock first (span_of v.delay) (rate_of v.rate))) (on-line_range x clock front v.loss start count).0)

module _ (l : ℕ) (limit : Option ℕ) (bits : ℕ) (x : Line) (sending : Option Packet) (b : Arriving) (e : b ≡ arrived_at l limit bits x sending) where
  pub arrive_at : b.at < places
  unfolding arrived_at
  arrive_at = subst (λ (y : Arriving). y.at < places) (sym e) (by sending)
    where
      by : (w : Option Packet) → (arrived_at l limit bits x w).at < places
      by None = omega arith
      by (Some p) = omega arith

  pub arrive_start : x.on_line.start < places → b.line.on_line.start < places
  unfolding arrived_at receive_of
  arrive_start h = subst (λ (y : Arriving). y.line.on_line.start < places) (sym e) (by sending)
    where
      by : (w : Option Packet) → (arrived_at l limit bits x w).line.on_line.start < places
      by None = h
      by (Some p) =
          let P : Arrival → Type 0 = λ a. a.line.on_line.start < places in
          cond_elim P (admits limit x.buffer_contains (amount_of bits)) _ _ (λ t. cond_elim P (leb places x.waiting.count) _ _ (λ u. h) (λ u. h)) (λ t. h)

-- ---- the places of the queue

-- what is stored at a part's place leaves those past the parts without a time
none-at : (n : RemyNetwork) (queue : List Queued) (role : Role) → Real n role → (x : Queued) → NoneFrom (parts_of n) queue → NoneFrom (parts_of n) (set queue (part_of n.senders role) x)
none-at n queue role r x = none-set queue (parts_of n) (part_of n.senders role) x (part_below n role r)

-- ---- a packet that is passed on

-- only the first line's are, where there is a return line
only_first : (n : RemyNetwork) (l : ℕ) → to_bouncer n l ≡ true → (l ≡ 0) × (has_back n.back ≡ true)
only_first n zero e = (refl, e)
only_first n (suc l) e = absurd (true≢false (sym e))

module _ (s : Simulation) (full : Full s) (l : ℕ) (t : LinkTurn s l) (k : ℕ) (ek : k ≡ owner_of (front_of s l).packet)
    (c : LinkActed) (ec : c ≡ link_acted (link_values (values_of s.network l)) (line_at s l) s.head.clock (front_of s l) (first_of s l))
    (w : Option Packet) (ew : w ≡ passed_on s.network l c.left) (p : Packet) (wp : w ≡ Some p) where
  pub passes-out : c.left ≡ Left.Out p
  passes-out = (goes_on s.network l c.left p (sym ew ∙ wp)).0

  passes_to : to_bouncer s.network l ≡ true
  passes_to = (goes_on s.network l c.left p (sym ew ∙ wp)).1

  passes-other : 1 ≡ l → ⊥
  passes-other e = let first = (only_first s.network l passes_to).0 in omega (arith, first, e)

  pub second_line : 1 < line_count s.network
  second_line = second_there (has_back s.network.back) (only_first s.network l passes_to).1

  passes-own : (packet_bits s.network p).0 ≡ (sender_bits s.network k).0
  passes-own = ap (λ (j : ℕ). (sender_bits s.network j).0) (own-packet s t.fits full l t.there k ek c ec p passes-out).0

  -- it finds room in the waiting bits of the return line
  pub passes_room : (line_at s 1).buffer_contains.0 + (sender_bits s.network k).0 < 2 ^ 64
  passes_room = room s t.fits full 1 second_line k (own-packet s t.fits full l t.there k ek c ec p passes-out).1

  module _ (z : c.number ≡ 0) (b : Arriving) (eb : b ≡ arrived_at 1 (values_of s.network 1).limit (sender_bits s.network k).0 (line_at s 1) w) where
    arrives_so : b ≡ arrived_at 1 (values_of s.network 1).limit (sender_bits s.network k).0 (line_at s 1) (Some p)
    arrives_so = eb ∙ ap (arrived_at 1 (values_of s.network 1).limit (sender_bits s.network k).0 (line_at s 1)) wp

    pub pass_stopped : eqb b.number 0 ≡ false → outcome_of s (link l) ≡ stops b.number
    pass_stopped y = pass_stops s l full.lines t.below c ec p z passes-out passes_to passes-other (sender_bits s.network k).0 passes-own b arrives_so y

    arrives_true : b.arrives ≡ true
    unfolding arrived_at
    arrives_true = ap (λ (x : Arriving). x.arrives) arrives_so

    pub pass_stored : b.number ≡ 0 → (new : Transit) → new ≡ on_line_at c.begun (get_or s.on_line (slot_of l c.at) no_transit)
        → (place : ℕ) → place ≡ part_of s.network.senders (link l)
        → (waits : Waiting) → waits ≡ waiting_at b.admitted (sender_bits s.network k).0 w (get_or s.waiting (slot_of 1 b.at) no_waiting)
        → (q0 : Queued) → q0 ≡ link_slot true c.line s.head.clock (get_or (set s.on_line (slot_of l c.at) new) (slot_of l c.line.on_line.start) no_transit) (get_or s.queue place no_queued)
        → let before = set (set s.queue place q0) (1 + 2 * s.network.senders) no_queued in
        (q1 : Queued) → q1 ≡ link_slot true b.line s.head.clock (get_or (set s.on_line (slot_of l c.at) new) (slot_of 1 b.line.on_line.start) no_transit) (get_or before (2 + 2 * s.network.senders) no_queued)
        → (note : TickRecord) → note ≡ link_note s.head.clock place c.left c.begun b.mark
        → tick_of s ≡ ticked s (moves note
        (picked (record {
          network = s.network;
          head = s.head;
          lines = set (set s.lines l c.line) 1 b.line;
          waiting = set s.waiting (slot_of 1 b.at) waits;
          on_line = set s.on_line (slot_of l c.at) new;
          senders = s.senders;
          togglers = s.togglers;
          meters = s.meters;
          queue = set before (2 + 2 * s.network.senders) q1;
        })))
    pass_stored y new en place ep waits es q0 e0 q1 e1 note eo =
        let bits = (sender_bits s.network k).0 in
        rw (eo, e1, e0, es, wp, en, ep)
        (t.tick ∙ ap (ticked s) (rw arrives_true at (pass_moves s l full.lines t.below c ec p z passes-out passes_to passes-other bits passes-own b arrives_so y)))

    -- no place but those of the parts holds a time
    pub pass_none : (place : ℕ) → place ≡ part_of s.network.senders (link l) → (q0 q1 : Queued)
        → NoneFrom (parts_of s.network) (set (set (set s.queue place q0) (1 + 2 * s.network.senders) no_queued) (2 + 2 * s.network.senders) q1)
    pass_none place ep q0 q1 =
        let n = s.network in
        let first = set s.queue (part_of n.senders (link l)) q0 in
        rw ep
        (none-at n (set first (part_of n.senders bouncer) no_queued) (link 1) second_line q1
        (none-at n first bouncer (only_first n l passes_to).1 no_queued (none-at n s.queue (link l) t.there q0 (fit_none s t.fits full))))

-- ---- what is stored

-- a part's place is worked out from what its turn gave, which is what is then stored
stored_slot : {A : Type 0} (slot : A → Queued) (d : A) (l : List A) (n i : ℕ) → length l ≡ n → i < n → (x : A) (q : Queued) → q ≡ slot x → q ≡ slot (get_or (set l i x) i d)
stored_slot slot d l n i full inside x q e = e ∙ ap slot (sym (get_or-set_same l i x d (omega (arith, inside, full))))

module _ (s : Simulation) (full : Full s) (l : ℕ) (t : LinkTurn s l) (k : ℕ) (ek : k ≡ owner_of (front_of s l).packet)
    (c : LinkActed) (ec : c ≡ link_acted (link_values (values_of s.network l)) (line_at s l) s.head.clock (front_of s l) (first_of s l)) (z : c.number ≡ 0)
    (w : Option Packet) (ew : w ≡ passed_on s.network l c.left) (home : w ≡ None)
    (h : Hearing) (eh : h ≡ heard_by s.network.policy (sender_bits s.network k).0 s.head.clock l c.left (sender_at s k) (meter_at s k)) where
  pub home_stored : (new : Transit) → new ≡ on_line_at c.begun (get_or s.on_line (slot_of l c.at) no_transit)
      → (place : ℕ) → place ≡ part_of s.network.senders (link l)
      → (q0 : Queued) → q0 ≡ link_slot true c.line s.head.clock (get_or (set s.on_line (slot_of l c.at) new) (slot_of l c.line.on_line.start) no_transit) (get_or s.queue place no_queued)
      → (q1 : Queued) → q1 ≡ sender_slot h.heard h.sender s.head.clock (get_or (set s.queue place q0) (1 + 2 * k) no_queued)
      → (note : TickRecord) → note ≡ link_note s.head.clock place c.left c.begun h.mark
      → tick_of s ≡ ticked s (moves note
      (picked (record {
        network = s.network;
        head = s.head;
        lines = set s.lines l c.line;
        waiting = s.waiting;
        on_line = set s.on_line (slot_of l c.at) new;
        senders = set s.senders k h.sender;
        togglers = s.togglers;
        meters = set s.meters k h.meter;
        queue = set (set s.queue place q0) (1 + 2 * k) q1;
      })))
  home_stored new en place ep q0 e0 q1 e1 note eo =
      let stored = stored_slot (λ y. sender_slot h.heard y s.head.clock (get_or (set s.queue place q0) (1 + 2 * k) no_queued)) no_sender s.senders 16 k full.senders (owner-small (front_of s l).packet k ek) h.sender q1 e1 in
      rw (eo, stored, e0, en, ep)
      (t.tick ∙ ap (ticked s) (home_moves s l full.lines t.below c ec z k (λ p o. (own-packet s t.fits full l t.there k ek c ec p o).0) (sym ew ∙ home) h eh))

  -- a sender that hears of its packet is there; else what was queued is stored again
  heard_there : h.heard ≡ true → k < s.network.senders
  unfolding heard_by
  heard_there e = by c.left refl (sym (ap (λ (x : Hearing). x.heard) eh) ∙ e)
    where
      by : (left : Left) → c.left ≡ left → (heard_by s.network.policy (sender_bits s.network k).0 s.head.clock l left (sender_at s k) (meter_at s k)).heard ≡ true → k < s.network.senders
      by Left.Nobody o y = absurd (true≢false (sym y))
      by (Left.Lost p) o y = absurd (true≢false (sym y))
      by (Left.Out p) o y = (own-packet s t.fits full l t.there k ek c ec p o).1

  pub home_none : (place : ℕ) → place ≡ part_of s.network.senders (link l) → (q0 q1 : Queued) → q1 ≡ sender_slot h.heard h.sender s.head.clock (get_or (set s.queue place q0) (1 + 2 * k) no_queued)
      → NoneFrom (parts_of s.network) (set (set s.queue place q0) (1 + 2 * k) q1)
  home_none place ep q0 q1 e1 = by h.heard refl e1
    where
      before : NoneFrom (parts_of s.network) (set s.queue place q0)
      before = rw ep (none-at s.network s.queue (link l) t.there q0 (fit_none s t.fits full))

      by : (b : Bool) → h.heard ≡ b → q1 ≡ sender_slot b h.sender s.head.clock (get_or (set s.queue place q0) (1 + 2 * k) no_queued) → NoneFrom (parts_of s.network) (set (set s.queue place q0) (1 + 2 * k) q1)
      by true e y = none-at s.network (set s.queue place q0) (sender k) (heard_there e) q1 before
      by false e y = rw (y, set-get_or (set s.queue place q0) (1 + 2 * k) no_queued) before

module _ (s : Simulation) (full : Full s) (i : ℕ) (t : Turn s (sender i) i) (a : SenderActed) (ea : a ≡ sender_acted s.network s.head.clock (sender_at s i) i) (y : a.number ≡ 0)
    (b : Arriving) (eb : b ≡ arrived_at 0 s.network.line.limit (sender_bits s.network i).0 (line_at s 0) a.sending) (z : b.number ≡ 0) where
  pub sender-stored : (new : Waiting) → new ≡ waiting_at b.admitted (sender_bits s.network i).0 a.sending (get_or s.waiting b.at no_waiting)
      → (q1 : Queued) → q1 ≡ sender_slot true a.sender s.head.clock (get_or s.queue (1 + 2 * i) no_queued)
      → (q0 : Queued) → q0 ≡ link_slot b.arrives b.line s.head.clock (get_or s.on_line b.line.on_line.start no_transit) (get_or (set s.queue (1 + 2 * i) q1) 0 no_queued)
      → (note : TickRecord) → note ≡ sender_note s.head.clock i a.sending b.mark
      → tick_of s ≡ ticked s (moves note
      (picked (record {
        network = s.network;
        head = s.head;
        lines = set s.lines 0 b.line;
        waiting = set s.waiting b.at new;
        on_line = s.on_line;
        senders = set s.senders i a.sender;
        togglers = s.togglers;
        meters = s.meters;
        queue = set (set s.queue (1 + 2 * i) q1) 0 q0;
      })))
  sender-stored new en q1 e1 q0 e0 note eo =
      let stored = stored_slot (λ y. sender_slot true y s.head.clock (get_or s.queue (1 + 2 * i) no_queued)) no_sender s.senders 16 i full.senders t.below a.sender q1 e1 in
      rw (eo, e0, stored, en) (t.tick ∙ ap (ticked s) (rw (zero-add b.at, zero-add b.line.on_line.start) at (sender-moves s full.lines i a ea y b eb z)))

  pub sender-none : (q1 q0 : Queued) → NoneFrom (parts_of s.network) (set (set s.queue (1 + 2 * i) q1) 0 q0)
  sender-none q1 q0 = none-at s.network (set s.queue (1 + 2 * i) q1) (link 0) (first-line s.network) q0 (none-at s.network s.queue (sender i) t.inside q1 (fit_none s t.fits full))

module _ (s : Simulation) (full : Full s) (i : ℕ) (t : Turn s (toggler i) i) (g : Toggled) (eg : g ≡ toggle_of (toggler_at s i) s.head.clock s.network.on s.network.off) (y : g.number ≡ 0)
    (o : LossySender) (eo : o ≡ switched_to s.network.policy g.toggler.enabled (sender_at s i) s.head.clock)
    (m : AverageFlowMeter) (em : m ≡ (switched_of (meter_at s i) g.toggler.enabled s.head.clock).meter) where
  pub toggler_stored : (q2 : Queued) → q2 ≡ toggler_slot g.toggler
      → (q1 : Queued) → q1 ≡ sender_slot true o s.head.clock (get_or (set s.queue (2 + 2 * i) q2) (1 + 2 * i) no_queued)
      → (note : TickRecord) → note ≡ toggler_note s.head.clock i g.toggler.enabled
      → tick_of s ≡ ticked s (moves note
      (picked (record {
        network = s.network;
        head = s.head;
        lines = s.lines;
        waiting = s.waiting;
        on_line = s.on_line;
        senders = set s.senders i o;
        togglers = set s.togglers i g.toggler;
        meters = set s.meters i m;
        queue = set (set s.queue (2 + 2 * i) q2) (1 + 2 * i) q1;
      })))
  toggler_stored q2 e2 q1 e1 note en =
      let flips = stored_slot toggler_slot no_toggler s.togglers 16 i full.togglers t.below g.toggler q2 e2 in
      let sends = stored_slot (λ y. sender_slot true y s.head.clock (get_or (set s.queue (2 + 2 * i) q2) (1 + 2 * i) no_queued)) no_sender s.senders 16 i full.senders t.below o q1 e1 in
      rw (en, sends, flips) (t.tick ∙ ap (ticked s) (toggler_moves s i g eg y o eo m em))

  pub toggler_none : (q2 q1 : Queued) → NoneFrom (parts_of s.network) (set (set s.queue (2 + 2 * i) q2) (1 + 2 * i) q1)
  toggler_none q2 q1 = none-at s.network (set s.queue (2 + 2 * i) q2) (sender i) t.inside q1 (none-at s.network s.queue (toggler i) t.inside q2 (fit_none s t.fits full))
