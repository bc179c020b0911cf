-- What a tick makes of the times that a state holds, for any claims of their kinds that the new times have. So doubles stay doubles, plain times stay plain, times from
-- the clock on stay so, and a held time is old or new, by one proof over the tick. Assumes nothing.
use Rattle.std.proofs.Common.{Option, Some, None}
use mathlib.Core.Path.{◌≡◌, refl, sym, subst, ◌∙◌, ap}
use mathlib.Core.Bool.{Bool, true, false, not, cond}
use mathlib.Core.List.{List, [], ◌∷◌}
use Prim.Native.Nat.{ℕ, zero, suc, ◌+◌, ◌*◌, ◌<◌}
use native.Mathlib.Omega.{arith}
use borrow.Author.Tests.{eqb-false, leb-false}
use lib.Dec.{leb, eqb}
use lib.Ieee.{lt}
use lib.ListN.{length, get_or, set, length-set}
use Rattle.quantities.specs.declared.time.Time.{Time}
use Rattle.quantities.specs.Doubles.{power}
use Rattle.quantities.specs.Units.{span_of, rate_of, time_of, latest_of, earliest_opt_of}
use Rattle.draws.specs.Draws.{unit_of}
use Rattle.meters.specs.declared.meter.AverageFlowMeter.{AverageFlowMeter}
use Rattle.link.specs.declared.packet.Packet.{Packet}
use Rattle.link.specs.declared.packet.Waiting.{Waiting}
use Rattle.link.specs.declared.packet.Transit.{Transit}
use Rattle.link.specs.declared.link.Line.{Line}
use Rattle.link.specs.declared.link.Arrival.{Arrival}
use Rattle.link.specs.declared.link.Left.{Left}
use Rattle.link.specs.declared.link.Delivered.{Delivered}
use Rattle.link.specs.declared.link.Transmitted.{Transmitted}
use Rattle.sender.specs.declared.lossy.Policy.{Policy}
use Rattle.sender.specs.declared.lossy.Enabled.{Enabled}
use Rattle.sender.specs.declared.lossy.SenderState.{SenderState}
use Rattle.sender.specs.declared.lossy.SenderState.TheVariants as State
use Rattle.sender.specs.declared.lossy.LossySender.{LossySender}
use Rattle.sender.specs.declared.lossy.Heard.{Heard}
use Rattle.sender.specs.declared.lossy.Returned.{Returned}
use Rattle.sender.specs.declared.lossy.Sent.{Sent}
use Rattle.toggler.specs.declared.toggler.Toggler.{Toggler}
use Rattle.toggler.specs.declared.toggler.Toggled.{Toggled}
use Rattle.toggler.specs.declared.tick_queue.Queued.{Queued}
use Rattle.toggler.specs.declared.tick_queue.Picked.{Picked}
use Rattle.link.specs.Ring.{places, slot_of, place_after, popped, items}
use Rattle.link.specs.Link.{admits, admitted, receive_of, next_transmit, next_deliver, next_tick, departed, is_due, try_deliver, is_free, started_line, next_start, due_time, not_started, try_transmit}
use Rattle.sender.specs.Sender.{may_send, next_send, state_next, sender_next, timer_due, timer_sent, tick_timer, not_sent, sent_with, tick_send, with_state, acked, return_to, returned_of, enabled_of, disabled_of}
use Rattle.toggler.specs.Toggler.{next_toggle_of, toggle_draw, toggle_of}
use Rattle.toggler.specs.Queue.{no_queued, queue_places, pick_of}
use Rattle.link.proofs.Items.{Sound, items_push, items_pop, items-other, push_sound, pop_sound, store_sound}
use Rattle.link.proofs.Limits.{due_count}
use Rattle.toggler.proofs.Least.{picked-there, picked-inside}
use Rattle.remy.specs.declared.network.RemyNetwork.{RemyNetwork}
use Rattle.remy.specs.declared.simulation.Head.{Head}
use Rattle.remy.specs.declared.simulation.Simulation.{Simulation}
use Rattle.remy.specs.declared.simulation.Ticked.{Ticked}
use Rattle.remy.specs.declared.simulation.TickRecord.{TickRecord}
use Rattle.remy.specs.State.{has_back, line_count, values_of, Role, link, bouncer, sender, toggler, nobody, role_in, no_transit, no_line, no_sender, no_toggler, line_at, sender_at, toggler_at, queued_at, first_of, front_of, on_line_items, packet_bits, with_line, with_waiting, with_on_line, with_sender, with_toggler, with_meter, with_head, with_queue}
use Rattle.remy.specs.Queue.{end_of_time, own_time, part_of, requeue, head_of, removed, picked}
use Rattle.remy.specs.Tick.{named, Message, arrives, bounces, returns, Acted, left_record, to_bouncer, left_messages, link_with, link_acts, enabled_sender, timer_with, send_with, sender_with, sender_acts, toggler_with, toggler_acts, acts_of, Outcome, moves, stops, waits_with, arrive_with, heard_meter, switched_sender, deliver, deliver_all, pick_again, outcome_with, outcome_of, unmoved, ticked, tick_next, tick_of}
use Rattle.remy.specs.NewTimes.{start_times, gap_times, first_times, sender_times, part_times, times_next, new_times}
use Rattle.remy.proofs.Lists.{All, all_first, all_append, all_mapped, all_unmapped, all_member, member_all}
use Rattle.remy.proofs.Facts.{first-there, second_there, FitState, fit-state}
use Rattle.remy.proofs.Front.{rings, front-sender}
use Rattle.remy.proofs.Kept.{at_index, at_set, at_place, few_lines}
use Rattle.remy.proofs.Full.{full_queue}
use Rattle.remy.proofs.Outcomes.{OnMoves, on-stopped, bouncing}
use Rattle.remy.proofs.Roles.{Real, role_at}
use Rattle.remy.proofs.Steps.{cond_elim}
use Rattle.remy.specs.Build.{own_times, queued_all}
use Rattle.remy.specs.Fit.{fit}
use Rattle.remy.specs.HeldTimes.{Full, Kinds, IfAny, timer_of, due_times, Holds, Has}

-- ---- times that may be there

pub any_map : (P Q : Time → Type 0) → ((t : Time) → P t → Q t) → (o : Option Time) → IfAny P o → IfAny Q o
any_map P Q f None p = tt
any_map P Q f (Some t) p = f t p

any_earliest : (P : Time → Type 0) (a b : Option Time) → IfAny P a → IfAny P b → IfAny P (earliest_opt_of a b)
any_earliest P None b p q = q
any_earliest P (Some t) None p q = p
any_earliest P (Some t) (Some u) p q = by (lt u.0.0 t.0.0)
  where
    by : (b : Bool) → P (time_of (cond b u.0.0 t.0.0))
    by true = q
    by false = p

-- ---- what is asked of the claims

-- a time that has the claims of all kinds but the queue's
pub record Every (k : Kinds) (t : Time) : Type 0 where
  pub free : (l : ℕ) → k.free l t
  pub due : (l : ℕ) → k.due l t
  pub timer : (i : ℕ) → k.timer i t
  pub toggle : (i : ℕ) → k.toggle i t

-- what is queued has the queue's claim: the clock c itself, the later of it and an earliest start, and every other held time; so has MAX, the clock of an idle state
pub record Closed (k : Kinds) (c : Time) : Type 0 where
  pub now : k.queued c
  pub last : k.queued end_of_time
  pub freed : (l : ℕ) (t : Time) → k.free l t → k.queued (latest_of c t)
  pub left : (l : ℕ) (t : Time) → k.due l t → k.queued t
  pub fired : (i : ℕ) (t : Time) → k.timer i t → k.queued t
  pub turned : (i : ℕ) (t : Time) → k.toggle i t → k.queued t

-- ---- a line within a tick: line l is x, and its packets lie in these slots
record LineMid (k : Kinds) (l : ℕ) (moving : List Transit) (x : Line) : Type 0 where
  ring : Sound moving l x.on_line
  free : k.free l x.earliest_transmit
  due : All (λ y. k.due l y.due) (items no_transit moving l x.on_line)

-- what is put on another line
beside : {k : Kinds} {j : ℕ} {moving : List Transit} {y : Line} → LineMid k j moving y → (l p : ℕ) (x : Transit) → (j ≡ l → ⊥) → p < places
    → LineMid k j (set moving (slot_of l p) x) y
beside {k} {j} {moving} {y} d l p x other h =
    record {
      ring = store_sound d.ring (slot_of l p) x;
      free = d.free;
      due = subst (All (λ z. k.due j z.due)) (sym (items-other no_transit moving j y.on_line l p x other h)) d.due;
    }

-- ---- a state m within a tick of s
record Mid (k : Kinds) (s m : Simulation) : Type 0 where
  clock : m.head.clock ≡ s.head.clock
  network : m.network ≡ s.network
  full : Full m
  line : (l : ℕ) → l < line_count s.network → LineMid k l m.on_line (line_at m l)
  timer : (i : ℕ) → i < s.network.senders → IfAny (k.timer i) (timer_of (sender_at m i).state)
  toggle : (i : ℕ) → i < s.network.senders → k.toggle i (toggler_at m i).next_toggle
  queued : (j : ℕ) → j < queue_places → IfAny k.queued (queued_at m j)

begin : (k : Kinds) (s : Simulation) → Full s → ((l : ℕ) → l < line_count s.network → Sound s.on_line l (line_at s l).on_line) → Holds k s → Mid k s s
begin k s full ring h =
    record {
      clock = refl;
      network = refl;
      full = full;
      line = λ l there.
          record {
            ring = ring l there;
            free = h.free l there;
            due = all_unmapped (k.due l) (λ x. x.due) (on_line_items s l) (member_all (k.due l) (due_times s l) (h.due l there));
          };
      timer = h.timer;
      toggle = h.toggle;
      queued = h.queued;
    }

-- a turn of s: its record is at the clock, and the state after it has the claims
abbrev By : Kinds → Simulation → TickRecord → Simulation → Type 0
By k s r m = (r.time ≡ s.head.clock) × Has k m

-- what left is of one of the n senders
abbrev LeftOwn : ℕ → Left → Type 0
LeftOwn n Left.Nobody = Unit {0}
LeftOwn n (Left.Lost p) = Unit {0}
LeftOwn n (Left.Out p) = p.sender < n

-- a packet that comes back keeps its sender's timer
returned-timer : (policy : Policy) (y : LossySender) (p : Packet) → timer_of (returned_of policy y p).sender.state ≡ timer_of y.state
unfolding returned_of
returned-timer policy y p = by y.state refl
  where
    by : (x : SenderState) → y.state ≡ x → timer_of (return_to policy y x p).sender.state ≡ timer_of y.state
    by State.WaitingForEnable e = refl
    by (State.Enabled e) q =
        cond_elim (λ (r : Returned). timer_of r.sender.state ≡ timer_of y.state) (lt p.sent_time.0.0 e.started.0.0)
        (record { heard = Heard.Old; sender = y }) (record { heard = Heard.Counted; sender = with_state y (State.Enabled (acked policy e p)) })
        (λ old. refl) (λ new. ap timer_of (sym q))

module _ {k : Kinds} (s : Simulation) (closed : Closed k s.head.clock) where
  -- ---- stores
  module _ {m : Simulation} (d : Mid k s m) where
    with_sender_lem : (i : ℕ) (x : LossySender) → IfAny (k.timer i) (timer_of x.state) → Mid k s (with_sender m i x)
    with_sender_lem i x p =
        record {
          clock = d.clock;
          network = d.network;
          full = record { lines = d.full.lines; waiting = d.full.waiting; moving = d.full.moving; senders = length-set m.senders i x ∙ d.full.senders; togglers = d.full.togglers; meters = d.full.meters; queue = d.full.queue };
          line = d.line;
          timer = λ j h. at_index (λ l y. l < s.network.senders → IfAny (k.timer l) (timer_of y.state)) no_sender m.senders i x j (d.timer j) (λ g. p) h;
          toggle = d.toggle;
          queued = d.queued;
        }

    with_toggler_lem : (i : ℕ) (x : Toggler) → k.toggle i x.next_toggle → Mid k s (with_toggler m i x)
    with_toggler_lem i x p =
        record {
          clock = d.clock;
          network = d.network;
          full = record { lines = d.full.lines; waiting = d.full.waiting; moving = d.full.moving; senders = d.full.senders; togglers = length-set m.togglers i x ∙ d.full.togglers; meters = d.full.meters; queue = d.full.queue };
          line = d.line;
          timer = d.timer;
          toggle = λ j h. at_index (λ l y. l < s.network.senders → k.toggle l y.next_toggle) no_toggler m.togglers i x j (d.toggle j) (λ g. p) h;
          queued = d.queued;
        }

    with_meter_lem : (i : ℕ) (x : AverageFlowMeter) → Mid k s (with_meter m i x)
    with_meter_lem i x =
        record {
          clock = d.clock;
          network = d.network;
          full = record { lines = d.full.lines; waiting = d.full.waiting; moving = d.full.moving; senders = d.full.senders; togglers = d.full.togglers; meters = length-set m.meters i x ∙ d.full.meters; queue = d.full.queue };
          line = d.line;
          timer = d.timer;
          toggle = d.toggle;
          queued = d.queued;
        }

    -- line l anew, and as many places; the other lines are as they were
    with_line_lem : (l : ℕ) → l < line_count s.network → (x : Line) (waiting : List Waiting) (moving : List Transit) → length waiting ≡ places * 2 → length moving ≡ places * 2
        → ((j : ℕ) → (j ≡ l → ⊥) → (y : Line) → LineMid k j m.on_line y → LineMid k j moving y) → LineMid k l moving x
        → Mid k s (with_line (with_on_line (with_waiting m waiting) moving) l x)
    with_line_lem l there x waiting moving w o others new =
        record {
          clock = d.clock;
          network = d.network;
          full = record { lines = length-set m.lines l x ∙ d.full.lines; waiting = w; moving = o; senders = d.full.senders; togglers = d.full.togglers; meters = d.full.meters; queue = d.full.queue };
          line = λ j h. at_place (λ i y. LineMid k i moving y) no_line m.lines l x j (subst (λ (z : ℕ). l < z) (sym d.full.lines) (few_lines s.network l there)) (λ other. others j other (line_at m j) (d.line j h)) new;
          timer = d.timer;
          toggle = d.toggle;
          queued = d.queued;
        }

    -- ---- the requeue
    front-due : (l : ℕ) → l < line_count s.network → eqb (line_at m l).on_line.count 0 ≡ false → k.due l (front_of m l).due
    front-due l there e =
        let y = d.line l there in
        let some : (line_at m l).on_line.count ≡ 0 → ⊥ = eqb-false (line_at m l).on_line.count 0 e in
        all_first (λ (x : Transit). k.due l x.due) (front_of m l) (items no_transit m.on_line l (popped (line_at m l).on_line))
        (subst (All (λ x. k.due l x.due)) (items_pop y.ring no_transit (omega arith)) y.due)

    state-queued : (i sent : ℕ) (x : SenderState) → IfAny (k.timer i) (timer_of x) → IfAny k.queued (state_next sent x s.head.clock)
    state-queued i sent State.WaitingForEnable p = tt
    state-queued i sent (State.Enabled e) p =
        let c = s.head.clock in
        any_earliest k.queued (next_send sent e c) e.timer (cond_elim (IfAny k.queued) (may_send sent e) (Some c) None (λ z. closed.now) (λ z. tt))
        (any_map (k.timer i) k.queued (closed.fired i) e.timer p)

    own-queued : (role : Role) → Real s.network role → IfAny k.queued (own_time m role)
    unfolding own_time next_tick next_transmit next_deliver sender_next
    own-queued (link l) r =
        let x = line_at m l in
        let free = x.earliest_transmit in
        any_earliest k.queued (next_transmit x m.head.clock) (next_deliver x (front_of m l).due)
        (cond_elim (IfAny k.queued) (eqb x.waiting.count 0) None (Some (latest_of m.head.clock free)) (λ e. tt)
        (λ e. subst (λ (t : Time). k.queued (latest_of t free)) (sym d.clock) (closed.freed l free (d.line l r).free)))
        (cond_elim (IfAny k.queued) (eqb x.on_line.count 0) None (Some (front_of m l).due) (λ e. tt) (λ e. closed.left l (front_of m l).due (front-due l r e)))
    own-queued bouncer r = tt
    own-queued (sender i) r =
        subst (λ (t : Time). IfAny k.queued (state_next (sender_at m i).packets_sent (sender_at m i).state t)) (sym d.clock)
        (state-queued i (sender_at m i).packets_sent (sender_at m i).state (d.timer i r))
    own-queued (toggler i) r = closed.turned i (toggler_at m i).next_toggle (d.toggle i r)
    own-queued nobody r = absurd r

    requeued : (role : Role) → Real s.network role → Mid k s (requeue m role)
    unfolding requeue
    requeued role r =
        let new : Queued = record { time = own_time m role } in
        let place = part_of m.network.senders role in
        record {
          clock = d.clock;
          network = d.network;
          full = full_queue m m.head _ (length-set m.queue place new ∙ d.full.queue) d.full;
          line = d.line;
          timer = d.timer;
          toggle = d.toggle;
          queued = λ j h. at_set (λ (x : Queued). IfAny k.queued x.time) no_queued m.queue place new j (d.queued j h) (own-queued role r);
        }

    -- ---- the pick
    held_in : (queue : List Queued) (head : Head) → ((j : ℕ) → j < queue_places → IfAny k.queued (get_or queue j no_queued).time) → Holds k (with_head (with_queue m queue) head)
    held_in queue head q =
        record {
          free = λ l h. (d.line l (line-inside l h)).free;
          due = λ l h. all_member (k.due l) (due_times m l) (all_mapped (k.due l) (λ x. x.due) (on_line_items m l) (d.line l (line-inside l h)).due);
          timer = λ i h. d.timer i (inside i h);
          toggle = λ i h. d.toggle i (inside i h);
          queued = q;
        }
      where
        line-inside : (l : ℕ) → l < line_count m.network → l < line_count s.network
        line-inside l h = subst (λ (n : RemyNetwork). l < line_count n) d.network h

        inside : (i : ℕ) → i < m.network.senders → i < s.network.senders
        inside i h = subst (λ (n : RemyNetwork). i < n.senders) d.network h

    landed : (p : Picked) (o : Option Time) → IfAny k.queued o → Has k (with_head (with_queue m (removed m.queue p o)) (head_of p o))
    landed p None q = record { clock = closed.last; full = full_queue m _ m.queue d.full.queue d.full; held = held_in m.queue (head_of p None) d.queued }
    landed p (Some t) q =
        record {
          clock = q;
          full = full_queue m _ _ (length-set m.queue p.part no_queued ∙ d.full.queue) d.full;
          held =
              held_in (set m.queue p.part no_queued) (head_of p (Some t))
              (λ j h. at_set (λ (x : Queued). IfAny k.queued x.time) no_queued m.queue p.part no_queued j (d.queued j h) tt);
        }

    picked-queued : (o : Option Time) → (pick_of m.queue).time ≡ o → IfAny k.queued o
    picked-queued None e = tt
    picked-queued (Some t) e =
        subst (IfAny k.queued) (picked-there m.queue e) (d.queued (pick_of m.queue).part (subst (λ (x : ℕ). (pick_of m.queue).part < x) d.full.queue (picked-inside m.queue e)))

    lands : Has k (picked m)
    unfolding picked
    lands = landed (pick_of m.queue) (pick_of m.queue).time (picked-queued (pick_of m.queue).time refl)

  -- ---- messages

  heard_mid : {m : Simulation} → Mid k s m → (i : ℕ) (p : Packet) (h : Heard) → Mid k s (heard_meter m i p h)
  heard_mid d i p Heard.Ignored = d
  heard_mid d i p Heard.Old = d
  heard_mid d i p Heard.Counted = with_meter_lem d i _

  module _ {m : Simulation} (d : Mid k s m) (r : TickRecord) (now : r.time ≡ s.head.clock) (p : Packet) where
    -- a packet that arrives at line l: admitted, dropped full, or refused
    arrival : (l : ℕ) → l < line_count s.network → OnMoves (By k s) (pick_again (deliver r m (arrives l p)))
    unfolding deliver receive_of
    arrival l there =
        let x = line_at m l in
        let bits = packet_bits m.network p in
        let y = d.line l there in
        let dropped : Arrival = record { number = 0; admitted = false; line = x } in
        let taken : Arrival = record { number = 0; admitted = true; line = admitted x bits } in
        let full : Arrival = record { number = 12; admitted = false; line = x } in
        let F : Arrival → Type 0 = λ a. OnMoves (By k s) (pick_again (arrive_with r m l p a)) in
        cond_elim F (admits (values_of m.network l).limit x.buffer_contains bits) (cond (leb places x.waiting.count) full taken) dropped
        (λ fits. cond_elim F (leb places x.waiting.count) full taken (λ none. tt)
        (λ room.
        let at = slot_of l (place_after x.waiting) in (
          now,
          lands (requeued (with_line_lem d l there (admitted x bits) (set m.waiting at (waits_with m p)) m.on_line (length-set m.waiting at (waits_with m p) ∙ d.full.waiting) d.full.moving
              (λ j other line z. z) (record { ring = y.ring; free = y.free; due = y.due })) (link l) there),
        )))
        (λ over. (now, lands (requeued d (link l) there)))

    -- a packet that comes back to its sender
    comes_back_lem : p.sender < s.network.senders → OnMoves (By k s) (pick_again (deliver r m (returns p)))
    unfolding deliver
    comes_back_lem own =
        let x = returned_of m.network.policy (sender_at m p.sender) p in (
          now,
          lands (requeued (heard_mid (with_sender_lem d p.sender x.sender
              (subst (IfAny (k.timer p.sender)) (sym (returned-timer m.network.policy (sender_at m p.sender) p)) (d.timer p.sender own))) p.sender p x.heard) (sender p.sender) own),
        )

  -- a packet that left line l: to the bouncer, which has no time of its own, and on to the second line; or back to its sender
  passed_on_lem : {m : Simulation} → Mid k s m → (r : TickRecord) → r.time ≡ s.head.clock → (p : Packet) (l : ℕ) → p.sender < s.network.senders
      → OnMoves (By k s) (pick_again (deliver_all (moves r m) (cond (to_bouncer s.network l) (bounces p) (returns p) ∷ [])))
  unfolding deliver
  passed_on_lem {m} d r now p l own =
      cond_elim (λ (x : Message). OnMoves (By k s) (pick_again (deliver_all (moves r m) (x ∷ [])))) (to_bouncer s.network l) (bounces p) (returns p)
      (λ e. let back = (bouncing s.network l e).1 in arrival (requeued d bouncer back) r now p 1 (second_there (has_back s.network.back) back))
      (λ e. comes_back_lem d r now p own)

  -- ---- a link's turn
  module _ (l : ℕ) (there : l < line_count s.network) where
    link-ends : (left : Left) (started : Option (ℕ × ℕ)) {m : Simulation} → Mid k s m → LeftOwn s.network.senders left
        → OnMoves (By k s) (pick_again (deliver_all (moves (left_record s l left started) (requeue m (link l))) (left_messages s.network l left)))
    link-ends Left.Nobody started d own = (refl, lands (requeued d (link l) there))
    link-ends (Left.Lost p) started d own = (refl, lands (requeued d (link l) there))
    link-ends (Left.Out p) started d own = passed_on_lem (requeued d (link l) there) (left_record s l (Left.Out p) started) refl p l own

    -- a start on the line, which is x after what left
    starts : Mid k s s → (left : Left) (x : Line) → LeftOwn s.network.senders left → LineMid k l s.on_line x → All (Every k) (start_times s l x)
        → OnMoves (By k s)
        (outcome_with (link l)
        (link_with s l (record { left = left; line = x })
        (try_transmit x s.head.clock (first_of s l) (span_of (values_of s.network l).delay) (rate_of (values_of s.network l).rate))))
    unfolding try_transmit
    starts d left x own y new =
        let now = s.head.clock in
        let v = values_of s.network l in
        let size = (first_of s l).bits in
        let due = due_time now (span_of v.delay) in
        let free = next_start now size (rate_of v.rate) in
        let first : Transit = record { packet = (first_of s l).packet; due = due } in
        let go : Transmitted = record { number = 0; begun = Some first; line = started_line x size free } in
        let F : Transmitted → Type 0 = λ z. OnMoves (By k s) (outcome_with (link l) (link_with s l (record { left = left; line = x }) z)) in
        cond_elim F (is_free x now) (cond (leb places x.on_line.count) (not_started x 13) go) (not_started x 0)
        (λ e. cond_elim F (leb places x.on_line.count) (not_started x 13) go
        (λ full. tt)
        (λ room.
        let fresh : Every k free × (Every k due × Unit {0}) = rw (e, room) at new in
        let few = leb-false places x.on_line.count room in
        let place = place_after x.on_line in
        let inside : place < places = omega arith in
        let moving = set s.on_line (slot_of l place) first in
        link-ends left (named (first_of s l).packet)
        (with_line_lem d l there (started_line x size free) s.waiting moving d.full.waiting (length-set s.on_line (slot_of l place) first ∙ d.full.moving)
        (λ j other y z. beside z l place first other inside)
        (record {
          ring = push_sound y.ring first few;
          free = fresh.0.free l;
          due =
              subst (All (λ z. k.due l z.due)) (sym (items_push y.ring no_transit first few))
              (all_append (λ z. k.due l z.due) (items no_transit s.on_line l x.on_line) (first ∷ []) y.due (fresh.1.0.due l, tt));
        })) own))
        (λ e. link-ends left None (with_line_lem d l there x s.waiting s.on_line d.full.waiting d.full.moving (λ j other y z. z) y) own)

    link_turn : FitState s → Mid k s s → All (Every k) (part_times s (link l)) → OnMoves (By k s) (outcome_of s (link l))
    unfolding outcome_of acts_of link_acts try_deliver
    link_turn f d =
        let x = line_at s l in
        let v = values_of s.network l in
        let y = d.line l there in
        let p = (front_of s l).packet in
        let lost : Delivered = record { left = Left.Lost p; line = departed x } in
        let out : Delivered = record { left = Left.Out p; line = departed x } in
        let G : Delivered → Type 0 = λ z. All (Every k) (start_times s l z.line) → OnMoves (By k s)
        (outcome_with (link l) (link_with s l z (try_transmit z.line s.head.clock (first_of s l) (span_of v.delay) (rate_of v.rate)))) in
        cond_elim G (is_due x s.head.clock (front_of s l)) (cond (lt (unit_of x.rng).value v.loss) lost out) (record { left = Left.Nobody; line = x })
        (λ e.
        let some : 0 < x.on_line.count = due_count x s.head.clock (front_of s l) e in
        let gone : LineMid k l s.on_line (departed x) =
        record { ring = pop_sound y.ring some; free = y.free; due = (subst (All (λ z. k.due l z.due)) (items_pop y.ring no_transit some) y.due).1 } in
        cond_elim G (lt (unit_of x.rng).value v.loss) lost out
        (λ h. starts d (Left.Lost p) (departed x) tt gone)
        (λ h. starts d (Left.Out p) (departed x) (front-sender s f l there y.ring some) gone))
        (λ e. starts d Left.Nobody x tt y)

  -- ---- a sender's turn
  module _ (i : ℕ) (inside : i < s.network.senders) (d : Mid k s s) where
    timer_new : (policy : Policy) (e : Enabled) → All (Every k) (gap_times policy s.head.clock) → IfAny (k.timer i) (tick_timer policy e s.head.clock).timer
    unfolding tick_timer
    timer_new (Policy.Held w) e a = tt
    timer_new (Policy.Grown first most) e a = tt
    timer_new (Policy.Timed most gap) e a = a.0.timer i

    sent_new : (policy : Policy) (timer : Option Time) → IfAny (k.timer i) timer → All (Every k) (first_times policy timer s.head.clock) → IfAny (k.timer i) (timer_sent policy timer s.head.clock)
    unfolding timer_sent
    sent_new (Policy.Held w) timer p a = p
    sent_new (Policy.Grown first most) timer p a = p
    sent_new (Policy.Timed most gap) (Some t) p a = p
    sent_new (Policy.Timed most gap) None p a = a.0.timer i

    sender_with_lem : (x : SenderState) → (sender_at s i).state ≡ x → All (Every k) (sender_times s i x) → OnMoves (By k s) (outcome_with (sender i) (sender_with s i x))
    unfolding tick_send
    sender_with_lem State.WaitingForEnable q a = tt
    sender_with_lem (State.Enabled e) q a =
        let policy = s.network.policy in
        let now = s.head.clock in
        let sent = (sender_at s i).packets_sent in
        let timer : IfAny (k.timer i) e.timer = subst (λ (x : SenderState). IfAny (k.timer i) (timer_of x)) q (d.timer i inside) in
        cond_elim (λ (x : Acted). OnMoves (By k s) (outcome_with (sender i) x)) (timer_due e now) (timer_with s i (tick_timer policy e now)) (send_with s i (tick_send sent policy e now i))
        (λ due. (refl, lands (requeued (with_sender_lem d i (enabled_sender (sender_at s i) sent (tick_timer policy e now)) (timer_new policy e (rw due at a))) (sender i) inside)))
        (λ due. cond_elim (λ (x : Sent). OnMoves (By k s) (outcome_with (sender i) (send_with s i x))) (leb 16777216 sent) (not_sent sent e now i) (sent_with sent policy e now i)
        (λ spent. tt)
        (λ room. arrival (requeued (with_sender_lem d i (enabled_sender (sender_at s i) (sent + 1) _) (sent_new policy e.timer timer (rw (due, room) at a))) (sender i) inside) _ refl _ 0 (first-there (has_back s.network.back))))

  -- ---- a toggler's turn
  module _ (i : ℕ) (inside : i < s.network.senders) (d : Mid k s s) where
    switched_mid : {st : Simulation} → Mid k s st → (on : Bool) → Mid k s (with_sender st i (switched_sender st i on))
    unfolding enabled_of disabled_of
    switched_mid {st} b true = with_sender_lem b i (switched_sender st i true) tt
    switched_mid {st} b false = with_sender_lem b i (switched_sender st i false) tt

    toggle_turn : All (Every k) (part_times s (toggler i)) → OnMoves (By k s) (outcome_of s (toggler i))
    unfolding outcome_of acts_of toggler_acts toggle_of deliver
    toggle_turn a =
        let t = toggler_at s i in
        let draw = toggle_draw t s.network.on s.network.off in
        let changed : Toggler = record { enabled = not t.enabled; next_toggle = next_toggle_of s.head.clock draw.value; rng = draw.rng } in
        cond_elim (λ (x : Toggled). OnMoves (By k s) (outcome_with (toggler i) (toggler_with s i x))) (eqb draw.number 0)
        (record { number = 0; toggler = changed }) (record { number = draw.number; toggler = t })
        (λ drawn.
        let fresh : Every k changed.next_toggle × Unit {0} = rw drawn at a in
        (refl, lands (requeued (with_meter_lem (switched_mid (requeued (with_toggler_lem d i changed (fresh.0.toggle i)) (toggler i) inside) (not t.enabled)) i _) (sender i) inside)))
        (λ spent. rw spent (on-stopped (By k s) (toggler i) s draw.number spent))

  role_turn : FitState s → Mid k s s → (role : Role) → Real s.network role → All (Every k) (part_times s role) → OnMoves (By k s) (outcome_of s role)
  unfolding outcome_of acts_of sender_acts
  role_turn f d (link l) r a = link_turn l r f d a
  role_turn f d bouncer r a = tt
  role_turn f d (sender i) r a = sender_with_lem i r d (sender_at s i).state refl a
  role_turn f d (toggler i) r a = toggle_turn i r d a
  role_turn f d nobody r a = absurd r

part_turn : (k : Kinds) (s : Simulation) → Closed k s.head.clock → FitState s → Full s → Holds k s
    → (role : Role) → Real s.network role → All (Every k) (part_times s role) → OnMoves (By k s) (outcome_of s role)
part_turn k s closed f full h role r a = role_turn s closed f (begin k s full (λ l there. (rings s f l there full).1) h) role r a

-- ---- a tick with its new times: it does not move, or it is the turn of a part that is there, in a fit state

tick_parts : (F : Ticked → List Time → Type 0) (s : Simulation) → ((number : ℕ) (ts : List Time) → F (unmoved s number) ts)
    → (FitState s → lt (power 40) s.head.clock.0.0 ≡ false → (j : ℕ) → s.head.next ≡ Some j → (role : Role) → Real s.network role
    → F (ticked s (outcome_of s role)) (part_times s role))
    → F (tick_of s) (new_times s)
unfolding tick_of new_times
tick_parts F s rests goes = by (fit s) refl
  where
    early : FitState s → (j : ℕ) → s.head.next ≡ Some j → (b : Bool) → lt (power 40) s.head.clock.0.0 ≡ b
        → F (cond b (unmoved s 10) (ticked s (outcome_of s (role_in s.network j)))) (cond b [] (part_times s (role_in s.network j)))
    early f j e true h = rests 10 []
    early f j e false h =
        role_at (λ (role : Role). F (ticked s (outcome_of s role)) (part_times s role)) s.network j (λ role r i. goes f h j e role r) (unfold outcome_of acts_of in rests 9 [])

    with_next_lem : FitState s → (x : Option ℕ) → s.head.next ≡ x → F (tick_next s x) (times_next s x)
    with_next_lem f None e = rests 0 []
    with_next_lem f (Some j) e = early f j e (lt (power 40) s.head.clock.0.0) refl

    by : (b : Bool) → fit s ≡ b → F (cond b (tick_next s s.head.next) (unmoved s 9)) (cond b (times_next s s.head.next) [])
    by true e = with_next_lem (fit-state s e) s.head.next refl
    by false e = rests 9 []

-- To show F of a tick and its new times: show it of a tick that does not move; and for each turn give claims that the held and the new times have, and show F from these
-- claims of the state after it.
pub tick_held : (F : Ticked → List Time → Type 0) (s : Simulation) → Full s → ((number : ℕ) (ts : List Time) → F (unmoved s number) ts)
    → (FitState s → lt (power 40) s.head.clock.0.0 ≡ false → (j : ℕ) → s.head.next ≡ Some j → (role : Role) → Real s.network role
    → (k : Kinds) × (Closed k s.head.clock × Holds k s × All (Every k) (part_times s role)
    × ((r : TickRecord) (m : Simulation) → r.time ≡ s.head.clock → Has k m → F (ticked s (moves r m)) (part_times s role))))
    → F (tick_of s) (new_times s)
tick_held F s full rests goes =
    tick_parts F s rests (λ f early j next role r.
    let g = goes f early j next role r in
    let k = g.0 in
    on-ticked k (part_times s role) g.1.3 (outcome_of s role) (part_turn k s g.1.0 f full g.1.1 role r g.1.2))
  where
    on-ticked : (k : Kinds) (ts : List Time) → ((r : TickRecord) (m : Simulation) → r.time ≡ s.head.clock → Has k m → F (ticked s (moves r m)) ts) → (o : Outcome)
        → OnMoves (By k s) o → F (ticked s o) ts
    on-ticked k ts go (stops n) l = rests n ts
    on-ticked k ts go (moves r m) l = go r m l.0 l.1

-- Every tick keeps claims that do not read the clock, where a part's new times have them.
pub tick_has : (k : Kinds) → ((c : Time) → k.queued c → Closed k c)
    → ((s : Simulation) → k.queued s.head.clock → FitState s → (role : Role) → Real s.network role → All (Every k) (part_times s role))
    → (s : Simulation) → Has k s → Has k (tick_of s).simulation
tick_has k closed new s y =
    tick_held (λ t ts. Has k t.simulation) s y.full (λ number ts. y)
    (λ f early j next role r. (k, (closed s.head.clock y.clock, y.held, new s y.clock f role r, λ a m now h. h)))

-- ---- a build: each part queued at its own next time, and the first pick

own-times : (P : Time → Type 0) (s : Simulation) → ((role : Role) → Real s.network role → IfAny P (own_time s role)) → (left from j : ℕ)
    → IfAny P (get_or (own_times s left from) j no_queued).time
unfolding own_times
own-times P s own zero from j = tt
own-times P s own (suc left) from zero = role_at (λ (role : Role). IfAny P (own_time s role)) s.network from (λ role r e. own role r) (unfold own_time in tt)
own-times P s own (suc left) from (suc j) = own-times P s own left (from + 1) j

pub queued_has : (k : Kinds) (s : Simulation) → Closed k s.head.clock → Full s → Full (queued_all s)
    → ((l : ℕ) → l < line_count s.network → Sound s.on_line l (line_at s l).on_line) → Holds k s → Has k (picked (queued_all s))
unfolding queued_all
queued_has k s closed full queued ring h =
    let d = begin k s full ring h in
    lands s closed
    (record {
      clock = refl;
      network = refl;
      full = queued;
      line = d.line;
      timer = d.timer;
      toggle = d.toggle;
      queued = λ j b. own-times k.queued s (own-queued s closed d) queue_places 0 j;
    })
