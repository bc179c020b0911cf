-- The pick: where there is a sender, the least queued time becomes the clock, and then every part's own next time is what it was. Assumes nothing.
use Rattle.std.proofs.Common.{Option, Some, None}
use mathlib.Core.Path.{◌≡◌, refl, sym, ap, ap₂, subst, ◌∙◌}
use mathlib.Core.Bool.{Bool, true, false, cond, false≢true}
use mathlib.Core.List.{List, [], ◌∷◌}
use Prim.Native.Nat.{ℕ, ◌≤◌, ◌<◌}
use native.Mathlib.Omega.{arith}
use borrow.Author.Tests.{eqb-true, eqb-false}
use lib.Dec.{T, eqb}
use lib.ListN.{set, length-set}
use lib.Seq.{get_or-set_other}
use lib.Ieee.{binary64, le, eq}
use lib.Ieee.Bits.{is_true}
use Rattle.quantities.specs.declared.time.Time.{Time}
use Rattle.quantities.specs.Doubles.{zero_f, power}
use Rattle.quantities.specs.Units.{span_of, latest_of, earliest_opt_of, span_after}
use Rattle.quantities.proofs.Order.{le_known_l, le_known_r, le_trans, le_antisym, later-left, later_right, later-least}
use Rattle.quantities.proofs.Ranges.{within-finite, due_order}
use Rattle.meters.specs.declared.meter.AverageFlowMeter.{AverageFlowMeter}
use Rattle.link.specs.declared.packet.Packet.{Packet}
use Rattle.link.specs.declared.packet.Transit.{Transit}
use Rattle.link.specs.declared.link.Line.{Line}
use Rattle.sender.specs.declared.lossy.Policy.{Policy}
use Rattle.sender.specs.declared.lossy.Enabled.{Enabled}
use Rattle.sender.specs.declared.lossy.SenderState.{SenderState}
use Rattle.sender.specs.declared.lossy.SenderState.TheVariants as State
use Rattle.toggler.specs.declared.tick_queue.Queued.{Queued}
use Rattle.toggler.specs.declared.tick_queue.Picked.{Picked}
use Rattle.link.specs.Link.{next_transmit, next_deliver, next_tick}
use Rattle.sender.specs.Sender.{may_send, next_send, state_next, sender_next}
use Rattle.toggler.specs.Queue.{queue_places, no_queued, pick_of}
use Rattle.link.proofs.Items.{items-empty, items_pop}
use Rattle.toggler.proofs.Least.{picked-nothing, picked-there, picked-inside, picked-le}
use Rattle.remy.specs.declared.network.RemyNetwork.{RemyNetwork}
use Rattle.remy.specs.declared.simulation.Simulation.{Simulation}
use Rattle.remy.specs.State.{line_count, values_of, Role, link, bouncer, sender, toggler, nobody, role_in, no_waiting, no_transit, line_at, sender_at, toggler_at, meter_at, first_of, front_of, queued_at, waiting_items, on_line_items, sender_bits, with_head, with_queue}
use Rattle.remy.specs.Queue.{own_time, next_time_of, part_of, head_of, removed, picked}
use Rattle.remy.specs.Fit.{held_queued, same_time, rising}
use Rattle.remy.proofs.Facts.{both_l, both_r, holds}
use Rattle.remy.proofs.Networks.{fit-network, few_senders, delay_within}
use Rattle.remy.proofs.Kept.{at_set}
use Rattle.remy.proofs.Roles.{Real, role_at, role_of_lem, part_inside}
use Rattle.remy.proofs.Lists.{All, all_map}
use Rattle.steady.proofs.Facts.{NotAfter, Held, Past, PastIfAny, PacketOk, WaitsOk, TransitOk, TimerIfAny, StateOk, MeterOk, Body, sent_of, QueueOk, Between}
use Rattle.remy.proofs.Full.{full_queue}
use Rattle.steady.proofs.Ahead.{FromIfAny, Ahead, held_known, queued_ahead, ahead-queued, same_self, same_trans, from_same, from_left, from_right, same_earliest}
use Rattle.steady.proofs.Requeue.{front_ok, transmit_ahead, deliver-ahead, send_ahead, timer_ahead}

-- the first of the packets on the line, if there is one, due at t or later
abbrev FirstFrom : Time → List Transit → Type 0
FirstFrom t [] = Unit {0}
FirstFrom t (x ∷ xs) = NotAfter t x.due

-- ---- a clock that moves from c to t, where t is not after what is due

module _ (c t : Time) (later : NotAfter c t) where
  latest_same : (e : Time) → Held e → NotAfter t (latest_of c e) → same_time (Some (latest_of c e)) (Some (latest_of t e)) ≡ true
  latest_same e h k =
      let x = c.0.0 in
      let y = t.0.0 in
      let z = e.0.0 in
      let known = le_known_l z (power 41) h in
      let left = le_known_l x y later in
      let right = le_known_r x y later in
      is_true (eq (latest_of c e).0.0 (latest_of t e).0.0)
      (le_antisym (latest_of c e).0.0 (latest_of t e).0.0
      (later-least x z (latest_of t e).0.0 (le_trans x y (latest_of t e).0.0 later (later-left y z right known)) (later_right y z right known))
      (later-least y z (latest_of c e).0.0 k (later_right x z left known)))

  transmit_same : (l : Line) → Held l.earliest_transmit → FromIfAny t (next_transmit l c) → same_time (next_transmit l c) (next_transmit l t) ≡ true
  unfolding next_transmit
  transmit_same l h = by (eqb l.waiting.count 0)
    where
      e : Time
      e = l.earliest_transmit

      by : (z : Bool) → FromIfAny t (cond z None (Some (latest_of c e))) → same_time (cond z None (Some (latest_of c e))) (cond z None (Some (latest_of t e))) ≡ true
      by true f = refl
      by false f = latest_same e h f

  send_same : (sent : ℕ) (e : Enabled) → FromIfAny t (next_send sent e c) → same_time (next_send sent e c) (next_send sent e t) ≡ true
  send_same sent e = by (may_send sent e)
    where
      by : (z : Bool) → FromIfAny t (cond z (Some c) None) → same_time (cond z (Some c) None) (cond z (Some t) None) ≡ true
      by true f = is_true (eq c.0.0 t.0.0) (le_antisym c.0.0 t.0.0 later f)
      by false f = refl

  -- ---- what was past stays past
  past_later : (u : Time) → Past c u → Past t u
  past_later u p = record { low = p.low; high = le_trans u.0.0 c.0.0 t.0.0 p.high later }

  any_later : (u : Option Time) → PastIfAny c u → PastIfAny t u
  any_later None p = tt
  any_later (Some u) p = past_later u p

  packet-later : (n : ℕ) (sent : ℕ → ℕ) (p : Packet) → PacketOk n sent c p → PacketOk n sent t p
  packet-later n sent p ok = record { own = ok.own; first = ok.first; last = ok.last; past = past_later p.sent_time ok.past }

  meter-later : (size : ℕ) (m : AverageFlowMeter) → MeterOk size c m → MeterOk size t m
  meter-later size m ok = record { start = any_later m.current_start ok.start; total = ok.total; sum = ok.sum; bits = ok.bits }

  -- ---- what is due at t or later stays ahead
  timer_later : (policy : Policy) (timer : Option Time) → FromIfAny t timer → TimerIfAny policy c timer → TimerIfAny policy t timer
  timer_later policy None f ok = tt
  timer_later policy (Some u) f ok = record { timed = ok.timed; held = ok.held; ahead = f }

  state-later : (policy : Policy) (sent : ℕ) (x : SenderState) → Held c → FromIfAny t (state_next sent x c) → StateOk policy c x → StateOk policy t x
  state-later policy sent State.WaitingForEnable h f ok = tt
  state-later policy sent (State.Enabled e) h f ok =
      let due = from_right t (next_send sent e c) e.timer (send_ahead sent e c h).held (timer_ahead policy c e.timer ok.timer).held f in
      record {
        started = past_later e.started ok.started;
        ack = ok.ack;
        window = ok.window;
        timer = timer_later policy e.timer due ok.timer;
      }

  state-same : (policy : Policy) (sent : ℕ) (x : SenderState) → Held c → FromIfAny t (state_next sent x c) → StateOk policy c x
      → same_time (state_next sent x c) (state_next sent x t) ≡ true
  state-same policy sent State.WaitingForEnable h f ok = refl
  state-same policy sent (State.Enabled e) h f ok =
      let timer = (timer_ahead policy c e.timer ok.timer).held in
      same_earliest (next_send sent e c) (next_send sent e t) e.timer timer
      (send_same sent e (from_left t (next_send sent e c) e.timer (send_ahead sent e c h).held timer f))

  -- the packets on the line, whose due times rise, where the first is due at t or later
  module _ (net : RemyNetwork) (sent : ℕ → ℕ) (l : ℕ) (soon : NotAfter (span_after c (span_of (values_of net l).delay)) (span_after t (span_of (values_of net l).delay))) where
    transit_later : (x : Transit) → NotAfter t x.due → TransitOk net sent c l x → TransitOk net sent t l x
    transit_later x f ok =
        record {
          packet = packet-later net.senders sent x.packet ok.packet;
          held = ok.held;
          ahead = f;
          soon = le_trans x.due.0.0 (span_after c (span_of (values_of net l).delay)).0.0 (span_after t (span_of (values_of net l).delay)).0.0 ok.soon soon;
        }

    transits_later : (xs : List Transit) → rising xs ≡ true → FirstFrom t xs → All (TransitOk net sent c l) xs → All (TransitOk net sent t l) xs
    transits_later [] r f ok = tt
    transits_later (x ∷ []) r f ok = (transit_later x f ok.0, tt)
    transits_later (x ∷ (y ∷ ys)) r f ok =
        let rise = le x.due.0.0 y.due.0.0 in
        let next = le_trans t.0.0 x.due.0.0 y.due.0.0 f (holds rise (both_l rise (rising (y ∷ ys)) r)) in
        (transit_later x f ok.0, transits_later (y ∷ ys) (both_r rise (rising (y ∷ ys)) r) next ok.1)

-- ---- the state with its clock at t, where no part is due before t, and part j is next and not queued

abbrev moved : Simulation → ℕ → Time → Simulation
moved s j t = with_head (with_queue s (set s.queue j no_queued)) (record { clock = t; next = Some j })

module _ (s : Simulation) (b : Body s) (t : Time) (ahead : Ahead s.head.clock (Some t)) (j : ℕ)
    (least : (role : Role) → Real s.network role → FromIfAny t (own_time s role)) where
  -- every part's own next time is what it was
  own_same : (role : Role) → Real s.network role → same_time (own_time s role) (own_time (moved s j t) role) ≡ true
  unfolding own_time next_tick sender_next
  own_same (link l) r =
      let c = s.head.clock in
      let go = next_transmit (line_at s l) c in
      let leave = next_deliver (line_at s l) (front_of s l).due in
      same_earliest go (next_transmit (line_at s l) t) leave (deliver-ahead s b l r).held
      (transmit_same c t ahead.from (line_at s l) (b.lines l r).free (from_left t go leave (transmit_ahead s b l r).held (deliver-ahead s b l r).held (least (link l) r)))
  own_same bouncer r = refl
  own_same (sender i) r =
      let x = sender_at s i in
      state-same s.head.clock t ahead.from s.network.policy x.packets_sent x.state b.held (least (sender i) r) (b.parts i r).state
  own_same (toggler i) r = same_self (Some (toggler_at s i).next_toggle) (b.parts i r).toggle
  own_same nobody r = absurd r

  first_from : (l : ℕ) → l < line_count s.network → FirstFrom t (on_line_items s l)
  unfolding own_time next_tick next_deliver
  first_from l h =
      let c = s.head.clock in
      by (eqb (line_at s l).on_line.count 0) refl
      (from_right t (next_transmit (line_at s l) c) (next_deliver (line_at s l) (front_of s l).due) (transmit_ahead s b l h).held (deliver-ahead s b l h).held (least (link l) h))
    where
      by : (z : Bool) → eqb (line_at s l).on_line.count 0 ≡ z → FromIfAny t (cond z None (Some (front_of s l).due)) → FirstFrom t (on_line_items s l)
      by true e f = subst (FirstFrom t) (sym (items-empty no_transit s.on_line l (line_at s l).on_line (eqb-true (line_at s l).on_line.count 0 e))) tt
      by false e f =
          let some : (line_at s l).on_line.count ≡ 0 → ⊥ = eqb-false (line_at s l).on_line.count 0 e in
          subst (FirstFrom t) (sym (items_pop (b.lines l h).moves no_transit (omega arith))) f

  from_zero : T (le zero_f t.0.0)
  from_zero = le_trans zero_f s.head.clock.0.0 t.0.0 b.clock ahead.from

  -- a line's due time of the old clock is not after that of the new one
  due_later : (l : ℕ) → NotAfter (span_after s.head.clock (span_of (values_of s.network l).delay)) (span_after t (span_of (values_of s.network l).delay))
  due_later l =
      let net = fit-network s.network b.network in
      let delay = (values_of s.network l).delay in
      due_order binary64 s.head.clock.0.0 t.0.0 delay (b.clock, ahead.from) (within-finite t.0.0 (power 41) (from_zero, ahead.held) tt)
      (within-finite delay (power 40) (delay_within net l) tt)
      (delay_within net l).0

  moved-body : Body (moved s j t)
  moved-body =
      let net = s.network in
      let c = s.head.clock in
      let waiting = WaitsOk net (sent_of s) in
      record {
        full = full_queue s (record { clock = t; next = Some j }) (set s.queue j no_queued) (length-set s.queue j no_queued ∙ b.full.queue) b.full;
        network = b.network;
        clock = from_zero;
        held = ahead.held;
        lines = λ l h.
            let k = b.lines l h in
            record {
              waits = k.waits;
              moves = k.moves;
              bits = k.bits;
              waiting_ok = all_map (waiting c) (waiting t)
                  (λ x w. record { packet = packet-later c t ahead.from net.senders (sent_of s) x.packet w.packet; carries = w.carries }) (waiting_items s l) k.waiting_ok;
              moving_ok =
                  transits_later c t ahead.from net (sent_of s) l (due_later l) (on_line_items s l) k.order (first_from l h) k.moving_ok;
              order = k.order;
              free = k.free;
              words = k.words;
            };
        parts = λ i h.
            let ok = b.parts i h in
            let x = sender_at s i in
            record {
              sent = ok.sent;
              state = state-later c t ahead.from net.policy x.packets_sent x.state b.held (unfold own_time sender_next in least (sender i) h) ok.state;
              toggler_on = ok.toggler_on;
              toggle = ok.toggle;
              toggle-ahead = unfold own_time in least (toggler i) h;
              meter-on = ok.meter-on;
              meter = meter-later c t ahead.from (sender_bits net i).0 (meter_at s i) ok.meter;
              words = ok.words;
              toggler_words_lem = ok.toggler_words_lem;
            };
        records = b.records;
      }

-- ---- the pick

-- the picked part
abbrev next : Simulation → ℕ
next s = (pick_of s.queue).part

module _ (s : Simulation) (b : Body s) (q : QueueOk s) where
  queued : (k : ℕ) → k < queue_places → Ahead s.head.clock (queued_at s k)
  queued k h = queued_ahead s (queued_at s k) (q k h).ahead

  module _ (t : Time) (e : (pick_of s.queue).time ≡ Some t) where
    inside : next s < queue_places
    inside = subst (λ n. next s < n) b.full.queue (picked-inside s.queue e)

    there : queued_at s (next s) ≡ Some t
    there = picked-there s.queue e

    picked-ahead : Ahead s.head.clock (Some t)
    picked-ahead = subst (Ahead s.head.clock) there (queued (next s) inside)

    -- no queued time is before the picked one
    queued_from : (k : ℕ) → k < queue_places → FromIfAny t (queued_at s k)
    queued_from k h = by (queued_at s k) refl (queued k h)
      where
        by : (x : Option Time) → queued_at s k ≡ x → Ahead s.head.clock x → FromIfAny t x
        by None i a = tt
        by (Some u) i a = picked-le s.queue e k i (held_known u a.held) (held_known t picked-ahead.held)

    -- nor is an own next time
    own_from : (role : Role) → Real s.network role → FromIfAny t (own_time s role)
    own_from role r =
        let k = part_of s.network.senders role in
        let h = part_inside s.network role (few_senders (fit-network s.network b.network)) r in
        subst (λ (x : Role). FromIfAny t (own_time s x)) (role_of_lem s.network role r)
        (from_same t (queued_at s k) (next_time_of s k) (q k h).own (queued_from k h))

    next-same : (k : ℕ) → same_time (next_time_of s k) (next_time_of (moved s (next s) t) k) ≡ true
    next-same k =
        let s' = moved s (next s) t in
        role_at (λ (role : Role). same_time (own_time s role) (own_time s' role) ≡ true) s.network k
        (λ role r i. own_same s b t picked-ahead (next s) own_from role r)
        (unfold own_time in refl)

    -- what is left in the queue is not before the picked time
    left_ahead : (k : ℕ) → k < queue_places → held_queued (moved s (next s) t) (queued_at (moved s (next s) t) k) ≡ true
    left_ahead k h =
        let s' = moved s (next s) t in
        at_set (λ (x : Queued). held_queued s' x.time ≡ true) no_queued s.queue (next s) no_queued k
        (ahead-queued s' (queued_at s k) (record { held = (queued k h).held; from = queued_from k h })) refl

    moved-between : Between (next s) (moved s (next s) t)
    moved-between =
        let j = next s in
        let s' = moved s j t in
        record {
          body = moved-body s b t picked-ahead j own_from;
          next = refl;
          own =
              same_trans (Some t) (next_time_of s j) (next_time_of s' j) (subst (λ (x : Option Time). same_time x (next_time_of s j) ≡ true) there (q j inside).own) (next-same j);
          place = left_ahead j;
          queue = λ k h other.
              let same : queued_at s' k ≡ queued_at s k = ap (λ (x : Queued). x.time) (get_or-set_other s.queue j k no_queued no_queued other) in
              record {
                own =
                    ap (λ (x : Option Time). same_time x (next_time_of s' k)) same
                    ∙ same_trans (queued_at s k) (next_time_of s k) (next_time_of s' k) (q k h).own (next-same k);
                ahead = left_ahead k h;
              };
        }

  -- toggler 0 is queued
  some_queued : 1 ≤ s.network.senders → (pick_of s.queue).time ≡ None → ⊥
  unfolding own_time
  some_queued some e =
      let role : role_in s.network 2 ≡ toggler 0 = role_of_lem s.network (toggler 0) some in
      let empty : queued_at s 2 ≡ None = picked-nothing s.queue e 2 in
      let own : next_time_of s 2 ≡ Some (toggler_at s 0).next_toggle = ap (own_time s) role in
      false≢true (sym (ap₂ same_time empty own) ∙ (q 2 (omega arith)).own)

-- where a part is next there is a sender: a link is next only for a packet, which one sent
some_sent : (s : Simulation) → Body s → (l : ℕ) → l < line_count s.network → same_time (Some s.head.clock) (own_time s (link l)) ≡ true → 1 ≤ s.network.senders
unfolding own_time next_tick next_transmit next_deliver
some_sent s b l inside = by (eqb (line_at s l).waiting.count 0) (eqb (line_at s l).on_line.count 0) refl refl
  where
    by : (y z : Bool) → eqb (line_at s l).waiting.count 0 ≡ y → eqb (line_at s l).on_line.count 0 ≡ z
        → same_time (Some s.head.clock) (earliest_opt_of (cond y None (Some (latest_of s.head.clock (line_at s l).earliest_transmit))) (cond z None (Some (front_of s l).due))) ≡ true
        → 1 ≤ s.network.senders
    by true true e f h = absurd (false≢true h)
    by true false e f h =
        let some : (line_at s l).on_line.count ≡ 0 → ⊥ = eqb-false (line_at s l).on_line.count 0 f in
        let own : (front_of s l).packet.sender < s.network.senders = (front_ok s b l inside (omega arith)).packet.own in
        omega (arith, own)
    by false z e f h =
        let some : (line_at s l).waiting.count ≡ 0 → ⊥ = eqb-false (line_at s l).waiting.count 0 e in
        let ok = subst (All (WaitsOk s.network (sent_of s) s.head.clock)) (items_pop (b.lines l inside).waits no_waiting (omega arith)) (b.lines l inside).waiting_ok in
        let own : (first_of s l).packet.sender < s.network.senders = ok.0.packet.own in
        omega (arith, own)

pub some_senders : (j : ℕ) (s : Simulation) → Between j s → 1 ≤ s.network.senders
some_senders j s w =
    role_at (λ (role : Role). same_time (Some s.head.clock) (own_time s role) ≡ true → 1 ≤ s.network.senders) s.network j at
    (unfold own_time in λ h. absurd (false≢true h))
    w.own
  where
    at : (role : Role) → Real s.network role → j ≡ part_of s.network.senders role → same_time (Some s.head.clock) (own_time s role) ≡ true → 1 ≤ s.network.senders
    at (link l) r e h = some_sent s w.body l r h
    at bouncer r e h = absurd (false≢true (unfold own_time in h))
    at (sender i) r e h = omega (arith, r)
    at (toggler i) r e h = omega (arith, r)
    at nobody r e h = absurd r

pub picked-between : (s : Simulation) → Body s → QueueOk s → 1 ≤ s.network.senders → Between (pick_of s.queue).part (picked s)
unfolding picked
picked-between s b q some = by p.time refl
  where
    p : Picked
    p = pick_of s.queue

    by : (x : Option Time) → p.time ≡ x → Between p.part (with_head (with_queue s (removed s.queue p x)) (head_of p x))
    by None e = absurd (some_queued s b q some e)
    by (Some t) e = moved-between s b q t e
