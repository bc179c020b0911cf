-- From the facts by parts to the test: a state between ticks is steady. Assumes nothing.
use Rattle.std.proofs.Common.{Option, Some, None}
use mathlib.Core.Path.{◌≡◌, refl, sym, ap, subst}
use mathlib.Core.Bool.{Bool, true, false, not, ◌&&◌, ◌||◌, beq}
use Prim.Native.Nat.{ℕ, ◌+◌, ◌*◌, ◌<◌}
use native.Mathlib.Decide.{ℕ_discrete}
use borrow.Author.Tests.{lt-ltb, le-leb, eq-eqb, eqb-false}
use lib.Dec.{leb, ltb, eqb}
use lib.Ieee.{le}
use lib.Ieee.Bits.{is_true}
use Rattle.quantities.specs.declared.time.Time.{Time}
use Rattle.quantities.specs.Doubles.{zero_f, power}
use Rattle.quantities.proofs.Order.{le_trans}
use Rattle.meters.specs.Meter.{is_on, total_fit, sum_fit}
use Rattle.link.specs.declared.packet.Packet.{Packet}
use Rattle.link.specs.declared.packet.Waiting.{Waiting}
use Rattle.link.specs.declared.packet.Transit.{Transit}
use Rattle.sender.specs.declared.lossy.Policy.{Policy}
use Rattle.sender.specs.declared.lossy.SenderState.{SenderState}
use Rattle.sender.specs.declared.lossy.SenderState.TheVariants as State
use Rattle.link.specs.Ring.{places}
use Rattle.toggler.specs.Queue.{queue_places}
use Rattle.remy.specs.declared.simulation.Simulation.{Simulation}
use Rattle.remy.specs.Network.{up_to, between, network_stop}
use Rattle.remy.specs.State.{line_count, line_at, sender_at, toggler_at, meter_at, queued_at, waiting_items, waiting_packets, on_line_items, on_line_packets, sender_bits, packet_bits, total_bits}
use Rattle.remy.specs.Queue.{next_time_of}
use Rattle.remy.specs.Fit.{every, each_sender, each_line, packet_fit, held, held_if_any, held_sender, held_queued, is_next, since_start, started_fit, meter_start_fit, rising, ack_fit, held_window_fit, is_timed, timer_fit, sender_on, same_time, next_fit, network_fit, rings_fit, packets_fit, bits_fit, clock_fit, held_times_fit, past_fit, totals_fit, sums_fit, records_fit, due_fit, counts_fit, windows_fit, timers_fit, togglers_agree, meters_agree, meter_bits_fit, queue_fit, carries, carried_fit, words_fit, fit}
use Rattle.remy.proofs.Facts.{both_i, range_i, words-joined}
use Rattle.remy.proofs.Fresh.{or_else, up_to_intro, fit_intro}
use Rattle.steady.specs.Steady.{due_soon, soon_fit, steady}
use Rattle.steady.proofs.Facts.{Past, PastIfAny, PacketOk, WaitsOk, TransitOk, TimerIfAny, StateOk, PartAt, LineAt, sent_of, all_under_way, Body, Between}
use Rattle.remy.proofs.Lists.{all_map, all_mapped}
use Rattle.steady.proofs.Lists.{all_every}

beq_self : (a : Bool) → beq a a ≡ true
beq_self true = refl
beq_self false = refl

beq_same : (a b : Bool) → a ≡ b → beq a b ≡ true
beq_same a b e = subst (λ (c : Bool). beq a c ≡ true) e (beq_self a)

-- ---- the body's facts, wherever a clause asks for them

module _ (s : Simulation) (b : Body s) where
  abbrev Good : Packet → Type 0
  Good = PacketOk s.network.senders (sent_of s) s.head.clock

  abbrev Moves : ℕ → Transit → Type 0
  Moves l = TransitOk s.network (sent_of s) s.head.clock l

  abbrev Waits : Waiting → Type 0
  Waits = WaitsOk s.network (sent_of s) s.head.clock

  each_line_lem : (f : ℕ → Bool) → ((l : ℕ) → LineAt s l → f l ≡ true) → each_line s f ≡ true
  each_line_lem f g = up_to_intro (line_count s.network) f (λ l h. g l (b.lines l h))

  each-waits : (f : Waiting → Bool) → ((x : Waiting) → Waits x → f x ≡ true) → each_line s (λ l. every f (waiting_items s l)) ≡ true
  each-waits f g = each_line_lem _ (λ l o. all_every f (waiting_items s l) (all_map Waits (λ x. f x ≡ true) g (waiting_items s l) o.waiting_ok))

  waiting-each : (f : Packet → Bool) → ((p : Packet) → Good p → f p ≡ true) → (l : ℕ) → LineAt s l → every f (waiting_packets s l) ≡ true
  waiting-each f g l o =
      all_every f (waiting_packets s l)
      (all_mapped (λ p. f p ≡ true) (λ x. x.packet) (waiting_items s l)
      (all_map Waits (λ x. f x.packet ≡ true) (λ x w. g x.packet w.packet) (waiting_items s l) o.waiting_ok))

  moving_each : (f : Packet → Bool) → ((p : Packet) → Good p → f p ≡ true) → (l : ℕ) → LineAt s l → every f (on_line_packets s l) ≡ true
  moving_each f g l o =
      all_every f (on_line_packets s l)
      (all_mapped (λ p. f p ≡ true) (λ x. x.packet) (on_line_items s l)
      (all_map (Moves l) (λ x. f x.packet ≡ true) (λ x m. g x.packet m.packet) (on_line_items s l) o.moving_ok))

  each-waiting : (f : Packet → Bool) → ((p : Packet) → Good p → f p ≡ true) → each_line s (λ l. every f (waiting_packets s l)) ≡ true
  each-waiting f g = each_line_lem _ (waiting-each f g)

  each-moving : (f : Packet → Bool) → ((p : Packet) → Good p → f p ≡ true) → each_line s (λ l. every f (on_line_packets s l)) ≡ true
  each-moving f g = each_line_lem _ (moving_each f g)

  each_transit : (f : ℕ → Transit → Bool) → ((l : ℕ) (x : Transit) → Moves l x → f l x ≡ true) → each_line s (λ l. every (f l) (on_line_items s l)) ≡ true
  each_transit f g = each_line_lem _ (λ l o. all_every (f l) (on_line_items s l) (all_map (Moves l) (λ x. f l x ≡ true) (g l) (on_line_items s l) o.moving_ok))

  each_part : (f : ℕ → Bool) → ((i : ℕ) → PartAt s i → f i ≡ true) → each_sender s f ≡ true
  each_part f g = up_to_intro s.network.senders f (λ i h. g i (b.parts i h))

  -- ---- tests of one

  packet-fit : (p : Packet) → Good p → packet_fit s p ≡ true
  packet-fit p o =
      let sent = (sender_at s p.sender).packets_sent in
      both_i (ltb p.sender s.network.senders) (between 1 sent p.seq) (lt-ltb p.sender s.network.senders o.own)
      (both_i (leb 1 p.seq) (leb p.seq sent) (le-leb 1 p.seq o.first) (le-leb p.seq sent o.last))

  since : (t : Time) → Past s.head.clock t → since_start s t ≡ true
  since t o = range_i zero_f s.head.clock.0.0 t.0.0 o.low o.high

  -- what is not after the clock is held
  past_held : (t : Time) → Past s.head.clock t → held t ≡ true
  past_held t o = is_true (held t) (le_trans t.0.0 s.head.clock.0.0 (power 41) o.high b.held)

  start-held : (o : Option Time) → PastIfAny s.head.clock o → held_if_any o ≡ true
  start-held None p = refl
  start-held (Some t) p = past_held t p

  start-since : (o : Option Time) → PastIfAny s.head.clock o → meter_start_fit s o ≡ true
  start-since None p = refl
  start-since (Some t) p = since t p

  timer_held : (policy : Policy) (o : Option Time) → TimerIfAny policy s.head.clock o → held_if_any o ≡ true
  timer_held policy None p = refl
  timer_held policy (Some t) p = is_true (held t) p.held

  timer_timed : (policy : Policy) (o : Option Time) → TimerIfAny policy s.head.clock o → (not (is_on o) || is_timed policy) ≡ true
  timer_timed policy None p = refl
  timer_timed policy (Some t) p = p.timed

  module _ (policy : Policy) where
    state-held : (x : SenderState) → StateOk policy s.head.clock x → held_sender x ≡ true
    state-held State.WaitingForEnable o = refl
    state-held (State.Enabled e) o =
        both_i (held e.started) (held_if_any e.timer) (past_held e.started o.started) (timer_held policy e.timer o.timer)

    state-since : (x : SenderState) → StateOk policy s.head.clock x → started_fit s x ≡ true
    state-since State.WaitingForEnable o = refl
    state-since (State.Enabled e) o = since e.started o.started

    state_ack : (x : SenderState) → StateOk policy s.head.clock x → ack_fit x ≡ true
    state_ack State.WaitingForEnable o = refl
    state_ack (State.Enabled e) o = le-leb e.greatest_ack 16777216 o.ack

    state-window : (x : SenderState) → StateOk policy s.head.clock x → held_window_fit x ≡ true
    state-window State.WaitingForEnable o = refl
    state-window (State.Enabled e) o = o.window

    state-timer : (x : SenderState) → StateOk policy s.head.clock x → timer_fit policy x ≡ true
    state-timer State.WaitingForEnable o = refl
    state-timer (State.Enabled e) o = timer_timed policy e.timer o.timer

  -- ---- the clauses that do not read the queue

  network-fit : network_fit s ≡ true
  unfolding network_fit
  network-fit = eq-eqb (network_stop s.network) 0 b.network

  rings_fit_lem : rings_fit s ≡ true
  unfolding rings_fit
  rings_fit_lem =
      each_line_lem _
      (λ l o.
      let w = (line_at s l).waiting in
      let m = (line_at s l).on_line in
      let waits = o.waits in
      let moves = o.moves in
      both_i (leb w.count places && leb m.count places && ltb w.start places) (ltb m.start places)
      (both_i (leb w.count places && leb m.count places) (ltb w.start places)
      (both_i (leb w.count places) (leb m.count places) (le-leb w.count places waits.count) (le-leb m.count places moves.count))
      (lt-ltb w.start places waits.start))
      (lt-ltb m.start places moves.start))

  packets-fit : packets_fit s ≡ true
  unfolding packets_fit
  packets-fit =
      each_line_lem _
      (λ l o.
      both_i (every (packet_fit s) (waiting_packets s l)) (every (packet_fit s) (on_line_packets s l)) (waiting-each (packet_fit s) packet-fit l o) (moving_each (packet_fit s) packet-fit l o))

  bits_fit_lem : bits_fit s ≡ true
  unfolding bits_fit
  bits_fit_lem = each_line_lem _ (λ l o. eq-eqb (line_at s l).buffer_contains.0 (total_bits (waiting_items s l)) o.bits)

  clock-fit : clock_fit s ≡ true
  unfolding clock_fit
  clock-fit = is_true (le zero_f s.head.clock.0.0) b.clock

  past_fit_lem : past_fit s ≡ true
  unfolding past_fit
  past_fit_lem =
      let sent : Packet → Bool = λ p. since_start s p.sent_time in
      let waiting : each_line s (λ l. every sent (waiting_packets s l)) ≡ true = each-waiting sent (λ p o. since p.sent_time o.past) in
      let moving : each_line s (λ l. every sent (on_line_packets s l)) ≡ true = each-moving sent (λ p o. since p.sent_time o.past) in
      let started : each_sender s (λ i. started_fit s (sender_at s i).state) ≡ true = each_part _ (λ i o. state-since s.network.policy (sender_at s i).state o.state) in
      let starts : each_sender s (λ i. meter_start_fit s (meter_at s i).current_start) ≡ true = each_part _ (λ i o. start-since (meter_at s i).current_start o.meter.start) in
      rw (waiting, moving, started, starts)

  totals-fit : totals_fit s ≡ true
  unfolding totals_fit
  totals-fit = each_part (λ i. total_fit (meter_at s i).total_time) (λ i o. o.meter.total)

  sums-fit : sums_fit s ≡ true
  unfolding sums_fit
  sums-fit = each_part (λ i. sum_fit (meter_at s i).records (meter_at s i).rtt_sum) (λ i o. o.meter.sum)

  records_fit_lem : records_fit s ≡ true
  unfolding records_fit
  records_fit_lem =
      up_to_intro s.network.senders _
      (λ i h. le-leb ((meter_at s i).records + all_under_way s i) (sender_at s i).packets_sent (b.records i h))

  due_fit_lem : due_fit s ≡ true
  unfolding due_fit
  due_fit_lem = each_line_lem (λ l. rising (on_line_items s l)) (λ l o. o.order)

  counts-fit : counts_fit s ≡ true
  unfolding counts_fit
  counts-fit =
      each_part (λ i. leb (sender_at s i).packets_sent 16777216 && ack_fit (sender_at s i).state)
      (λ i o. both_i (leb (sender_at s i).packets_sent 16777216) (ack_fit (sender_at s i).state)
      (le-leb (sender_at s i).packets_sent 16777216 o.sent) (state_ack s.network.policy (sender_at s i).state o.state))

  windows_fit_lem : windows_fit s ≡ true
  unfolding windows_fit
  windows_fit_lem = each_part (λ i. held_window_fit (sender_at s i).state) (λ i o. state-window s.network.policy (sender_at s i).state o.state)

  timers_fit_lem : timers_fit s ≡ true
  unfolding timers_fit
  timers_fit_lem = each_part (λ i. timer_fit s.network.policy (sender_at s i).state) (λ i o. state-timer s.network.policy (sender_at s i).state o.state)

  togglers_agree_lem : togglers_agree s ≡ true
  unfolding togglers_agree
  togglers_agree_lem =
      each_part (λ i. beq (toggler_at s i).enabled (sender_on (sender_at s i).state))
      (λ i o. beq_same (toggler_at s i).enabled (sender_on (sender_at s i).state) o.toggler_on)

  meters_agree_lem : meters_agree s ≡ true
  unfolding meters_agree
  meters_agree_lem =
      each_part (λ i. beq (sender_on (sender_at s i).state) (is_on (meter_at s i).current_start))
      (λ i o. beq_same (sender_on (sender_at s i).state) (is_on (meter_at s i).current_start) (sym o.meter-on))

  meter-bits_fit : meter_bits_fit s ≡ true
  unfolding meter_bits_fit
  meter-bits_fit =
      each_part (λ i. eqb (meter_at s i).total.0 ((meter_at s i).records * (sender_bits s.network i).0))
      (λ i o. eq-eqb (meter_at s i).total.0 ((meter_at s i).records * (sender_bits s.network i).0) o.meter.bits)

  carried_fit_lem : carried_fit s ≡ true
  unfolding carried_fit
  carried_fit_lem = each-waits (carries s) (λ x w. eq-eqb x.bits.0 (packet_bits s.network x.packet).0 w.carries)

  words-fit : words_fit s ≡ true
  words-fit =
      words-joined s
      (record { link = each_line_lem _ (λ l o. ap not o.words); senders = each_part _ (λ i o. ap not o.words); togglers = each_part _ (λ i o. ap not o.toggler_words_lem) })

  due_soon_lem : soon_fit s ≡ true
  due_soon_lem = each_transit (due_soon s) (λ l x m. is_true (due_soon s l x) m.soon)

-- ---- the clauses that read it

module _ (s : Simulation) (j : ℕ) (w : Between j s) where
  queue-fit : queue_fit s ≡ true
  unfolding queue_fit
  queue-fit =
      let own : ℕ → Bool = λ k. same_time (queued_at s k) (next_time_of s k) in
      both_i (next_fit s s.head.next) (up_to queue_places (λ k. is_next s.head.next k || own k))
      (subst (λ (n : Option ℕ). next_fit s n ≡ true) (sym w.next) w.own)
      (up_to_intro queue_places (λ k. is_next s.head.next k || own k)
      (λ k h. subst (λ (n : Option ℕ). (is_next n k || own k) ≡ true) (sym w.next)
      (or_else (eqb j k) (own k) (λ e. (w.queue k h (λ same. eqb-false j k e (sym same))).own))))

  queued_held : (k : ℕ) → k < queue_places → held_queued s (queued_at s k) ≡ true
  queued_held k h = elim (ℕ_discrete j k) [
    | yes same ↦ subst (λ (i : ℕ). i < queue_places → held_queued s (queued_at s i) ≡ true) same w.place h
    | no other ↦ (w.queue k h (λ same. other (sym same))).ahead
  ]

  held-times-fit : held_times_fit s ≡ true
  unfolding held_times_fit
  held-times-fit =
      let b = w.body in
      let sent : Packet → Bool = λ p. held p.sent_time in
      let free : each_line s (λ l. held (line_at s l).earliest_transmit) ≡ true = each_line_lem s b _ (λ l o. is_true (held (line_at s l).earliest_transmit) o.free) in
      let waiting : each_line s (λ l. every sent (waiting_packets s l)) ≡ true = each-waiting s b sent (λ p o. past_held s b p.sent_time o.past) in
      let moving : each_line s (λ l. every sent (on_line_packets s l)) ≡ true = each-moving s b sent (λ p o. past_held s b p.sent_time o.past) in
      let dues : each_line s (λ l. every (λ x. held x.due) (on_line_items s l)) ≡ true = each_transit s b (λ l x. held x.due) (λ l x m. is_true (held x.due) m.held) in
      let senders : each_sender s (λ i. held_sender (sender_at s i).state) ≡ true = each_part s b _ (λ i o. state-held s b s.network.policy (sender_at s i).state o.state) in
      let toggles : each_sender s (λ i. held (toggler_at s i).next_toggle) ≡ true = each_part s b _ (λ i o. is_true (held (toggler_at s i).next_toggle) o.toggle) in
      let starts : each_sender s (λ i. held_if_any (meter_at s i).current_start) ≡ true = each_part s b _ (λ i o. start-held s b (meter_at s i).current_start o.meter.start) in
      let queued : up_to queue_places (λ k. held_queued s (queued_at s k)) ≡ true = up_to_intro queue_places (λ k. held_queued s (queued_at s k)) queued_held in
      rw (is_true (held s.head.clock) b.held, free, waiting, moving, dues, senders, toggles, starts, queued)

pub closed : (s : Simulation) (j : ℕ) → Between j s → steady s ≡ true
unfolding steady
closed s j w =
    let b = w.body in
    both_i (fit s) (soon_fit s)
    (fit_intro s (network-fit s b) (rings_fit_lem s b) (packets-fit s b) (bits_fit_lem s b) (clock-fit s b) (held-times-fit s j w) (past_fit_lem s b) (totals-fit s b) (sums-fit s b)
    (records_fit_lem s b) (due_fit_lem s b) (counts-fit s b) (windows_fit_lem s b) (timers_fit_lem s b) (togglers_agree_lem s b) (meters_agree_lem s b) (meter-bits_fit s b) (queue-fit s j w)
    (carried_fit_lem s b) (words-fit s b))
    (due_soon_lem s b)
