-- From the test to the facts by parts: a steady state in which a part is next is between ticks. Assumes nothing.
use Rattle.std.proofs.Common.{Option, Some, None}
use mathlib.Core.Path.{◌≡◌, refl, sym, ap, subst, ◌∙◌}
use mathlib.Core.Bool.{Bool, true, false, not, ◌&&◌, ◌||◌, beq, false≢true, cond}
use mathlib.Core.List.{List, [], ◌∷◌}
use Prim.Native.Nat.{ℕ, ◌+◌, ◌*◌, ◌≤◌, ◌<◌}
use native.Mathlib.Decide.{ℕ_discrete}
use native.Mathlib.Omega.{arith}
use borrow.Author.Tests.{ne_eqb, leb-true, ltb-true, eqb-true, not-true}
use lib.Dec.{leb, ltb, eqb}
use lib.Ieee.{le, eq}
use Rattle.quantities.specs.declared.time.Time.{Time}
use Rattle.quantities.specs.Doubles.{zero_f, largest}
use Rattle.quantities.specs.Units.{latest_of, earliest_opt_of}
use Rattle.quantities.proofs.Order.{le_trans}
use Rattle.draws.specs.Generator.{all_zero}
use Rattle.meters.specs.Meter.{is_on, total_fit, sum_fit}
use Rattle.link.specs.declared.packet.Packet.{Packet}
use Rattle.link.specs.declared.packet.Transit.{Transit}
use Rattle.sender.specs.declared.lossy.Policy.{Policy}
use Rattle.sender.specs.declared.lossy.SenderState.{SenderState}
use Rattle.sender.specs.declared.lossy.SenderState.TheVariants as State
use Rattle.link.specs.Ring.{items, popped}
use Rattle.toggler.specs.Queue.{queue_places}
use Rattle.link.specs.Link.{next_transmit, next_deliver, next_tick}
use Rattle.sender.specs.Sender.{may_send, next_send, state_next, sender_next}
use Rattle.link.proofs.Items.{items-empty, items_pop}
use Rattle.remy.specs.declared.simulation.Simulation.{Simulation}
use Rattle.remy.specs.Network.{up_to, between, network_stop}
use Rattle.remy.specs.State.{line_count, Role, link, sender, toggler, no_transit, line_at, sender_at, toggler_at, meter_at, queued_at, front_of, waiting_items, waiting_packets, on_line_items, on_line_packets, sender_bits, total_bits}
use Rattle.remy.specs.Queue.{own_time, next_time_of, part_of}
use Rattle.remy.specs.Fit.{every, each_sender, each_line, packet_fit, held, held_if_any, is_idle, held_sender, held_queued, is_next, since_start, started_fit, meter_start_fit, rising, ack_fit, held_window_fit, is_timed, timer_fit, sender_on, same_time, next_fit, network_fit, packets_fit, bits_fit, clock_fit, totals_fit, sums_fit, records_fit, due_fit, counts_fit, windows_fit, timers_fit, togglers_agree, meters_agree, meter_bits_fit, queue_fit, carries, carried_fit, fit}
use Rattle.remy.proofs.Facts.{both_l, both_r, holds, range_low, range_high, between_low, between_high, up_to-at, FitState, fit-state, FitWords, words_apart}
use Rattle.remy.proofs.Networks.{fit-network, few_senders}
use Rattle.remy.proofs.Steps.{cond_elim}
use Rattle.remy.proofs.Roles.{Real, role_of_lem, part_inside}
use Rattle.remy.proofs.Lists.{All, all_unmapped}
use Rattle.remy.proofs.Front.{rings}
use Rattle.remy.specs.HeldTimes.{Full}
use Rattle.steady.specs.Steady.{due_soon, soon_fit, steady}
use Rattle.steady.proofs.Soon.{soon_at}
use Rattle.steady.proofs.Facts.{NotAfter, Held, Past, PastIfAny, PacketOk, WaitsOk, TransitOk, TimerIfAny, StateOk, MeterOk, PartAt, LineAt, sent_of, all_under_way, Body, QueueBut, Between}
use Rattle.steady.proofs.Clauses.{HeldTimes, held-times, PastTimes, past_times}
use Rattle.steady.proofs.Lists.{all_with, every-all}
use Rattle.steady.proofs.Ahead.{HeldIfAny, FromIfAny, ahead_now, ahead_latest, queued_ahead, from_same, from_right}

-- ---- tests

-- the second of two tests passed where the first did not
or_rest : (a b : Bool) → a ≡ false → (a || b) ≡ true → b ≡ true
or_rest true b f e = absurd (false≢true (sym f))
or_rest false b f e = e

or_first : (a b : Bool) → b ≡ false → (a || b) ≡ true → a ≡ true
or_first true b f e = refl
or_first false b f e = sym f ∙ e

beq_same : (a b : Bool) → beq a b ≡ true → a ≡ b
beq_same true true e = refl
beq_same true false e = sym e
beq_same false true e = e
beq_same false false e = refl

-- ---- due times from the clock on

-- where the first due time is from the clock on, so are all
ahead-rising : (clock : Time) (x : Transit) (xs : List Transit) → rising (x ∷ xs) ≡ true → NotAfter clock x.due → All (λ y. NotAfter clock y.due) (x ∷ xs)
ahead-rising clock x [] e a = (a, tt)
ahead-rising clock x (y ∷ ys) e a =
    let step = le x.due.0.0 y.due.0.0 in (
      a,
      ahead-rising clock y ys (both_r step (rising (y ∷ ys)) e)
          (le_trans clock.0.0 x.due.0.0 y.due.0.0 a (holds step (both_l step (rising (y ∷ ys)) e))),
    )

-- ---- a fit state in which part j is next

module _ (s : Simulation) (j : ℕ) (fits : FitState s) (full : Full s) (next : s.head.next ≡ Some j) where
  helds : HeldTimes s
  helds = held-times s fits.held

  pasts : PastTimes s
  pasts = past_times s fits.past

  words : FitWords s
  words = words_apart s fits.words

  accepted : network_stop s.network ≡ 0
  unfolding network_fit
  accepted = eqb-true (network_stop s.network) 0 fits.network

  few : s.network.senders ≤ 16
  few = few_senders (fit-network s.network accepted)

  pub clock-held : Held s.head.clock
  clock-held =
      holds (held s.head.clock)
      (or_first (held s.head.clock) (is_idle s.head.next && eq s.head.clock.0.0 largest) (ap (λ (n : Option ℕ). is_idle n && eq s.head.clock.0.0 largest) next) helds.clock)

  -- ---- the queue

  pub queued_held : (k : ℕ) → k < queue_places → held_queued s (queued_at s k) ≡ true
  queued_held = up_to-at queue_places (λ k. held_queued s (queued_at s k)) helds.queue

  own-next : same_time (Some s.head.clock) (next_time_of s j) ≡ true
  unfolding queue_fit
  own-next =
      subst (λ (n : Option ℕ). next_fit s n ≡ true) next
      (both_l (next_fit s s.head.next) (up_to queue_places (λ k. is_next s.head.next k || same_time (queued_at s k) (next_time_of s k))) fits.queue)

  others : QueueBut j s
  unfolding queue_fit
  others k h other =
      let own : ℕ → Bool = λ i. same_time (queued_at s i) (next_time_of s i) in
      record {
        own =
            or_rest (is_next s.head.next k) (own k) (ap (λ (n : Option ℕ). is_next n k) next ∙ ne_eqb j k (λ same. other (sym same)))
            (up_to-at queue_places (λ i. is_next s.head.next i || own i)
            (both_r (next_fit s s.head.next) (up_to queue_places (λ i. is_next s.head.next i || own i)) fits.queue)
            k h);
        ahead = queued_held k h;
      }

  -- no part's own next time is before the clock
  part_ahead : (k : ℕ) → k < queue_places → FromIfAny s.head.clock (next_time_of s k)
  part_ahead k h = elim (ℕ_discrete k j) [
    | yes same ↦
        from_same s.head.clock (Some s.head.clock) (next_time_of s k) (subst (λ (i : ℕ). same_time (Some s.head.clock) (next_time_of s i) ≡ true) (sym same) own-next)
        (ahead_now s.head.clock clock-held).from
    | no other ↦ from_same s.head.clock (queued_at s k) (next_time_of s k) (others k h other).own (queued_ahead s (queued_at s k) (others k h other).ahead).from
  ]

  role_ahead : (role : Role) → Real s.network role → FromIfAny s.head.clock (own_time s role)
  role_ahead role r =
      subst (λ (x : Role). FromIfAny s.head.clock (own_time s x)) (role_of_lem s.network role r)
      (part_ahead (part_of s.network.senders role) (part_inside s.network role few r))

  -- ---- a line

  module _ (l : ℕ) (there : l < line_count s.network) where
    at-line : (g : ℕ → Bool) → each_line s g ≡ true → g l ≡ true
    at-line g e = up_to-at (line_count s.network) g e l there

    pub free_held : Held (line_at s l).earliest_transmit
    free_held = holds (held (line_at s l).earliest_transmit) (at-line (λ k. held (line_at s k).earliest_transmit) helds.free)

    rises : rising (on_line_items s l) ≡ true
    unfolding due_fit
    rises = at-line (λ k. rising (on_line_items s k)) fits.due

    -- the first due time
    front-ahead : 0 < (line_at s l).on_line.count → Held (front_of s l).due → NotAfter s.head.clock (front_of s l).due
    unfolding own_time next_tick next_transmit next_deliver
    front-ahead some h =
        let transmit = next_transmit (line_at s l) s.head.clock in
        let a : FromIfAny s.head.clock (earliest_opt_of transmit (next_deliver (line_at s l) (front_of s l).due)) = role_ahead (link l) there in
        let b : FromIfAny s.head.clock (earliest_opt_of transmit (Some (front_of s l).due)) =
        subst (λ (c : Bool). FromIfAny s.head.clock (earliest_opt_of transmit (cond c None (Some (front_of s l).due)))) (ne_eqb (line_at s l).on_line.count 0 (omega arith)) a in
        from_right s.head.clock transmit (Some (front_of s l).due)
        (cond_elim HeldIfAny (eqb (line_at s l).waiting.count 0) None (Some (latest_of s.head.clock (line_at s l).earliest_transmit)) (λ e. tt)
        (λ e. (ahead_latest s.head.clock clock-held (line_at s l).earliest_transmit free_held).held))
        h b

    dues_held : All (λ x. held x.due ≡ true) (on_line_items s l)
    dues_held = every-all (λ x. held x.due) (on_line_items s l) (at-line (λ k. every (λ x. held x.due) (on_line_items s k)) helds.dues)

    pub dues_ahead : All (λ x. NotAfter s.head.clock x.due) (on_line_items s l)
    dues_ahead = elim (ℕ_discrete (line_at s l).on_line.count 0) [
      | yes none ↦ subst (All (λ x. NotAfter s.head.clock x.due)) (sym (items-empty no_transit s.on_line l (line_at s l).on_line none)) tt
      | no some ↦ ahead-first (omega arith)
    ]
      where
        ahead-first : 0 < (line_at s l).on_line.count → All (λ x. NotAfter s.head.clock x.due) (on_line_items s l)
        ahead-first some =
            let rest = items no_transit s.on_line l (popped (line_at s l).on_line) in
            let split : on_line_items s l ≡ front_of s l ∷ rest = items_pop (rings s fits l there full).1 no_transit some in
            subst (All (λ x. NotAfter s.head.clock x.due)) (sym split)
            (ahead-rising s.head.clock (front_of s l) rest (subst (λ (xs : List Transit). rising xs ≡ true) split rises)
            (front-ahead some (holds (held (front_of s l).due) (subst (All (λ x. held x.due ≡ true)) split dues_held).0)))

  -- ---- packets

  past_of : (t : Time) → since_start s t ≡ true → Past s.head.clock t
  past_of t e = record { low = range_low zero_f s.head.clock.0.0 t.0.0 e; high = range_high zero_f s.head.clock.0.0 t.0.0 e }

  packet_of_lem : (p : Packet) → packet_fit s p ≡ true → since_start s p.sent_time ≡ true → PacketOk s.network.senders (sent_of s) s.head.clock p
  packet_of_lem p e t =
      let own = ltb p.sender s.network.senders in
      let sent = sent_of s p.sender in
      let seq = both_r own (between 1 sent p.seq) e in
      record {
        own = ltb-true p.sender s.network.senders (both_l own (between 1 sent p.seq) e);
        first = between_low 1 sent p.seq seq;
        last = between_high 1 sent p.seq seq;
        past = past_of p.sent_time t;
      }

  packets_of : (ps : List Packet) → every (packet_fit s) ps ≡ true → every (λ p. since_start s p.sent_time) ps ≡ true → All (PacketOk s.network.senders (sent_of s) s.head.clock) ps
  packets_of ps e t =
      all_with (λ p. packet_fit s p ≡ true) (λ p. since_start s p.sent_time ≡ true) (PacketOk s.network.senders (sent_of s) s.head.clock) packet_of_lem ps
      (every-all (packet_fit s) ps e) (every-all (λ p. since_start s p.sent_time) ps t)

  -- ---- a sender with its toggler and meter

  start_of : (o : Option Time) → meter_start_fit s o ≡ true → PastIfAny s.head.clock o
  start_of None e = tt
  start_of (Some t) e = past_of t e

  -- a timer that is the second of two times, the earlier of which is from the clock on
  timer_of_lem : (policy : Policy) (x o : Option Time) → HeldIfAny x → held_if_any o ≡ true → (not (is_on o) || is_timed policy) ≡ true → FromIfAny s.head.clock (earliest_opt_of x o)
      → TimerIfAny policy s.head.clock o
  timer_of_lem policy x None p h e a = tt
  timer_of_lem policy x (Some t) p h e a = record { timed = e; held = holds (held t) h; ahead = from_right s.head.clock x (Some t) p (holds (held t) h) a }

  state_of : (policy : Policy) (sent : ℕ) (x : SenderState) → held_sender x ≡ true → started_fit s x ≡ true → ack_fit x ≡ true → held_window_fit x ≡ true → timer_fit policy x ≡ true
      → FromIfAny s.head.clock (state_next sent x s.head.clock) → StateOk policy s.head.clock x
  state_of policy sent State.WaitingForEnable h t c w e a = tt
  state_of policy sent (State.Enabled x) h t c w e a =
      record {
        started = past_of x.started t;
        ack = leb-true x.greatest_ack 16777216 c;
        window = w;
        timer =
            timer_of_lem policy (next_send sent x s.head.clock) x.timer
            (cond_elim HeldIfAny (may_send sent x) (Some s.head.clock) None (λ m. clock-held) (λ m. tt))
            (both_r (held x.started) (held_if_any x.timer) h) e a;
      }

  module _ (i : ℕ) (h : i < s.network.senders) where
    at : (g : ℕ → Bool) → each_sender s g ≡ true → g i ≡ true
    at g e = up_to-at s.network.senders g e i h

    sender-ahead : FromIfAny s.head.clock (state_next (sender_at s i).packets_sent (sender_at s i).state s.head.clock)
    unfolding own_time sender_next
    sender-ahead = role_ahead (sender i) h

    pub toggle-ahead : NotAfter s.head.clock (toggler_at s i).next_toggle
    unfolding own_time
    toggle-ahead = role_ahead (toggler i) h

    meter_ok : MeterOk (sender_bits s.network i).0 s.head.clock (meter_at s i)
    unfolding totals_fit sums_fit meter_bits_fit
    meter_ok =
        record {
          start = start_of (meter_at s i).current_start (at (λ k. meter_start_fit s (meter_at s k).current_start) pasts.meters);
          total = at (λ k. total_fit (meter_at s k).total_time) fits.totals;
          sum = at (λ k. sum_fit (meter_at s k).records (meter_at s k).rtt_sum) fits.sums;
          bits =
              eqb-true (meter_at s i).total.0 ((meter_at s i).records * (sender_bits s.network i).0)
              (at (λ k. eqb (meter_at s k).total.0 ((meter_at s k).records * (sender_bits s.network k).0)) fits.meter-bits);
        }

    pub part_ok : PartAt s i
    unfolding counts_fit windows_fit timers_fit togglers_agree meters_agree
    part_ok =
        let few-sent = leb (sender_at s i).packets_sent 16777216 in
        let few-acked = ack_fit (sender_at s i).state in
        let counts : (few-sent && few-acked) ≡ true = at (λ k. leb (sender_at s k).packets_sent 16777216 && ack_fit (sender_at s k).state) fits.counts in
        record {
          sent = leb-true (sender_at s i).packets_sent 16777216 (both_l few-sent few-acked counts);
          state =
              state_of s.network.policy (sender_at s i).packets_sent (sender_at s i).state
              (at (λ k. held_sender (sender_at s k).state) helds.senders)
              (at (λ k. started_fit s (sender_at s k).state) pasts.senders)
              (both_r few-sent few-acked counts)
              (at (λ k. held_window_fit (sender_at s k).state) fits.windows)
              (at (λ k. timer_fit s.network.policy (sender_at s k).state) fits.timers)
              sender-ahead;
          toggler_on =
              beq_same (toggler_at s i).enabled (sender_on (sender_at s i).state)
              (at (λ k. beq (toggler_at s k).enabled (sender_on (sender_at s k).state)) fits.togglers);
          toggle = holds (held (toggler_at s i).next_toggle) (at (λ k. held (toggler_at s k).next_toggle) helds.toggles);
          toggle-ahead = toggle-ahead;
          meter-on =
              sym
              (beq_same (sender_on (sender_at s i).state) (is_on (meter_at s i).current_start)
              (at (λ k. beq (sender_on (sender_at s k).state) (is_on (meter_at s k).current_start)) fits.meters));
          meter = meter_ok;
          words = not-true (all_zero (sender_at s i).rng) (at (λ k. not (all_zero (sender_at s k).rng)) words.senders);
          toggler_words_lem = not-true (all_zero (toggler_at s i).rng) (at (λ k. not (all_zero (toggler_at s k).rng)) words.togglers);
        }

    records_ok : (meter_at s i).records + all_under_way s i ≤ (sender_at s i).packets_sent
    unfolding records_fit
    records_ok =
        leb-true ((meter_at s i).records + all_under_way s i) (sender_at s i).packets_sent
        (at (λ k. leb ((meter_at s k).records + all_under_way s k) (sender_at s k).packets_sent) fits.records)

  -- ---- the whole state, where it is steady

  module _ (soon : soon_fit s ≡ true) where
    line_ok : (l : ℕ) → l < line_count s.network → LineAt s l
    unfolding packets_fit bits_fit carried_fit
    line_ok l there =
        let clock = s.head.clock in
        let xs = on_line_items s l in
        let Good : Packet → Type 0 = PacketOk s.network.senders (sent_of s) clock in
        let waiting = waiting_items s l in
        let packets : ℕ → Bool = λ k. every (packet_fit s) (waiting_packets s k) in
        let moving_packets : ℕ → Bool = λ k. every (packet_fit s) (on_line_packets s k) in
        let both : (packets l && moving_packets l) ≡ true = at-line l there (λ k. packets k && moving_packets k) fits.packets in
        let sent : Packet → Bool = λ p. since_start s p.sent_time in
        let Due : Transit → Type 0 = λ x. (held x.due ≡ true) × NotAfter clock x.due in
        let Sent : Transit → Type 0 = λ x. Good x.packet × (due_soon s l x ≡ true) in
        record {
          waits = (rings s fits l there full).0;
          moves = (rings s fits l there full).1;
          bits = eqb-true (line_at s l).buffer_contains.0 (total_bits waiting) (at-line l there (λ k. eqb (line_at s k).buffer_contains.0 (total_bits (waiting_items s k))) fits.bits);
          waiting_ok =
              all_with (λ x. Good x.packet) (λ x. carries s x ≡ true) (WaitsOk s.network (sent_of s) clock) (λ x p c. record { packet = p; carries = eqb-true _ _ c }) waiting
              (all_unmapped Good (λ x. x.packet) waiting
              (packets_of (waiting_packets s l) (both_l (packets l) (moving_packets l) both) (at-line l there (λ k. every sent (waiting_packets s k)) pasts.waiting)))
              (every-all (carries s) waiting (at-line l there (λ k. every (carries s) (waiting_items s k)) fits.carried));
          moving_ok =
              all_with Due Sent (TransitOk s.network (sent_of s) clock l)
              (λ x d p. record { packet = p.0; held = holds (held x.due) d.0; ahead = d.1; soon = holds (due_soon s l x) p.1 }) xs
              (all_with (λ x. held x.due ≡ true) (λ x. NotAfter clock x.due) Due (λ x h a. (h, a)) xs (dues_held l there) (dues_ahead l there))
              (all_with (λ x. Good x.packet) (λ x. due_soon s l x ≡ true) Sent (λ x p d. (p, d)) xs
              (all_unmapped Good (λ x. x.packet) xs
              (packets_of (on_line_packets s l) (both_r (packets l) (moving_packets l) both) (at-line l there (λ k. every sent (on_line_packets s k)) pasts.moving)))
              (every-all (due_soon s l) xs (soon_at s l there soon)));
          order = rises l there;
          free = free_held l there;
          words = not-true (all_zero (line_at s l).rng) (at-line l there (λ k. not (all_zero (line_at s k).rng)) words.link);
        }

    body : Body s
    unfolding clock_fit
    body =
        record {
          full = full;
          network = accepted;
          clock = holds (le zero_f s.head.clock.0.0) fits.clock;
          held = clock-held;
          lines = line_ok;
          parts = part_ok;
          records = records_ok;
        }

    between-ticks : Between j s
    between-ticks = record { body = body; next = next; own = own-next; place = queued_held j; queue = others }

pub opened : (s : Simulation) (j : ℕ) → steady s ≡ true → Full s → s.head.next ≡ Some j → Between j s
unfolding steady
opened s j e full next = between-ticks s j (fit-state s (both_l (fit s) (soon_fit s) e)) full next (both_r (fit s) (soon_fit s) e)
