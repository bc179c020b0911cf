-- In a fit state: what is known of the first packet that waits for a line, of the first on it, and of its sender's meter. Assumes nothing.
use Rattle.std.proofs.Common.{Option, Some}
use mathlib.Core.Path.{◌≡◌, refl, sym, ap, subst, ◌∙◌}
use mathlib.Core.Bool.{Bool, true, false, not, ◌&&◌}
use mathlib.Core.List.{◌∷◌, map}
use Prim.Native.Nat.{ℕ, ◌+◌, ◌*◌, ◌≤◌, ◌<◌}
use native.Mathlib.Omega.{arith}
use borrow.Author.Tests.{eq-eqb, leb-true, ltb-true, eqb-true}
use lib.Dec.{T, leb, ltb, eqb}
use lib.Ieee.{lt, le}
use Rattle.quantities.specs.declared.time.Time.{Time}
use Rattle.quantities.specs.Doubles.{zero_f, power, in_range}
use Rattle.quantities.specs.Units.{amount_of, rate_of, amount_over_rate}
use Rattle.quantities.proofs.Order.{le_known_r, not-lt→le}
use Rattle.quantities.proofs.Ranges.{Within}
use Rattle.meters.specs.Meter.{total_fit, sum_fit}
use Rattle.link.specs.declared.packet.Packet.{Packet}
use Rattle.link.specs.Ring.{places, items, popped}
use Rattle.link.proofs.Items.{Sound, items-first, items_pop}
use Rattle.remy.specs.declared.simulation.Simulation.{Simulation}
use Rattle.remy.specs.Network.{between, network_stop}
use Rattle.remy.specs.State.{has_back, line_count, values_of, no_waiting, no_transit, line_at, sender_at, meter_at, first_of, front_of, waiting_items, waiting_packets, on_line_packets, sender_bits, packet_bits}
use Rattle.remy.specs.Fit.{every, each_sender, each_line, rings_fit, packet_fit, packets_fit, clock_fit, since_start, started_fit, meter_start_fit, past_fit, totals_fit, sums_fit, count_of, sum_to, under_way, records_fit, ack_fit, counts_fit, meter_bits_fit, carries, carried_fit, network_fit}
use Rattle.remy.specs.HeldTimes.{Full}
use Rattle.remy.proofs.Facts.{both_l, both_r, up_to-at, sum_to-at, every_first, lines_few, FitState}
use Rattle.remy.proofs.Networks.{FitNetwork, fit-network, few_bits, sending-within}
use Rattle.remy.proofs.Taken.{MeterFacts}

module _ (s : Simulation) (f : FitState s) where
  pub accepted : FitNetwork s.network
  unfolding network_fit
  accepted = fit-network s.network (eqb-true (network_stop s.network) 0 f.network)

  pub from_zero : T (le zero_f s.head.clock.0.0)
  unfolding clock_fit
  from_zero = subst T (sym f.clock) tt

  -- the clock that stop 10 lets pass
  pub clock_bounded : lt (power 40) s.head.clock.0.0 ≡ false → T (le s.head.clock.0.0 (power 40))
  clock_bounded e =
      not-lt→le (power 40) s.head.clock.0.0 (le_known_r (power 40) (power 40) (unfold le in tt)) (le_known_r zero_f s.head.clock.0.0 from_zero)
      (subst (λ (b : Bool). T (not b)) (sym e) tt)

  -- ---- a line's rings, where the arrays have all their places
  module _ (l : ℕ) (there : l < line_count s.network) where
    at-line : (g : ℕ → Bool) → each_line s g ≡ true → g l ≡ true
    at-line g e = up_to-at (line_count s.network) g e l there

    ring_tests : (leb (line_at s l).waiting.count places && leb (line_at s l).on_line.count places && ltb (line_at s l).waiting.start places && ltb (line_at s l).on_line.start places) ≡ true
    unfolding rings_fit
    ring_tests =
        at-line
        (λ j. leb (line_at s j).waiting.count places && leb (line_at s j).on_line.count places && ltb (line_at s j).waiting.start places && ltb (line_at s j).on_line.start places)
        f.rings

    waits_start : (line_at s l).waiting.start < places
    waits_start =
        let w = (line_at s l).waiting in
        let m = (line_at s l).on_line in
        let counts = leb w.count places && leb m.count places in
        ltb-true w.start places (both_r counts (ltb w.start places) (both_l (counts && ltb w.start places) (ltb m.start places) ring_tests))

    pub rings : Full s → Sound s.waiting l (line_at s l).waiting × Sound s.on_line l (line_at s l).on_line
    rings full =
        let w = (line_at s l).waiting in
        let m = (line_at s l).on_line in
        let few = lines_few (has_back s.network.back) in
        let waits = full.waiting in
        let moves = full.moving in
        let counts = leb w.count places && leb m.count places in
        let by_counts = both_l counts (ltb w.start places) (both_l (counts && ltb w.start places) (ltb m.start places) ring_tests) in (
          record {
            full = omega (arith, there, few, waits);
            start = waits_start;
            count = leb-true w.count places (both_l (leb w.count places) (leb m.count places) by_counts);
          },
          record {
            full = omega (arith, there, few, moves);
            start = ltb-true m.start places (both_r (counts && ltb w.start places) (ltb m.start places) ring_tests);
            count = leb-true m.count places (both_r (leb w.count places) (leb m.count places) by_counts);
          },
        )

  module _ (i : ℕ) (h : i < s.network.senders) where
    at : (g : ℕ → Bool) → each_sender s g ≡ true → g i ≡ true
    at g e = up_to-at s.network.senders g e i h

    sent_few : (sender_at s i).packets_sent ≤ 16777216
    unfolding counts_fit
    sent_few =
        leb-true (sender_at s i).packets_sent 16777216
        (both_l (leb (sender_at s i).packets_sent 16777216) (ack_fit (sender_at s i).state) (at (λ j. leb (sender_at s j).packets_sent 16777216 && ack_fit (sender_at s j).state) f.counts))

    pub records_few : (meter_at s i).records + sum_to (line_count s.network) (under_way s i) ≤ 16777216
    unfolding records_fit
    records_few =
        let within : (meter_at s i).records + sum_to (line_count s.network) (under_way s i) ≤ (sender_at s i).packets_sent =
        leb-true _ (sender_at s i).packets_sent (at (λ j. leb ((meter_at s j).records + sum_to (line_count s.network) (under_way s j)) (sender_at s j).packets_sent) f.records) in
        omega (arith, within, sent_few)

    starts-past : (t : Time) → (meter_at s i).current_start ≡ Some t → in_range zero_f s.head.clock.0.0 t.0.0 ≡ true
    unfolding past_fit
    starts-past t e =
        let waiting = each_line s (λ l. every (λ p. since_start s p.sent_time) (waiting_packets s l)) in
        let moving = each_line s (λ l. every (λ p. since_start s p.sent_time) (on_line_packets s l)) in
        let senders = each_sender s (λ j. started_fit s (sender_at s j).state) in
        let meters = each_sender s (λ j. meter_start_fit s (meter_at s j).current_start) in
        subst (λ (o : Option Time). meter_start_fit s o ≡ true) e (at (λ j. meter_start_fit s (meter_at s j).current_start) (both_r (waiting && moving && senders) meters f.past))

    pub meter_facts : lt (power 40) s.head.clock.0.0 ≡ false → MeterFacts (meter_at s i) s.head.clock (sender_bits s.network i).0
    unfolding totals_fit sums_fit meter_bits_fit
    meter_facts e =
        record {
          few = omega (arith, records_few);
          bits =
              eqb-true (meter_at s i).total.0 ((meter_at s i).records * (sender_bits s.network i).0)
              (at (λ j. eqb (meter_at s j).total.0 ((meter_at s j).records * (sender_bits s.network j).0)) f.meter-bits);
          small = few_bits accepted i h;
          start = starts-past;
          total = at (λ j. total_fit (meter_at s j).total_time) f.totals;
          sum = at (λ j. sum_fit (meter_at s j).records (meter_at s j).rtt_sum) f.sums;
          from_zero = from_zero;
          bounded = clock_bounded e;
        }

  -- a packet that passes the test names a sender
  pub names_sender : (p : Packet) → packet_fit s p ≡ true → p.sender < s.network.senders
  names_sender p e =
      ltb-true p.sender s.network.senders (both_l (ltb p.sender s.network.senders) (between 1 (sender_at s p.sender).packets_sent p.seq) e)

  module _ (l : ℕ) (there : l < line_count s.network) where
    packets_of : (every (packet_fit s) (waiting_packets s l) && every (packet_fit s) (on_line_packets s l)) ≡ true
    unfolding packets_fit
    packets_of = at-line l there (λ j. every (packet_fit s) (waiting_packets s j) && every (packet_fit s) (on_line_packets s j)) f.packets

    -- ---- the first packet that waits
    module _ (some : 0 < (line_at s l).waiting.count) where
      then : waiting_items s l ≡ first_of s l ∷ items no_waiting s.waiting l (popped (line_at s l).waiting)
      then = items-first no_waiting s.waiting l (line_at s l).waiting (waits_start l there) some

      pub first-sender : (first_of s l).packet.sender < s.network.senders
      first-sender =
          names_sender (first_of s l).packet
          (every_first (packet_fit s) (first_of s l).packet (map (λ x. x.packet) (items no_waiting s.waiting l (popped (line_at s l).waiting)))
          (ap (λ xs. every (packet_fit s) (map (λ x. x.packet) xs)) (sym then) ∙ both_l (every (packet_fit s) (waiting_packets s l)) (every (packet_fit s) (on_line_packets s l)) packets_of))

      -- it carries its sender's bits, so the time that it takes to start is small
      pub first-within : Within (amount_over_rate (first_of s l).bits (rate_of (values_of s.network l).rate)).0 (power 40)
      unfolding carried_fit
      first-within =
          let own : (first_of s l).bits.0 ≡ (packet_bits s.network (first_of s l).packet).0 =
          eqb-true (first_of s l).bits.0 (packet_bits s.network (first_of s l).packet).0
          (every_first (carries s) (first_of s l) (items no_waiting s.waiting l (popped (line_at s l).waiting))
          (ap (every (carries s)) (sym then) ∙ at-line l there (λ j. every (carries s) (waiting_items s j)) f.carried)) in
          subst (λ (b : ℕ). Within (amount_over_rate (amount_of b) (rate_of (values_of s.network l).rate)).0 (power 40)) (sym own) (sending-within accepted l (first_of s l).packet.sender first-sender)

    -- ---- the first packet on the line
    module _ (sound : Sound s.on_line l (line_at s l).on_line) (some : 0 < (line_at s l).on_line.count) where
      split : on_line_packets s l ≡ (front_of s l).packet ∷ map (λ x. x.packet) (items no_transit s.on_line l (popped (line_at s l).on_line))
      split = ap (map (λ x. x.packet)) (items_pop sound no_transit some)

      -- what every packet on the line has
      first : (g : Packet → Bool) → every g (on_line_packets s l) ≡ true → g (front_of s l).packet ≡ true
      first g e =
          every_first g (front_of s l).packet (map (λ x. x.packet) (items no_transit s.on_line l (popped (line_at s l).on_line))) (ap (every g) (sym split) ∙ e)

      pub front-sender : (front_of s l).packet.sender < s.network.senders
      front-sender = names_sender (front_of s l).packet (first (packet_fit s) (both_r (every (packet_fit s) (waiting_packets s l)) (every (packet_fit s) (on_line_packets s l)) packets_of))

      pub front-past : in_range zero_f s.head.clock.0.0 (front_of s l).packet.sent_time.0.0 ≡ true
      unfolding past_fit
      front-past =
          let waiting = each_line s (λ j. every (λ p. since_start s p.sent_time) (waiting_packets s j)) in
          let moving = each_line s (λ j. every (λ p. since_start s p.sent_time) (on_line_packets s j)) in
          let senders = each_sender s (λ j. started_fit s (sender_at s j).state) in
          let meters = each_sender s (λ j. meter_start_fit s (meter_at s j).current_start) in
          first (λ p. since_start s p.sent_time)
          (at-line l there (λ j. every (λ p. since_start s p.sent_time) (on_line_packets s j))
          (both_r waiting moving (both_l (waiting && moving) senders (both_l (waiting && moving && senders) meters f.past))))

      -- its sender's meter has room: the packet itself is not counted yet
      pub front_room : (meter_at s (front_of s l).packet.sender).records < 16777216
      front_room =
          let i = (front_of s l).packet.sender in
          let counted : count_of i (on_line_packets s l) ≡ 1 + count_of i (map (λ x. x.packet) (items no_transit s.on_line l (popped (line_at s l).on_line))) =
          ap (count_of i) split ∙ rw (eq-eqb i i refl) in
          let here : under_way s i l ≤ sum_to (line_count s.network) (under_way s i) = sum_to-at (line_count s.network) (under_way s i) l there in
          omega (arith, records_few i front-sender, counted, here)
