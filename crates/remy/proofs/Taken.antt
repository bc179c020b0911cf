-- In a fit state whose clock is a double of at most 2^40, a meter takes every record and every switch of a tick: a tick never gives 16 to 18. Assumes nothing.
use Rattle.std.proofs.Common.{Option, Some, None}
use mathlib.Core.Path.{◌≡◌, refl}
use mathlib.Core.Bool.{Bool, true, not, beq}
use Prim.Native.Nat.{ℕ, ◌*◌, ◌≤◌, ◌<◌}
use native.Mathlib.Nat.{mul_comm, mul-le-mul_left}
use native.Mathlib.Omega.{arith}
use borrow.Author.Tests.{le-leb, lt-ltb}
use lib.Dec.{T}
use lib.Ieee.{binary64, le, fits}
use lib.Ieee.Bits.{is_true}
use lib.Ieee.Scale.{finite}
use Rattle.quantities.specs.declared.time.Time.{Time}
use Rattle.quantities.specs.Doubles.{zero_f, power, in_range}
use Rattle.quantities.specs.Units.{amount_of, since}
use Rattle.quantities.proofs.Order.{le_trans}
use Rattle.quantities.proofs.Ranges.{within-finite, sub_within}
use Rattle.meters.specs.declared.meter.AverageFlowMeter.{AverageFlowMeter}
use Rattle.meters.specs.Meter.{is_on, start_fit, total_fit, sum_fit, meter_fit, not_before, ready, taken, turned, counted_of, switched_of, recorded_of}
use Rattle.remy.proofs.Facts.{range_low, range_high, range_i}

-- ---- a meter that is fit, at a clock in range

pub record MeterFacts (m : AverageFlowMeter) (clock : Time) (size : ℕ) : Type 0 where
  pub few : m.records ≤ 16777216
  pub bits : m.total.0 ≡ m.records * size
  pub small : size ≤ 16777216
  pub start : (t : Time) → m.current_start ≡ Some t → in_range zero_f clock.0.0 t.0.0 ≡ true
  pub total : total_fit m.total_time ≡ true
  pub sum : sum_fit m.records m.rtt_sum ≡ true
  pub from_zero : T (le zero_f clock.0.0)
  pub bounded : T (le clock.0.0 (power 40))

module _ {m : AverageFlowMeter} {clock : Time} {size : ℕ} (f : MeterFacts m clock size) where
  wide : T (le clock.0.0 (power 41))
  wide = le_trans clock.0.0 (power 40) (power 41) f.bounded (unfold le in tt)

  clock_in_range : in_range zero_f (power 41) clock.0.0 ≡ true
  clock_in_range = range_i zero_f (power 41) clock.0.0 f.from_zero wide

  start_in_range : (o : Option Time) → m.current_start ≡ o → start_fit o ≡ true
  unfolding start_fit
  start_in_range None e = refl
  start_in_range (Some t) e =
      let inside = f.start t e in
      range_i zero_f (power 41) t.0.0 (range_low zero_f clock.0.0 t.0.0 inside) (le_trans t.0.0 clock.0.0 (power 41) (range_high zero_f clock.0.0 t.0.0 inside) wide)

  start-not_after : (o : Option Time) → m.current_start ≡ o → not_before o clock ≡ true
  start-not_after None e = refl
  start-not_after (Some t) e = is_true (le t.0.0 clock.0.0) (range_high zero_f clock.0.0 t.0.0 (f.start t e))

  total_bounded : m.total.0 ≤ 16777216 * m.records
  total_bounded =
      let most : m.records * size ≤ m.records * 16777216 = mul-le-mul_left m.records f.small in
      let turned : m.records * 16777216 ≡ 16777216 * m.records = mul_comm m.records 16777216 in
      omega (arith, f.bits, most, turned)

  pub meter-ready : ready m clock ≡ true
  unfolding ready meter_fit
  meter-ready =
      rw (
        le-leb m.records 16777216 f.few,
        le-leb m.total.0 (16777216 * m.records) total_bounded,
        start_in_range m.current_start refl,
        f.total,
        f.sum,
        clock_in_range,
        start-not_after m.current_start refl,
      )

  -- the record of a packet that was sent in 0..clock, where fewer than 2^24 are held
  pub record_taken : (sent : Time) → m.records < 16777216 → 1 ≤ size → T (fits binary64 clock.0.0) → in_range zero_f clock.0.0 sent.0.0 ≡ true
      → recorded_of m (amount_of size) (since clock sent) clock ≡ taken (counted_of m (amount_of size) (since clock sent))
  unfolding recorded_of
  record_taken sent room some double inside =
      let bounded : T (finite clock.0.0) = within-finite clock.0.0 (power 40) (f.from_zero, f.bounded) tt in
      let span = sub_within binary64 clock.0.0 sent.0.0 double bounded (range_low zero_f clock.0.0 sent.0.0 inside, range_high zero_f clock.0.0 sent.0.0 inside) in
      let rtt : in_range zero_f (power 41) (since clock sent).0 ≡ true =
      range_i zero_f (power 41) (since clock sent).0 span.1.0 (le_trans (since clock sent).0 clock.0.0 (power 41) span.1.1 wide) in
      rw (meter-ready, rtt, le-leb 1 size some, le-leb size 16777216 f.small, lt-ltb m.records 16777216 room)

  -- a switch to the state that the meter does not have
  pub switch_taken : (on : Bool) → not (beq on (is_on m.current_start)) ≡ true → switched_of m on clock ≡ taken (turned m m.current_start clock)
  unfolding switched_of
  switch_taken on differs = rw (meter-ready, differs)
