-- What the tests on a meter say where they pass. Assumes nothing.
use mathlib.Core.Path.{◌≡◌, sym, subst}
use mathlib.Core.Bool.{true, ◌&&◌}
use Prim.Native.Nat.{◌*◌, ◌≤◌}
use lib.Dec.{T, leb, leb→le}
use lib.Ieee.Bits.{is_true}
use lib.Ieee.Fits.{and_l, and_r}
use Rattle.quantities.specs.declared.time.Time.{Time}
use Rattle.quantities.specs.Doubles.{zero_f, power, in_range}
use Rattle.meters.specs.declared.meter.AverageFlowMeter.{AverageFlowMeter}
use Rattle.meters.specs.Meter.{start_fit, total_fit, sum_fit, meter_fit, not_before, ready}

-- The clauses of a fit meter, by name.
pub record FitMeter (m : AverageFlowMeter) : Type 0 where
  pub few : m.records ≤ 16777216
  pub bounded : m.total.0 ≤ 16777216 * m.records
  pub start : T (start_fit m.current_start)
  pub total : T (total_fit m.total_time)
  pub sum : T (sum_fit m.records m.rtt_sum)

pub fit-meter : (m : AverageFlowMeter) → meter_fit m ≡ true → FitMeter m
unfolding meter_fit
fit-meter m e =
    let a = leb m.records 16777216 in
    let b = leb m.total.0 (16777216 * m.records) in
    let c = start_fit m.current_start in
    let d = total_fit m.total_time in
    let f = sum_fit m.records m.rtt_sum in
    let all : T (a && b && c && d && f) = subst T (sym e) tt in
    let abcd = and_l (a && b && c && d) f all in
    let abc = and_l (a && b && c) d abcd in
    let ab = and_l (a && b) c abc in
    record {
      few = leb→le m.records 16777216 (and_l a b ab);
      bounded = leb→le m.total.0 (16777216 * m.records) (and_r a b ab);
      start = and_r (a && b) c abc;
      total = and_r (a && b && c) d abcd;
      sum = and_r (a && b && c && d) f all;
    }

-- The clauses of a meter that is ready for a call at a time.
pub record ReadyMeter (m : AverageFlowMeter) (t : Time) : Type 0 where
  pub fit : FitMeter m
  pub time : T (in_range zero_f (power 41) t.0.0)
  pub since : T (not_before m.current_start t)

pub ready-meter : (m : AverageFlowMeter) (t : Time) → ready m t ≡ true → ReadyMeter m t
unfolding ready
ready-meter m t e =
    let a = meter_fit m in
    let b = in_range zero_f (power 41) t.0.0 in
    let c = not_before m.current_start t in
    let all : T (a && b && c) = subst T (sym e) tt in
    let ab = and_l (a && b) c all in
    record { fit = fit-meter m (is_true a (and_l a b ab)); time = and_r a b ab; since = and_r (a && b) c all }
