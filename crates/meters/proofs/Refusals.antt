-- A change whose number is 18 leaves the meter as it was. Assumes nothing.
use Rattle.std.proofs.Common.{◌≡◌, Bool, true, false, cond, refl, arith}
use Rattle.meters.specs.declared.meter.AverageFlowMeter.{AverageFlowMeter}
use Rattle.meters.specs.declared.meter.Reception.{Reception}
use Rattle.quantities.specs.declared.time.Time.{Time}
use Rattle.meters.specs.Meter.{taken, unchanged, switched_of, recorded_of, received_of}

by_test : (b : Bool) (m changed : AverageFlowMeter) → (cond b (taken changed) (unchanged m)).number ≡ 18 → cond b (taken changed) (unchanged m) ≡ unchanged m
by_test true m changed e = absurd (omega (arith, e))
by_test false m changed e = refl

pub switch_refused : (m : AverageFlowMeter) (on : Bool) (t : Time) → (switched_of m on t).number ≡ 18 → switched_of m on t ≡ unchanged m
unfolding switched_of
switch_refused m on t e = by_test _ m _ e

pub record_refused : (m : AverageFlowMeter) (p : Reception) (t : Time) → (received_of m p t).number ≡ 18 → received_of m p t ≡ unchanged m
unfolding recorded_of
record_refused m p t e = by_test _ m _ e
