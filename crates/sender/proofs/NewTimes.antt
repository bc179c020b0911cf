-- The time that a timer is set to is fine, at a clock up to 2^40 that is a double. Assumes nothing.
use lib.Ieee.{Float}
use Rattle.quantities.specs.declared.time.Time.{Time}
use Rattle.quantities.specs.Doubles.{power}
use Rattle.quantities.specs.Units.{span_of}
use Rattle.quantities.specs.NewTime.{FineTime, Double}
use Rattle.quantities.proofs.Ranges.{Within, sum_fine}
use Rattle.sender.specs.Sender.{timer_in}

pub timer_in_fine : (clock : Time) → Within clock.0.0 (power 40) → Double clock → (gap : Float) → Within gap (power 40) → FineTime clock (timer_in clock gap)
timer_in_fine clock c double gap w = sum_fine clock (span_of gap) c w double
