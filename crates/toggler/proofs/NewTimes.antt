-- The time of the next toggle is fine, at a clock up to 2^40 that is a double. Assumes nothing.
use lib.Ieee.{Float}
use Rattle.quantities.specs.declared.time.Time.{Time}
use Rattle.quantities.specs.Doubles.{power}
use Rattle.quantities.specs.Units.{span_of}
use Rattle.quantities.specs.NewTime.{FineTime, Double}
use Rattle.quantities.proofs.Ranges.{Within, sum_fine}
use Rattle.toggler.specs.Toggler.{next_toggle_of}

pub next-toggle-fine : (clock : Time) → Within clock.0.0 (power 40) → Double clock → (draw : Float) → Within draw (power 40) → FineTime clock (next_toggle_of clock draw)
next-toggle-fine clock c double draw w = sum_fine clock (span_of draw) c w double
