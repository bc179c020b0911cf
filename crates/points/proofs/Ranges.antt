-- The ranges of stops 1 to 7 and 20 end where documents 01 and 02 say: each point is computed. Assumes nothing.
use mathlib.Core.Path.{◌≡◌, refl}
use lib.Ieee.{of_bits, lt, le}
use Rattle.quantities.specs.Doubles.{zero_f}
use Rattle.draws.specs.declared.distribution.ContinuousDistribution.TheVariants.{Uniform}
use Rattle.remy.specs.Network.{network_stop}
use Rattle.remy.specs.Build.{not_built, build_of}
use Rattle.remy.proofs.Opened.{building}
use Rattle.points.specs.Points.{Hold}
use Rattle.points.specs.Ranges.{returned, good, tiny, with_off, unruly, ranges}
use Rattle.points.proofs.Claims.{◌and◌}

-- eight draws in a row that are 0; 20 before any
spent : build_of (returned (with_off (Uniform zero_f tiny)) good.line) 474 ≡ not_built 8
unfolding building
spent = refl

refused : build_of (returned (with_off (Uniform zero_f tiny)) unruly) 474 ≡ not_built 20
unfolding building
refused = refl

-- a line for each comment of the list
pub ranges_hold : Hold ranges
unfolding network_stop of_bits lt le
ranges_hold =
    refl
    and refl and refl and refl and refl and refl and refl and refl and refl and refl and refl and refl and refl and refl
    and refl and refl and refl and refl and refl and refl and refl and refl
    and refl and refl and refl and refl and refl and refl
    and refl and refl and refl and refl and refl and refl
    and refl and refl and refl and refl
    and refl and refl and refl and refl
    and refl and refl and refl
    and refl and refl and refl and refl and refl
    and refl and refl and refl
    and refl and refl and refl and refl and refl and refl
    and refl and refl and refl and refl and refl and refl and refl and refl and refl
    and refl and refl and refl and refl
    and refl and refl and refl and refl and refl
    and refl and refl and refl and refl and refl and refl and refl
    and refl and refl and refl
    and refl and refl and refl and refl and refl and refl and refl and refl
    and refl and refl and refl and refl and refl and refl
    and refl and refl and refl and refl and refl and refl
    and refl and refl and refl and refl
    and refl and refl and refl and refl and refl and refl and refl and refl
    and spent and refused
    and tt
