-- The worked example and the line without delay, computed. Assumes nothing.
use mathlib.Core.Path.{refl}
use Rattle.points.specs.Points.{Hold}
use Rattle.points.specs.Worked.{ticks_of, worked_after, example, no_delay}
use Rattle.points.proofs.Claims.{◌and◌}
use Rattle.remy.proofs.Opened.{ticking}

pub example_holds : Hold example
unfolding ticking ticks_of worked_after
example_holds = refl and refl and refl and refl and refl and refl and refl and refl and tt

pub no_delay_holds : Hold no_delay
unfolding ticking ticks_of
no_delay_holds = refl and refl and tt
