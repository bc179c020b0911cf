-- What only a state made by hand or a rare run shows, computed. Assumes nothing.
use mathlib.Core.Path.{refl}
use Rattle.remy.specs.Build.{empty_simulation}
use Rattle.remy.proofs.Empty.{empty-built}
use Rattle.remy.proofs.Opened.{sender}
use Rattle.points.specs.Points.{Hold}
use Rattle.points.specs.Rare.{rare}
use Rattle.points.proofs.Claims.{◌and◌}

-- a line for each comment of the list
pub rare_holds : Hold rare
unfolding sender empty_simulation
rare_holds =
    refl and refl and refl
    and refl
    and refl
    and refl and refl
    and refl
    and refl and refl and refl and refl and refl and refl and refl and refl and refl and refl
    and empty-built and refl
    and tt
