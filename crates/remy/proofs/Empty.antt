-- The empty simulation, computed: it is what its network builds at seed 0, it is fit, and it stays idle. Assumes nothing.
use mathlib.Core.Path.{◌≡◌, refl}
use mathlib.Core.Bool.{true}
use Rattle.remy.specs.Build.{empty_network, empty_simulation, build_of}
use Rattle.remy.specs.Fit.{fit}
use Rattle.remy.specs.Tick.{unmoved, tick_of}
use Rattle.remy.proofs.Opened.{building, fitting, ticking}

pub empty-built : build_of empty_network 0 ≡ record { number = 0; simulation = empty_simulation }
unfolding building empty_simulation
empty-built = refl

pub empty-fit : fit empty_simulation ≡ true
unfolding fitting empty_simulation
empty-fit = refl

-- idle, though its clock is above 2^40
pub empty_idle : tick_of empty_simulation ≡ unmoved empty_simulation 0
unfolding ticking empty_simulation
empty_idle = refl
