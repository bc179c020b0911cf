-- The answer of print_flows as a number, which is above 0 where there is room enough. Assumes nothing.
use mathlib.Core.List.{[], ◌∷◌}
use mathlib.Core.Path.{◌≡◌, refl}
use Rattle.sweep.proofs.Counting.{flows_counted}
use Rattle.notation.specs.InPlace.{InPlace, calls_of}
use Rattle.sweep.proofs.remyline_flows.Code as code
use Rattle.sweep.proofs.remyline_flows.Goals as goal

pub returns : goal.returns
returns c = flows_counted _ _ _ _ _ c.counted.ensures c.print_flows.ensures

in_place : InPlace code.function
in_place = refl

calls : calls_of code.function ≡ "filling::print_flows" ∷ "sweep::counted" ∷ []
calls = refl
