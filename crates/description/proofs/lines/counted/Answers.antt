-- `description::lines::counted` meets its contract: each test is one of the two cases.
-- Assumes nothing.
use mathlib.Core.Path.{refl}
use Rattle.notation.specs.InPlace.{InPlace}
use Rattle.description.proofs.lines.counted.Code as code

in_place : InPlace code.function
in_place = refl
