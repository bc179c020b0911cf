-- `description::Malformed::number` meets its contract.
-- Assumes nothing.
use mathlib.Core.Path.{refl}
use Rattle.notation.specs.InPlace.{InPlace}
use Rattle.description.proofs.Malformed.number.Code as code

in_place : InPlace code.function
in_place = refl
