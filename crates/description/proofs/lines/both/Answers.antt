-- `description::lines::both` meets its contract: a number, then another.
-- Assumes nothing.
use mathlib.Core.Path.{refl}
use Rattle.notation.specs.InPlace.{InPlace}
use Rattle.description.proofs.lines.both.Code as code

in_place : InPlace code.function
in_place = refl
