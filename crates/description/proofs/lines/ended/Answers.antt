-- `description::lines::ended` meets its contract: by the kind, what `hex16` or `decimal` ensures.
-- Assumes nothing.
use mathlib.Core.Path.{refl}
use Rattle.notation.specs.InPlace.{InPlace}
use Rattle.description.proofs.lines.ended.Code as code

in_place : InPlace code.function
in_place = refl
