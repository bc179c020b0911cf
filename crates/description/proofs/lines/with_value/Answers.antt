-- `description::lines::with_value` meets its contract: where the 16 places are taken, a store past them changes nothing.
-- Assumes nothing.
use mathlib.Core.Path.{refl}
use Rattle.notation.specs.InPlace.{NoBytes}
use Rattle.description.proofs.lines.with_value.Code as code

in_place : NoBytes code.function
in_place = refl
