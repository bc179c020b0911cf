-- `description::gathered` meets its contract.
-- Assumes nothing.
use mathlib.Core.Path.{refl}
use Rattle.notation.specs.InPlace.{NoBytes}
use Rattle.description.proofs.gathered.Code as code

in_place : NoBytes code.function
in_place = refl
