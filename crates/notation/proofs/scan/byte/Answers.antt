-- `notation::scan::byte` meets its contract.
-- Assumes nothing.
use mathlib.Core.Path.{refl}
use Rattle.notation.specs.InPlace.{InPlace}
use Rattle.notation.proofs.scan.byte.Code as code

in_place : InPlace code.function
in_place = refl
