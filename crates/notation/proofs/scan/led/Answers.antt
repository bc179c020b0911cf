-- `notation::scan::led` meets its contract.
-- Assumes nothing.
use mathlib.Core.Path.{refl}
use Rattle.notation.specs.InPlace.{InPlace}
use Rattle.notation.proofs.scan.led.Code as code

in_place : InPlace code.function
in_place = refl
