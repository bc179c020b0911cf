-- Each read is into the part of the buffer that is left. Assumes nothing.
use Rattle.std.proofs.Common.{◌≡◌, refl, [], ◌∷◌}
use Rattle.notation.specs.InPlace.{InPlace, calls_of}
use Rattle.console.proofs.input.fill.Code as code

in_place : InPlace code.function
in_place = refl

calls : calls_of code.function ≡ "console::input::read_some" ∷ []
calls = refl
