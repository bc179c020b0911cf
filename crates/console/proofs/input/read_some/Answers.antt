-- The read is std's, into the part itself. Assumes nothing.
use Rattle.std.proofs.Common.{◌≡◌, refl, [], ◌∷◌}
use Rattle.notation.specs.InPlace.{InPlace, calls_of}
use Rattle.console.proofs.input.read_some.Code as code

in_place : InPlace code.function
in_place = refl

calls : calls_of code.function ≡ "std::io::stdio::StdinRead::read" ∷ []
calls = refl
