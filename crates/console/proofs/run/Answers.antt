-- The one array of `run` has the 4,096 bytes that are read into, and it calls `fill` and `print_text`, and `stdin` for the handle to read by.
-- Assumes nothing.
use Rattle.std.proofs.Common.{◌≡◌, refl, [], ◌∷◌}
use Rattle.notation.specs.InPlace.{arrays_of, calls_of}
use Rattle.console.proofs.run.Code as code

in_place : arrays_of code.function ≡ 4096 ∷ []
in_place = refl

calls : calls_of code.function ≡ "core::rt::LibcRuntime::stdin" ∷ "console::input::fill" ∷ "console::print_text" ∷ []
calls = refl
