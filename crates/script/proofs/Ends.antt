-- The bytes of a first line, by the place of its LF; they lie in the text. A line in the text ends after its place. Assumes nothing.
use Prim.Native.Nat.{ℕ, ◌+◌, ◌≤◌, ◌<◌}
use mathlib.Core.List.{List, [], ◌∷◌}
use mathlib.Core.Path.{◌≡◌, refl}
use native.Mathlib.Nat.{add-zero}
use native.Mathlib.Omega.{arith}
use lib.ListN.{length, drop, length-drop, drop_of_length-le}
use Rattle.std.proofs.lemmas.Grind.{common_steps}
use Rattle.std.specs.Prelude.{cond, ◌==◌, nat_lt}
use Rattle.std.specs.List.{position_or_len}
use Rattle.script.specs.Script.{line_length, next_line}

pub length_by_place : (text : List ℕ) → line_length text ≡ cond (nat_lt (position_or_len (λ b. b == 10) text) (length text)) (position_or_len (λ b. b == 10) text + 1) (length text)
unfolding line_length
length_by_place [] = refl
length_by_place (b ∷ rest) = grind (arith, common_steps, length_by_place rest)

pub line_within : (text : List ℕ) → line_length text ≤ length text
unfolding line_length
line_within [] = omega arith
line_within (b ∷ rest) = grind (arith, common_steps, line_within rest)

pub line_some : (text : List ℕ) → 0 < length text → 0 < line_length text
unfolding line_length
line_some [] h = elim h [ ]
line_some (b ∷ rest) h = grind (arith, common_steps)

module _ (text : List ℕ) (i : ℕ) where
  pub line_after : i < length text → i < next_line text i
  unfolding next_line
  line_after h = omega (arith, line_some (drop i text) (omega (arith, length-drop i text)))

  -- at the end no line is left
  pub line-none : length text ≤ i → i ≡ next_line text i
  unfolding next_line line_length
  line-none h = rw (drop_of_length-le text h, add-zero i)
