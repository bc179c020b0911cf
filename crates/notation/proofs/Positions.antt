-- A position that a reader answers lies within the text. Assumes nothing.
use Prim.Native.Nat.{ℕ, ◌+◌, ◌≤◌}
use mathlib.Core.List.{List, ◌++◌}
use mathlib.Core.Path.{◌≡◌, ap}
use native.Mathlib.Omega.{arith}
use lib.ListN.{length, drop, length-append, length-drop}
use Rattle.notation.specs.Reading.{Form, Found, SomeWord}

-- what stands at a position, up to the position next
end_within : (text s : List ℕ) (at next : ℕ) → drop at text ≡ s ++ drop next text → next ≡ at + length s → at ≤ length text → next ≤ length text
end_within text s at next here count h = omega (arith, count, h, ap length here, length-append s (drop next text), length-drop at text)

found_within : {A : Type 0} {F : Form A} {text : List ℕ} {at next : ℕ} {v : A} → Found F text at v next → at ≤ length text → next ≤ length text
found_within {F = F} {v = v} f = end_within _ (F.text v) _ _ f.here f.count

word-within : {text : List ℕ} {at v next : ℕ} → SomeWord text at v next → at ≤ length text → next ≤ length text
word-within f = end_within _ f.word _ _ f.here f.count
