-- One turn of a loop that tests every number below a bound, over plain variables. Assumes nothing.
use Prim.Native.Nat.{ℕ, zero, suc, ◌+◌, ◌≤◌, ◌<◌}
use mathlib.Core.Path.{◌≡◌, refl, sym, ap, subst, ◌∙◌}
use mathlib.Core.Logic.{inl, inr}
use Rattle.std.specs.Bool.{MatchBool}
use Rattle.std.specs.List.{range_with_len, AllWithin, HoldsAt}
use Rattle.std.proofs.lemmas.List.FromFn.{length-range_with_len, get_or-range_with_len}
use lib.ListN.{length, get_or}
use mathlib.Core.Bool.{Bool, true, false, ◌&&◌, and-false}
use native.Mathlib.Nat.{not-suc-le-zero, eq-or-lt_of_le, le_of_suc-le-suc}
use native.Mathlib.Numerals.{add-one}
use native.Mathlib.Omega.{arith}
use Rattle.remy.specs.Network.{up_to}

number_at : (n i : ℕ) → i < n → get_or (range_with_len 0 n) i 0 ≡ i
number_at n i h = omega (arith, get_or-range_with_len 0 n i 0 h)

module _ (f : ℕ → Bool) where
  pub up_goes : (i : ℕ) → up_to i f ≡ true → f i ≡ true → up_to (i + 1) f ≡ true
  up_goes i e g = rw (add-one i, e, g)

  up_fails : (n i : ℕ) → i < n → f i ≡ false → up_to n f ≡ false
  up_fails zero i h e = absurd (not-suc-le-zero h)
  up_fails (suc n) i h e = elim (eq-or-lt_of_le (le_of_suc-le-suc h)) [
    | inl same ↦ ap (λ (t : Bool). up_to n f && t) (subst (λ (j : ℕ). f j ≡ false) same e) ∙ and-false (up_to n f)
    | inr below ↦ rw (up_fails n i below e)
  ]

  pub up_stops : (n i : ℕ) → i < n → f i ≡ false → false ≡ up_to n f
  up_stops n i h e = sym (up_fails n i h e)

  pub up_done : (n i : ℕ) → up_to i f ≡ true → i ≤ n → n ≤ i → true ≡ up_to n f
  up_done n i e h k = let same : n ≡ i = omega arith in rw (same, e)

  up_all : (n : ℕ) → ((i : ℕ) → i < n → f i ≡ true) → up_to n f ≡ true
  up_all zero h = refl
  up_all (suc n) h = rw (up_all n (λ i k. h i (omega (arith, k))), h n (omega arith))

  -- what `all` tells over the numbers below n, as `cases_from_all` gives it
  pub up_to-all : (n : ℕ) (r : Bool)
      → MatchBool r
      (AllWithin (λ i. f i ≡ true) (range_with_len 0 n) 0 (length (range_with_len 0 n)))
      ((k : ℕ) × (k < length (range_with_len 0 n)) × HoldsAt (λ i. f i ≡ false) (range_with_len 0 n) k)
      → r ≡ up_to n f
  up_to-all n true e =
      sym
      (up_all n
      (λ i h. subst (λ (j : ℕ). f j ≡ true) (number_at n i h) (e i 0 (omega arith) (omega (arith, h, length-range_with_len 0 n)))))
  up_to-all n false e =
      let h : e.0 < n = omega (arith, e.1, length-range_with_len 0 n) in
      up_stops n e.0 h (subst (λ (j : ℕ). f j ≡ false) (number_at n e.0 h) (e.2 0))

-- tests that agree below the bound
pub up_same : (f g : ℕ → Bool) (n : ℕ) → ((i : ℕ) → i < n → f i ≡ g i) → up_to n f ≡ up_to n g
up_same f g zero e = refl
up_same f g (suc n) e = rw (up_same f g n (λ i h. e i (omega arith)), e n (omega arith))
