-- Facts of every member of a list, counts, and sums over the lines. Assumes nothing.
use mathlib.Core.Path.{◌≡◌, refl, sym, ap, ap₂, ◌∙◌}
use mathlib.Core.Bool.{Bool, true, cond}
use mathlib.Core.List.{List, [], ◌∷◌, ◌++◌}
use Prim.Native.Nat.{ℕ, zero, suc, ◌+◌, ◌<◌}
use native.Mathlib.Nat.{add_assoc, zero-add}
use native.Mathlib.Decide.{ℕ_discrete}
use native.Mathlib.Omega.{arith}
use lib.Dec.{eqb}
use Rattle.link.specs.declared.packet.Packet.{Packet}
use Rattle.remy.specs.Fit.{every, count_of, sum_to}
use Rattle.remy.proofs.Facts.{both_l, both_r, both_i}
use Rattle.remy.proofs.Lists.{All}

-- what two facts of each member give
pub all_with : {A : Type 0} (P Q R : A → Type 0) → ((x : A) → P x → Q x → R x) → (xs : List A) → All P xs → All Q xs → All R xs
all_with P Q R f [] a b = tt
all_with P Q R f (x ∷ xs) a b = (f x a.0 b.0, all_with P Q R f xs a.1 b.1)

-- a test of every member
pub every-all : {A : Type 0} (f : A → Bool) (xs : List A) → every f xs ≡ true → All (λ x. f x ≡ true) xs
every-all f [] e = tt
every-all f (x ∷ xs) e = (both_l (f x) (every f xs) e, every-all f xs (both_r (f x) (every f xs) e))

pub all_every : {A : Type 0} (f : A → Bool) (xs : List A) → All (λ x. f x ≡ true) xs → every f xs ≡ true
all_every f [] a = refl
all_every f (x ∷ xs) a = both_i (f x) (every f xs) a.0 (all_every f xs a.1)

pub count-append : (i : ℕ) (xs ys : List Packet) → count_of i (xs ++ ys) ≡ count_of i xs + count_of i ys
count-append i [] ys = sym (zero-add (count_of i ys))
count-append i (p ∷ xs) ys = ap (λ n. cond (eqb p.sender i) 1 0 + n) (count-append i xs ys) ∙ sym (add_assoc (cond (eqb p.sender i) 1 0) (count_of i xs) (count_of i ys))

-- sums of two numbers for each line: of the same, and of those that differ at line l alone
module _ (f g : ℕ → ℕ) where
  sum_same : (n : ℕ) → ((m : ℕ) → m < n → g m ≡ f m) → sum_to n g ≡ sum_to n f
  sum_same zero same = refl
  sum_same (suc n) same = ap₂ (λ (a b : ℕ). a + b) (sum_same n (λ m h. same m (omega arith))) (same n (omega arith))

  pub sum_but : (l : ℕ) → ((m : ℕ) → (m ≡ l → ⊥) → g m ≡ f m) → (n : ℕ) → l < n → sum_to n g + f l ≡ sum_to n f + g l
  sum_but l same zero h = absurd (omega arith)
  sum_but l same (suc n) h = elim (ℕ_discrete l n) [
    | yes last ↦
        let below : sum_to n g ≡ sum_to n f = sum_same n (λ m k. same m (omega arith)) in
        omega (arith, below, ap f last, ap g last)
    | no other ↦
        let below : sum_to n g + f l ≡ sum_to n f + g l = sum_but l same n (omega arith) in
        let here : g n ≡ f n = same n (λ e. other (sym e)) in
        omega (arith, below, here)
  ]
