-- One computed test for `once`: a list that has only packets 1..sent of the senders there are, and each of these exactly once. Assumes nothing.
use mathlib.Core.Path.{◌≡◌, refl, sym, subst}
use mathlib.Core.Bool.{Bool, true, false, ◌&&◌, cond, true≢false}
use mathlib.Core.List.{List, [], ◌∷◌}
use Prim.Native.Nat.{ℕ, zero, suc}
use native.Mathlib.Omega.{arith}
use borrow.Author.Tests.{ltb-true, leb-true, eqb-true}
use lib.Dec.{leb, ltb, eqb}
use Rattle.remy.specs.Network.{up_to, between}
use Rattle.remy.specs.Fit.{every}
use Rattle.remy.specs.History.{PacketId}
use Rattle.remy.specs.Account.{total, is_packet}
use Rattle.remy.proofs.Facts.{both_l, both_r, up_to-at}

-- so many senders, and what each sent
module _ (senders : ℕ) (sent : ℕ → ℕ) where
  abbrev was_sent : ℕ → ℕ → Bool
  was_sent i m = ltb i senders && between 1 (sent i) m

  abbrev pub each_once : List PacketId → Bool
  each_once xs = every (λ x. was_sent x.sender x.seq) xs && up_to senders (λ i. up_to (sent i) (λ m. eqb (total (is_packet i (suc m)) xs) 1))

  module _ (i m : ℕ) where
    absent : (xs : List PacketId) → every (λ x. was_sent x.sender x.seq) xs ≡ true → was_sent i m ≡ false → total (is_packet i m) xs ≡ 0
    absent [] all never = refl
    absent (x ∷ xs) all never =
        let rest = absent xs (both_r (was_sent x.sender x.seq) _ all) never in
        let first = by (eqb x.sender i && eqb x.seq m) refl in
        omega (arith, first, rest)
      where
        same : (eqb x.sender i && eqb x.seq m) ≡ true → was_sent i m ≡ true
        same e =
            subst (λ (j : ℕ). was_sent j m ≡ true) (eqb-true x.sender i (both_l _ _ e))
            (subst (λ (q : ℕ). was_sent x.sender q ≡ true) (eqb-true x.seq m (both_r (eqb x.sender i) _ e)) (both_l _ _ all))

        by : (b : Bool) → (eqb x.sender i && eqb x.seq m) ≡ b → (let flag : ℕ = cond b 1 0 in flag) ≡ 0
        by false e = refl
        by true e = absurd (true≢false (rw (same e) at never))

    present : (xs : List PacketId) → each_once xs ≡ true → was_sent i m ≡ true → total (is_packet i m) xs ≡ 1
    present xs each was =
        let inside = up_to-at senders (λ i. up_to (sent i) (λ m. eqb (total (is_packet i (suc m)) xs) 1)) (both_r (every (λ x. was_sent x.sender x.seq) xs) _ each) i (ltb-true i senders (both_l _ _ was)) in
        by m (both_r (ltb i senders) _ was) inside
      where
        by : (q : ℕ) → between 1 (sent i) q ≡ true → up_to (sent i) (λ m. eqb (total (is_packet i (suc m)) xs) 1) ≡ true → total (is_packet i q) xs ≡ 1
        by zero e inside = absurd (true≢false (sym e))
        by (suc q) e inside =
            let most = leb-true (suc q) (sent i) (both_r (leb 1 (suc q)) _ e) in
            eqb-true (total (is_packet i (suc q)) xs) 1 (up_to-at (sent i) (λ m. eqb (total (is_packet i (suc m)) xs) 1) inside q most)

    pub once_by : (xs : List PacketId) → each_once xs ≡ true → total (is_packet i m) xs ≡ cond (was_sent i m) 1 0
    once_by xs each = by (was_sent i m) refl
      where
        by : (b : Bool) → was_sent i m ≡ b → total (is_packet i m) xs ≡ cond b 1 0
        by true e = present xs each e
        by false e = absent xs (both_l _ _ each) e
