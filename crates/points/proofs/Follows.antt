-- Where each packet 1..k of a sender is in a list exactly once and no other of that sender is there, the list has k of them. So `books` follows from `once`,
-- and `sent` from `once`, `starts` and `leaves`. Assumes nothing.
use mathlib.Core.Path.{◌≡◌, refl, sym, ap, ◌∙◌}
use mathlib.Core.Logic.{◌⊎◌, inl, inr}
use mathlib.Core.Bool.{Bool, true, false, ◌&&◌, cond}
use mathlib.Core.List.{List, [], ◌∷◌}
use Prim.Native.Nat.{ℕ, zero, suc, ◌+◌, ◌≤◌, ◌<◌}
use native.Mathlib.Nat.{eq-or-lt_of_le}
use native.Mathlib.Omega.{arith}
use borrow.Author.Tests.{leb-true, leb-false, eq-eqb, ne_eqb, le-leb, lt-leb, le-ltb, lt-ltb}
use lib.Dec.{leb, ltb, eqb}
use Rattle.remy.specs.declared.network.RemyNetwork.{RemyNetwork}
use Rattle.remy.specs.declared.simulation.Simulation.{Simulation}
use Rattle.remy.specs.declared.simulation.TickRecord.{TickRecord}
use Rattle.remy.specs.Network.{between}
use Rattle.remy.specs.State.{line_count, sender_at}
use Rattle.remy.specs.History.{PacketId}
use Rattle.remy.specs.Account.{total, of_sender, is_packet, everywhere}
use Rattle.remy.proofs.Account.{sends_split, everywhere_split, partition}
use Rattle.points.specs.Refuted.{Says, sent, books, once, starts, leaves}

pub le_or_lt : (a b : ℕ) → (a ≤ b) ⊎ (b < a)
le_or_lt a b = by (leb a b) refl
  where
    by : (t : Bool) → leb a b ≡ t → (a ≤ b) ⊎ (b < a)
    by true e = inl (leb-true a b e)
    by false e = inr (leb-false a b e)

abbrev flag : Bool → ℕ
flag b = cond b 1 0

module _ (i : ℕ) where
  -- 1 for a packet of sender i with a number below k
  abbrev below : ℕ → PacketId → ℕ
  below k x = cond (eqb x.sender i && ltb x.seq k) 1 0

  below_zero_lem : (xs : List PacketId) → total (below 0) xs ≡ 0
  below_zero_lem [] = refl
  below_zero_lem (x ∷ xs) = let rest = below_zero_lem xs in let first = by (eqb x.sender i) x.seq in omega (arith, first, rest)
    where
      by : (b : Bool) (m : ℕ) → flag (b && ltb m 0) ≡ 0
      by true m = rw (le-ltb m 0 (omega arith))
      by false m = refl

  below_suc : (k : ℕ) (xs : List PacketId) → total (below (suc k)) xs ≡ total (below k) xs + total (is_packet i k) xs
  below_suc k [] = refl
  below_suc k (x ∷ xs) = let rest = below_suc k xs in let first = by (eqb x.sender i) x.seq in omega (arith, first, rest)
    where
      by : (b : Bool) (m : ℕ) → flag (b && ltb m (suc k)) ≡ flag (b && ltb m k) + flag (b && eqb m k)
      by false m = refl
      by true m = elim (le_or_lt m k) [
        | inr above ↦ rw (le-ltb m (suc k) (omega arith), le-ltb m k (omega arith), ne_eqb m k (λ e. omega arith))
        | inl most ↦ elim (eq-or-lt_of_le most) [
          | inl same ↦ rw (lt-ltb m (suc k) (omega arith), le-ltb m k (omega (arith, same)), eq-eqb m k same)
          | inr less ↦ rw (lt-ltb m (suc k) (omega arith), lt-ltb m k less, ne_eqb m k (λ e. omega arith))
        ]
      ]

  module _ (k : ℕ) where
    -- where no number is above k, all are below k + 1
    all_below : (xs : List PacketId) → ((m : ℕ) → k < m → total (is_packet i m) xs ≡ 0) → total (of_sender i) xs ≡ total (below (suc k)) xs
    all_below [] none = refl
    all_below (x ∷ xs) none =
        let rest = all_below xs (λ m above. let all = none m above in omega (arith, all)) in
        let first = by (eqb x.sender i) x.seq (λ above. let all = none x.seq above in omega (arith, all)) in
        omega (arith, first, rest)
      where
        by : (b : Bool) (m : ℕ) → (k < m → flag (b && eqb m m) ≡ 0) → flag b ≡ flag (b && ltb m (suc k))
        by false m none = refl
        by true m none = elim (le_or_lt m k) [
          | inl most ↦ rw (lt-ltb m (suc k) (omega arith))
          | inr above ↦ absurd (let one : 1 ≡ 0 = rw (eq-eqb m m refl) at (none above) in omega (arith, one))
        ]

    module _ (xs : List PacketId) (each : (m : ℕ) → total (is_packet i m) xs ≡ cond (between 1 k m) 1 0) where
      numbered : (j : ℕ) → j ≤ k → total (below (suc j)) xs ≡ j
      numbered zero most =
          let more = below_suc 0 xs in let none = below_zero_lem xs in let first = each 0 in omega (arith, more, none, first)
      numbered (suc j) most =
          let more = below_suc (suc j) xs in
          let some = numbered j (omega arith) in
          let next : total (is_packet i (suc j)) xs ≡ 1 = each (suc j) ∙ rw (le-leb 1 (suc j) (omega arith), le-leb (suc j) k most) in
          omega (arith, more, some, next)

      as_many : total (of_sender i) xs ≡ k
      as_many =
          all_below xs (λ m above. each m ∙ rw (le-leb 1 m (omega arith), lt-leb m k above))
          ∙ numbered k (omega arith)

-- each sender's packets are as many as it sent
module _ (n : RemyNetwork) (h : List TickRecord) (s : Simulation) (each : Says n h s once) (i : ℕ) (there : i < n.senders) where
  all_there : total (of_sender i) (everywhere n h s) ≡ (sender_at s i).packets_sent
  all_there =
      as_many i (sender_at s i).packets_sent (everywhere n h s)
      (λ m. each i m ∙ ap (λ (b : Bool). cond (b && between 1 (sender_at s i).packets_sent m) 1 0) (lt-ltb i n.senders there))

pub books_follows : (n : RemyNetwork) (h : List TickRecord) (s : Simulation) → Says n h s once → Says n h s books
books_follows n h s each i there =
    let all = all_there n h s each i there in
    let split = everywhere_split (of_sender i) h n s in
    omega (arith, all, split)

pub sent_follows : (n : RemyNetwork) (h : List TickRecord) (s : Simulation) → Says n h s once → ((l : ℕ) → l < line_count n → Says n h s (starts l))
    → ((l : ℕ) → l < line_count n → Says n h s (leaves l)) → Says n h s sent
sent_follows n h s each admitted started i there =
    sym (all_there n h s each i there)
    ∙ everywhere_split (of_sender i) h n s
    ∙ sym (partition (of_sender i) h n s admitted started)
    ∙ sends_split (of_sender i) h
