-- One turn of each loop over the members of a ring in order, over plain variables. Assumes nothing.
use Prim.Native.Nat.{ℕ, zero, suc, ◌+◌, ◌*◌, ◌-◌, ◌%◌, ◌≤◌, ◌<◌}
use mathlib.Core.Path.{◌≡◌, refl, sym, ap, ◌∙◌}
use mathlib.Core.Bool.{Bool, true, false, ◌&&◌, cond}
use mathlib.Core.List.{List, [], ◌∷◌, map}
use native.Mathlib.Nat.{add-zero, add_assoc}
use native.Mathlib.Omega.{arith}
use lib.Dec.{eqb}
use lib.ListN.{get_or}
use lib.Ieee.{le}
use Rattle.link.specs.declared.packet.Packet.{Packet}
use Rattle.link.specs.declared.packet.Waiting.{Waiting}
use Rattle.link.specs.declared.packet.Transit.{Transit}
use Rattle.link.specs.Ring.{places, slot_of, items_from}
use Rattle.remy.specs.State.{total_bits}
use Rattle.remy.specs.Fit.{every, count_of, rising}
use Rattle.clauses.specs.Tests.{AtMost, Added, OneMore}

-- ---- the members of a ring from the i-th on

abbrev pub rest : {A : Type 0} → A → List A → ℕ → ℕ → ℕ → ℕ → List A
rest d slots l start count i = items_from d slots l (start + i) (count - i)

module _ {A : Type 0} (d : A) (slots : List A) (l start count : ℕ) where
  pub rest_all : rest d slots l start count 0 ≡ items_from d slots l start count
  rest_all = let e : count - 0 ≡ count = omega arith in rw (add-zero, e)

  pub rest-next : (i : ℕ) → i < count → rest d slots l start count i ≡ get_or slots (slot_of l ((start + i) % places)) d ∷ rest d slots l start count (i + 1)
  rest-next i h =
      let e : count - i ≡ suc (count - (i + 1)) = omega arith in
      let f : start + i + 1 ≡ start + (i + 1) = omega arith in
      rw (e, f)

  pub rest-none : (i : ℕ) → count ≤ i → rest d slots l start count i ≡ []
  rest-none i h = let e : count - i ≡ 0 = omega arith in rw e

-- ---- a test of every member

module _ {A : Type 0} (f : A → Bool) (d : A) (slots : List A) (l start count i : ℕ) where
  pub every_goes : i < count → f (get_or slots (slot_of l ((start + i) % places)) d) ≡ true
      → every f (rest d slots l start count (i + 1)) ≡ every f (rest d slots l start count i)
  every_goes h e = sym (ap (every f) (rest-next d slots l start count i h) ∙ rw e)

  pub every-stops : i < count → f (get_or slots (slot_of l ((start + i) % places)) d) ≡ false → false ≡ every f (rest d slots l start count i)
  every-stops h e = sym (ap (every f) (rest-next d slots l start count i h) ∙ rw e)

  pub every-done : count ≤ i → true ≡ every f (rest d slots l start count i)
  every-done h = sym (ap (every f) (rest-none d slots l start count i h))

pub ruleset members = (every_goes, every-stops, every-done)

-- ---- a count of the packets of each of 16 senders, added to what was counted before; a packet of another sender is counted nowhere

module _ {A : Type 0} (packet : A → Packet) (d : A) (slots : List A) (l start count : ℕ) where
  -- sender k's packets among all members, and among those from the i-th on
  abbrev pub all_of : ℕ → ℕ
  all_of k = count_of k (map packet (items_from d slots l start count))

  abbrev later : ℕ → ℕ → ℕ
  later k i = count_of k (map packet (rest d slots l start count i))

  abbrev owner : ℕ → ℕ
  owner i = (packet (get_or slots (slot_of l ((start + i) % places)) d)).sender

  later-next : (k i : ℕ) → i < count → later k i ≡ cond (eqb (owner i) k) 1 0 + later k (i + 1)
  later-next k i h = ap (λ (xs : List A). count_of k (map packet xs)) (rest-next d slots l start count i h)

  -- after the first i members: what is counted and what is in the rest are all, and what was counted before
  pub record Counted (most : ℕ) (first counts : List ℕ) (i : ℕ) : Type 0 where
    pub few : (k : ℕ) → k < 16 → get_or counts k 0 ≤ most + i
    pub all : (k : ℕ) → k < 16 → get_or counts k 0 + later k i ≡ get_or first k 0 + all_of k

  pub counted_none : (most : ℕ) (first : List ℕ) → AtMost most 16 first → Counted most first first 0
  counted_none most first few = record {
    few = λ k h. let e = few.each k h in omega (arith, e);
    all = λ k h. ap (λ (xs : List A). get_or first k 0 + count_of k (map packet xs)) (rest_all d slots l start count);
  }

  one-most : (b : Bool) → cond b 1 0 ≤ 1
  one-most true = omega arith
  one-most false = omega arith

  pub counted_more : (most : ℕ) (first counts : List ℕ) (i : ℕ) → Counted most first counts i → i < count → (more : List ℕ) → OneMore (owner i) counts more
      → Counted most first more (i + 1)
  counted_more most first counts i c h more m = record {
    few = λ k b. let e = c.few k b in let d = m.each k b in let o = one-most (eqb (owner i) k) in omega (arith, e, d, o);
    all = λ k b. let e = c.all k b in let d = m.each k b in let n = later-next k i h in omega (arith, e, d, n);
  }

  pub counted-all : (most : ℕ) (first counts : List ℕ) (i : ℕ) → Counted most first counts i → i ≤ 512 → count ≤ i → Added (most + 512) first all_of counts
  counted-all most first counts i c small h = record {
    each = λ k m.
        let e = c.all k m in
        let n : later k i ≡ 0 = ap (λ (xs : List A). count_of k (map packet xs)) (rest-none d slots l start count i h) in
        omega (arith, e, n);
    most = record { each = λ k m. let e = c.few k m in omega (arith, e) };
  }

-- counts to which two numbers were added one after the other
pub added_both : (less more most : ℕ) (first middle counts : List ℕ) (f g : ℕ → ℕ) → Added less first f middle → Added more middle g counts → more ≤ most
    → Added most first (λ k. f k + g k) counts
added_both less more most first middle counts f g a b h = record {
  each = λ k m. let e = a.each k m in let d = b.each k m in omega (arith, e, d);
  most = record { each = λ k m. let e = b.most.each k m in omega (arith, e, h) };
}

pub ruleset counting = (counted_none, counted_more, counted-all, added_both)

-- ---- the sum of the bits that the members carry

module _ (d : Waiting) (slots : List Waiting) (l start count : ℕ) where
  -- after the first i members, of at most 2^24 bits each: the sum of their bits, and those of the rest, are all
  pub record Summed (sum i : ℕ) : Type 0 where
    pub few : sum ≤ i * 16777216
    pub all : sum + total_bits (rest d slots l start count i) ≡ total_bits (items_from d slots l start count)

  module _ (sum i : ℕ) (s : Summed sum i) where
    pub summed-one : i < count → (bits : ℕ) → (get_or slots (slot_of l ((start + i) % places)) d).bits.0 ≡ bits → bits ≤ 16777216 → Summed (sum + bits) (i + 1)
    summed-one h bits e small = record {
      few = let few = s.few in omega (arith, few, small);
      all = add_assoc sum bits _ ∙ ap (λ (n : ℕ). sum + n) (sym next) ∙ s.all;
    }
      where
        next : total_bits (rest d slots l start count i) ≡ bits + total_bits (rest d slots l start count (i + 1))
        next =
            ap total_bits (rest-next d slots l start count i h) ∙ ap (λ (n : ℕ). n + total_bits (rest d slots l start count (i + 1))) e

    pub summed-all : count ≤ i → total_bits (items_from d slots l start count) ≡ sum
    summed-all h = sym s.all ∙ ap (λ (l : List Waiting). sum + total_bits l) (rest-none d slots l start count i h) ∙ add-zero sum

pub ruleset sums = (summed-one, summed-all)

-- ---- due times that do not fall

module _ (d : Transit) (slots : List Transit) (l start count i : ℕ) where
  -- the first two of the rest
  two : (j : ℕ) → j ≡ i + 1 → j < count
      → rising (rest d slots l start count i)
      ≡ (le (get_or slots (slot_of l ((start + i) % places)) d).due.0.0 (get_or slots (slot_of l ((start + j) % places)) d).due.0.0 && rising (rest d slots l start count j))
  two j at h =
      let e : count - i ≡ suc (suc (count - (j + 1))) = omega arith in
      let g : count - j ≡ suc (count - (j + 1)) = omega arith in
      let f : start + j ≡ start + i + 1 = omega arith in
      rw (e, g, f)

  pub rising_goes : (j : ℕ) → j ≡ i + 1 → j < count
      → le (get_or slots (slot_of l ((start + i) % places)) d).due.0.0 (get_or slots (slot_of l ((start + j) % places)) d).due.0.0 ≡ true
      → rising (rest d slots l start count (j + 1 - 1)) ≡ rising (rest d slots l start count i)
  rising_goes j at h e = let same : j + 1 - 1 ≡ j = omega arith in ap (λ (k : ℕ). rising (rest d slots l start count k)) same ∙ sym (two j at h ∙ rw e)

  pub rising-stops : (j : ℕ) → j ≡ i + 1 → j < count
      → le (get_or slots (slot_of l ((start + i) % places)) d).due.0.0 (get_or slots (slot_of l ((start + j) % places)) d).due.0.0 ≡ false
      → false ≡ rising (rest d slots l start count i)
  rising-stops j at h e = sym (two j at h ∙ rw e)

  pub rising-done : count ≤ i + 1 → true ≡ rising (rest d slots l start count i)
  rising-done h = short (start + i) (count - i) (omega arith)
    where
      short : (at n : ℕ) → n ≤ 1 → true ≡ rising (items_from d slots l at n)
      short at zero k = refl
      short at (suc zero) k = refl
      short at (suc (suc n)) k = let no : ⊥ = omega arith in absurd no

pub ruleset falls = (rising_goes, rising-stops, rising-done)
