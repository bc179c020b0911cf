-- A ring by its items: what a push and a pop do to them, where each of them stands, that a ring stays sound, and that a push leaves the other rings of the array alone.
-- Assumes nothing.
use mathlib.Core.Path.{◌≡◌, refl, sym, ap, ap₂, ◌∙◌}
use mathlib.Core.List.{List, [], ◌∷◌, ◌++◌}
use Prim.Native.Nat.{ℕ, zero, suc, ◌+◌, ◌*◌, ◌-◌, ◌%◌, ◌≤◌, ◌<◌}
use native.Mathlib.Nat.{add-zero}
use native.Mathlib.Numerals.{add-one}
use native.Mathlib.Omega.{arith}
use lib.ListN.{length, get_or, set, length-set}
use lib.Seq.{get_or-set_same, get_or-set_other, ext_get_or}
use Rattle.link.specs.declared.ring.Ring.{Ring}
use Rattle.link.specs.Ring.{places, slot_of, place_after, pushed, popped, items_from, items}

-- ring l: its slots are all there, it starts at one of them and has at most as many items
pub record Sound {A : Type 0} (slots : List A) (l : ℕ) (r : Ring) : Type 0 where
  pub full : places * l + places ≤ length slots
  pub start : r.start < places
  pub count : r.count ≤ places

-- two places of one ring, or of two rings, are two slots
same_slot : (l p q : ℕ) → slot_of l p ≡ slot_of l q → p ≡ q
same_slot l p q e = omega arith

apart : (l m p q : ℕ) → (l ≡ m → ⊥) → p < places → q < places → slot_of l p ≡ slot_of m q → ⊥
apart l m p q other h k e = other (omega arith)

-- ---- so many items from a place on

module _ {A : Type 0} (d : A) (slots : List A) (l : ℕ) where
  from_length : (at n : ℕ) → length (items_from d slots l at n) ≡ n
  from_length at zero = refl
  from_length at (suc n) = ap suc (from_length (at + 1) n)

  from_at : (at n i : ℕ) → i < n → get_or (items_from d slots l at n) i d ≡ get_or slots (slot_of l ((at + i) % places)) d
  from_at at zero i h = absurd (omega arith)
  from_at at (suc n) zero h = rw add-zero
  from_at at (suc n) (suc i) h =
      let e : (at + 1 + i) % places ≡ (at + suc i) % places = omega arith in
      rw (← e) (from_at (at + 1) n i (omega arith))

  -- two numbers that mean the same place have the same items
  from_turn : (at to n : ℕ) → at % places ≡ to % places → items_from d slots l at n ≡ items_from d slots l to n
  from_turn at to zero e = refl
  from_turn at to (suc n) e = ap₂ (λ (k : ℕ) (xs : List A). get_or slots (slot_of l k) d ∷ xs) e (from_turn (at + 1) (to + 1) n (omega arith))

  -- one item more stands at the end
  from_end : (at n : ℕ) → items_from d slots l at (suc n) ≡ items_from d slots l at n ++ (get_or slots (slot_of l ((at + n) % places)) d ∷ [])
  from_end at zero = rw add-zero
  from_end at (suc n) =
      let e : (at + 1 + n) % places ≡ (at + suc n) % places = omega arith in
      ap (λ (xs : List A). get_or slots (slot_of l (at % places)) d ∷ xs) (rw (← e) (from_end (at + 1) n))

-- ---- the items

module _ {A : Type 0} (d : A) (slots : List A) (l : ℕ) (r : Ring) where
  pub items-length : length (items d slots l r) ≡ r.count
  items-length = from_length d slots l r.start r.count

  pub items_at : (i : ℕ) → i < r.count → get_or (items d slots l r) i d ≡ get_or slots (slot_of l ((r.start + i) % places)) d
  items_at i h = from_at d slots l r.start r.count i h

  pub items-empty : r.count ≡ 0 → items d slots l r ≡ []
  items-empty e = rw e

  -- slots that agree wherever the ring reaches have the same items
  pub items-same : (others : List A)
      → ((i : ℕ) → i < r.count → get_or slots (slot_of l ((r.start + i) % places)) d ≡ get_or others (slot_of l ((r.start + i) % places)) d)
      → items d slots l r ≡ items d others l r
  items-same others h =
      let n : length (items d slots l r) ≡ r.count = items-length in
      ext_get_or d (items d slots l r) (items d others l r) (n ∙ sym (from_length d others l r.start r.count))
      (λ i k.
      let inside : i < r.count = omega arith in
      items_at i inside ∙ h i inside ∙ sym (from_at d others l r.start r.count i inside))

  -- the first, then the others
  pub items-first : r.start < places → 0 < r.count → items d slots l r ≡ get_or slots (slot_of l r.start) d ∷ items d slots l (popped r)
  items-first start some =
      let one : r.count ≡ suc (r.count - 1) = omega arith in
      let inside : r.start % places ≡ r.start = omega arith in
      ap (items_from d slots l r.start) one
      ∙ ap₂ (λ (k : ℕ) (xs : List A). get_or slots (slot_of l k) d ∷ xs) inside (from_turn d slots l (r.start + 1) ((r.start + 1) % places) (r.count - 1) (omega arith))

  -- what is written to a place of another ring
  pub items-other : (m p : ℕ) (x : A) → (l ≡ m → ⊥) → p < places → items d (set slots (slot_of m p) x) l r ≡ items d slots l r
  items-other m p x other h =
      sym
      (items-same (set slots (slot_of m p) x)
      (λ i k. sym (get_or-set_other slots (slot_of m p) (slot_of l ((r.start + i) % places)) x d (apart l m ((r.start + i) % places) p other (omega arith) h))))

-- ---- a push and a pop

module _ {A : Type 0} {slots : List A} {l : ℕ} {r : Ring} (sound : Sound slots l r) where
  -- The slot that a push writes is one that the ring does not reach.
  pub items_push : (d x : A) → r.count < places → items d (set slots (slot_of l (place_after r)) x) l (pushed r) ≡ items d slots l r ++ (x ∷ [])
  items_push d x h =
      let full : places * l + places ≤ length slots = sound.full in
      let after = set slots (slot_of l (place_after r)) x in
      rw (add-one, from_end)
      (ap₂ (λ (xs : List A) (y : A). xs ++ (y ∷ []))
      (items-same d after l r slots
      (λ i k. get_or-set_other slots (slot_of l (place_after r)) (slot_of l ((r.start + i) % places)) x d
      (λ (e : slot_of l ((r.start + i) % places) ≡ slot_of l (place_after r)). let p : (r.start + i) % places ≡ place_after r = same_slot l ((r.start + i) % places) (place_after r) e in omega arith)))
      (get_or-set_same slots (slot_of l (place_after r)) x d (let inside : place_after r < places = omega arith in omega arith)))

  pub push_sound : (x : A) → r.count < places → Sound (set slots (slot_of l (place_after r)) x) l (pushed r)
  push_sound x h =
      let full : places * l + places ≤ length slots = sound.full in
      let same : length (set slots (slot_of l (place_after r)) x) ≡ length slots = length-set slots (slot_of l (place_after r)) x in
      record { full = omega (arith, full, same); start = sound.start; count = omega arith }

  pub items_pop : (d : A) → 0 < r.count → items d slots l r ≡ get_or slots (slot_of l r.start) d ∷ items d slots l (popped r)
  items_pop d = items-first d slots l r sound.start

  pub pop_sound : 0 < r.count → Sound slots l (popped r)
  pop_sound h = record { full = sound.full; start = omega arith; count = omega arith }

  -- a store anywhere leaves the slots there
  pub store_sound : (k : ℕ) (x : A) → Sound (set slots k x) l r
  store_sound k x =
      let full : places * l + places ≤ length slots = sound.full in
      let same : length (set slots k x) ≡ length slots = length-set slots k x in
      record { full = omega (arith, full, same); start = sound.start; count = sound.count }
