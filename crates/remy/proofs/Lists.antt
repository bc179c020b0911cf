-- Lists of entries, and sums of weights over lists of packets: both go through an append; facts of every member of a list. Assumes nothing.
use Rattle.std.proofs.Common.{Option, Some, None}
use mathlib.Core.Path.{◌≡◌, refl, sym, ap, subst, ◌∙◌}
use mathlib.Core.Logic.{inl, inr}
use mathlib.Core.Bool.{Bool, true, false, ◌||◌}
use mathlib.Core.List.Memᴰ
use mathlib.Core.List.{List, [], ◌∷◌, ◌++◌, map, Memᴰ}
use Prim.Native.Nat.{ℕ, zero, suc, ◌+◌, ◌%◌}
use native.Mathlib.Nat.{zero-add, add_assoc}
use native.Mathlib.Omega.{arith}
use lib.Dec.{eqb}
use lib.ListN.{length, get_or, take}
use Rattle.quantities.specs.declared.time.Time.{Time}
use Rattle.link.specs.declared.packet.Waiting.{Waiting}
use Rattle.link.specs.declared.ring.Ring.{Ring}
use Rattle.link.specs.Ring.{places, slot_of, items_from, items}
use Rattle.remy.specs.declared.simulation.Mark.{Mark}
use Rattle.remy.specs.declared.simulation.TickRecord.{TickRecord}
use Rattle.remy.specs.State.{total_bits}
use Rattle.remy.specs.History.{PacketId, Entry, ids, entry_if, entries, starts_in}
use Rattle.remy.specs.Account.{total}

-- ---- map, length and take

pub map_append : {A B : Type 0} (f : A → B) (xs ys : List A) → map f (xs ++ ys) ≡ map f xs ++ map f ys
map_append f [] ys = refl
map_append f (x ∷ xs) ys = ap (λ l. f x ∷ l) (map_append f xs ys)

pub map_length : {A B : Type 0} (f : A → B) (xs : List A) → length (map f xs) ≡ length xs
map_length f [] = refl
map_length f (x ∷ xs) = rw (map_length f xs)

pub map_take : {A B : Type 0} (f : A → B) (n : ℕ) (xs : List A) → map f (take n xs) ≡ take n (map f xs)
map_take f zero xs = refl
map_take f (suc n) [] = refl
map_take f (suc n) (x ∷ xs) = ap (λ l. f x ∷ l) (map_take f n xs)

-- ---- entries

entry_append : (b : Bool) (t : Time) (name : Option (ℕ × ℕ)) (xs ys : List Entry) → entry_if b t name (xs ++ ys) ≡ entry_if b t name xs ++ ys
entry_append false t name xs ys = refl
entry_append true t None xs ys = refl
entry_append true t (Some (i, m)) xs ys = refl

pub entries-append : (f : Mark → Bool) (h k : List TickRecord) → entries f (h ++ k) ≡ entries f h ++ entries f k
entries-append f [] k = refl
entries-append f (r ∷ h) k =
    ap (entry_if (f r.mark) r.time r.packet) (entries-append f h k) ∙ entry_append (f r.mark) r.time r.packet (entries f h) (entries f k)

pub starts-append : (part : ℕ) (h k : List TickRecord) → starts_in part (h ++ k) ≡ starts_in part h ++ starts_in part k
starts-append part [] k = refl
starts-append part (r ∷ h) k =
    let here = eqb r.part part in
    ap (entry_if here r.time r.started) (starts-append part h k) ∙ entry_append here r.time r.started (starts_in part h) (starts_in part k)

-- ---- sums of weights

module _ (f : PacketId → ℕ) where
  pub total-append : (xs ys : List PacketId) → total f (xs ++ ys) ≡ total f xs + total f ys
  total-append [] ys = sym (zero-add (total f ys))
  total-append (x ∷ xs) ys = ap (λ n. f x + n) (total-append xs ys) ∙ sym (add_assoc (f x) (total f xs) (total f ys))

  -- a record counts for one mark or another where it never has both
  entry_both : (a b : Bool) (t : Time) (name : Option (ℕ × ℕ)) (xs ys zs : List Entry) → (a ≡ true → b ≡ true → ⊥)
      → total f (ids zs) ≡ total f (ids xs) + total f (ids ys)
      → total f (ids (entry_if (a || b) t name zs)) ≡ total f (ids (entry_if a t name xs)) + total f (ids (entry_if b t name ys))
  entry_both true true t name xs ys zs apart e = absurd (apart refl refl)
  entry_both true false t None xs ys zs apart e = e
  entry_both true false t (Some (i, m)) xs ys zs apart e = omega (arith, e)
  entry_both false true t None xs ys zs apart e = e
  entry_both false true t (Some (i, m)) xs ys zs apart e = omega (arith, e)
  entry_both false false t name xs ys zs apart e = e

  pub entries-either : (a b : Mark → Bool) → ((m : Mark) → a m ≡ true → b m ≡ true → ⊥) → (h : List TickRecord)
      → total f (ids (entries (λ m. a m || b m) h)) ≡ total f (ids (entries a h)) + total f (ids (entries b h))
  entries-either a b apart [] = refl
  entries-either a b apart (r ∷ h) =
      entry_both (a r.mark) (b r.mark) r.time r.packet (entries a h) (entries b h) (entries (λ m. a m || b m) h) (apart r.mark) (entries-either a b apart h)

-- ---- sums of bits

pub bits_append : (xs ys : List Waiting) → total_bits (xs ++ ys) ≡ total_bits xs + total_bits ys
bits_append [] ys = sym (zero-add (total_bits ys))
bits_append (x ∷ xs) ys = ap (λ n. x.bits.0 + n) (bits_append xs ys) ∙ sym (add_assoc x.bits.0 (total_bits xs) (total_bits ys))

-- ---- facts of every member

abbrev pub All : {A : Type 0} → (A → Type 0) → List A → Type 0
All P [] = Unit {0}
All P (x ∷ l) = P x × All P l

module _ {A : Type 0} (P : A → Type 0) where
  pub all_first : (x : A) (xs : List A) → All P (x ∷ xs) → P x
  all_first x xs a = a.0

  pub all_append : (xs ys : List A) → All P xs → All P ys → All P (xs ++ ys)
  all_append [] ys a b = b
  all_append (x ∷ xs) ys a b = (a.0, all_append xs ys a.1 b)

pub all_map : {A : Type 0} (P Q : A → Type 0) → ((x : A) → P x → Q x) → (xs : List A) → All P xs → All Q xs
all_map P Q f [] a = tt
all_map P Q f (x ∷ xs) a = (f x a.0, all_map P Q f xs a.1)

-- of the members' images
pub all_mapped : {A B : Type 0} (P : B → Type 0) (f : A → B) (xs : List A) → All (λ x. P (f x)) xs → All P (map f xs)
all_mapped P f [] a = tt
all_mapped P f (x ∷ xs) a = (a.0, all_mapped P f xs a.1)

pub all_unmapped : {A B : Type 0} (P : B → Type 0) (f : A → B) (xs : List A) → All P (map f xs) → All (λ x. P (f x)) xs
all_unmapped P f [] a = tt
all_unmapped P f (x ∷ xs) a = (a.0, all_unmapped P f xs a.1)

-- of a ring's items, where it holds at every index
pub items-all : {A : Type 0} (P : A → Type 0) (d : A) (slots : List A) (l : ℕ) (r : Ring) → ((i : ℕ) → P (get_or slots i d)) → All P (items d slots l r)
items-all P d slots l r f = from r.start r.count
  where
    from : (at n : ℕ) → All P (items_from d slots l at n)
    from at zero = tt
    from at (suc n) = (f (slot_of l (at % places)), from (at + 1) n)

-- by membership
module _ {A : Type 0} (P : A → Type 0) where
  pub all_member : (xs : List A) → All P xs → (x : A) → Memᴰ x xs → P x
  all_member [] a x m = absurd (Memᴰ.not-nil m)
  all_member (y ∷ ys) a x m = elim (Memᴰ.cases_cons m) [
    | inl e ↦ subst P (sym e) a.0
    | inr n ↦ all_member ys a.1 x n
  ]

  pub member_all : (xs : List A) → ((x : A) → Memᴰ x xs → P x) → All P xs
  member_all [] f = tt
  member_all (x ∷ xs) f = (f x (Memᴰ.head refl), member_all xs (λ y m. f y (Memᴰ.tail m)))
