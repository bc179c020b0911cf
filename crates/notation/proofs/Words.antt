-- A word: it is read in one way, byte by byte, and its value tells it. Assumes nothing.
use Prim.Native.Nat.{ℕ, ◌+◌, ◌*◌, ◌^◌, ◌≤◌, ◌<◌}
use mathlib.Core.Bool.{Bool, true, false, cond, false≢true}
use mathlib.Core.List.{List, [], ◌∷◌, ◌++◌, append_cancel_left, cons-eq-cons}
use mathlib.Core.Path.{◌≡◌, refl, sym, ap, ◌∙◌, subst}
use native.Mathlib.Omega.{arith}
use lib.Dec.{ltb, eqb}
use lib.ListN.{length, drop, get_or}
use borrow.Author.Tests.{ltb-true, ltb-false, eqb-true, eqb-false}
use Rattle.std.proofs.lemmas.Bool.Decides.{nat_tests}
use Rattle.std.specs.Bool.{then_some}
use Rattle.std.specs.Char.{is_ascii_lowercase}
use Rattle.notation.specs.Reading.{Found, Absent, word_form, Spells, last, more, SomeWord, NoWord, ReadsKey}
use Rattle.notation.proofs.Digits.{at_byte, at_end}

-- ---- a fixed word

pub word-found : (text w : List ℕ) (at next : ℕ) → drop at text ≡ w ++ drop next text → next ≡ at + length w → Found (word_form w) text at tt next
word-found text w at next e n = record {
  fits = tt;
  here = e;
  count = n;
  only = λ _ rest q _. (refl, append_cancel_left w rest (drop next text) (sym q ∙ e));
}

-- ---- letters

-- the bytes of letters
letter_low : (b : ℕ) → is_ascii_lowercase b ≡ true → 97 ≤ b
letter_low b e = grind (arith, nat_tests)

letter_high : (b : ℕ) → is_ascii_lowercase b ≡ true → b < 123
letter_high b e = grind (arith, nat_tests)

-- ---- the value of a word

spells_le : {n v : ℕ} {s : List ℕ} → Spells n s v → n * 256 ≤ v
spells_le (last b h l) = omega arith
spells_le (more b l r) = omega (arith, spells_le r)

spells_some : {n v : ℕ} {s : List ℕ} → Spells n s v → 0 < length s
spells_some (last b h l) = omega arith
spells_some (more b l r) = omega (arith, spells_some r)

-- two words of one length with one value are one
spells_even : {n m v w : ℕ} {s t : List ℕ} → Spells n s v → Spells m t w → v ≡ w → length s ≡ length t → (n ≡ m) × (s ≡ t)
spells_even (last b h l) (last c k m) q e =
    let same : b ≡ c = omega arith in
    (omega arith, ap (λ (x : ℕ). x ∷ []) same)
spells_even (last b h l) (more c m r) q e = absurd (omega (arith, spells_some r, e))
spells_even (more b l r) (last c k m) q e = absurd (omega (arith, spells_some r, e))
spells_even (more {s = s} b l r) (more c m r') q e =
    let p = spells_even r r' q (omega (arith, e)) in
    let same : b ≡ c = omega (arith, p.0, letter_high b l, letter_high c m) in
    (omega (arith, p.0, same), ap (λ (x : ℕ). x ∷ s) same ∙ ap (λ (x : List ℕ). c ∷ x) p.1)

-- a word is no longer than another with its value
spells_short : {m v w : ℕ} {s t : List ℕ} → Spells 0 s v → Spells m t w → v ≡ w → length s < length t → ⊥
spells_short r (last c k l) q h = omega (arith, spells_some r, h)
spells_short {s = s} r (more {s = t} c l r') q h = cases (eqb (length s) (length t)) refl (λ k. spells_short r r' q k)
  where
    cases : (x : Bool) → eqb (length s) (length t) ≡ x → (length s < length t → ⊥) → ⊥
    cases true e _ = omega (arith, letter_low c l, (spells_even r r' q (eqb-true (length s) (length t) e)).0)
    cases false e shorter = shorter (omega (arith, h, eqb-false (length s) (length t) e))

spells_once : {v : ℕ} {s t : List ℕ} → Spells 0 s v → Spells 0 t v → s ≡ t
spells_once {s = s} {t = t} r r' = cases (ltb (length s) (length t)) refl (ltb (length t) (length s)) refl
  where
    cases : (x : Bool) → ltb (length s) (length t) ≡ x → (y : Bool) → ltb (length t) (length s) ≡ y → s ≡ t
    cases true e _ _ = absurd (spells_short r r' refl (ltb-true _ _ e))
    cases false e true f = absurd (spells_short r' r refl (ltb-true _ _ f))
    cases false e false f = (spells_even r r' refl (omega (arith, ltb-false (length s) (length t) e, ltb-false (length t) (length s) f))).1

-- two words at the head of one text have one value
spells_same : {n v w : ℕ} {s t : List ℕ} (u u' : List ℕ) → Spells n s v → Spells n t w → s ++ u ≡ t ++ u' → v ≡ w
spells_same {n} u u' (last b h l) (last c k m) q = ap (λ (x : ℕ). n * 256 + x) (cons-eq-cons.0 q).0
spells_same u u' (last b h l) (more c m r) q = absurd (false≢true (sym l ∙ ap is_ascii_lowercase (cons-eq-cons.0 q).0 ∙ m))
spells_same u u' (more b l r) (last c k m) q = absurd (false≢true (sym m ∙ sym (ap is_ascii_lowercase (cons-eq-cons.0 q).0) ∙ l))
spells_same {n} u u' (more b l r) (more {v = w} {s = t} c m r') q =
    let p = cons-eq-cons.0 q in
    spells_same u u' r (subst (λ (x : ℕ). Spells (n * 256 + x) t w) (sym p.0) r') p.1

-- ---- a given word: whether a list is one, and its value

abbrev last_alone : ℕ → List ℕ → Bool
last_alone b [] = ltb b 256
last_alone b (c ∷ s) = false

abbrev pub is_word : List ℕ → Bool
is_word [] = false
is_word (b ∷ s) = cond (is_ascii_lowercase b) (is_word s) (last_alone b s)

abbrev pub value_from : ℕ → List ℕ → ℕ
value_from n [] = n
value_from n (b ∷ s) = value_from (n * 256 + b) s

last_alone_lem : (n b : ℕ) (s : List ℕ) → is_ascii_lowercase b ≡ false → last_alone b s ≡ true → Spells n (b ∷ s) (value_from n (b ∷ s))
last_alone_lem n b [] l e = last b (ltb-true b 256 e) l
last_alone_lem n b (c ∷ s) l e = absurd (false≢true e)

pub spelt : (n : ℕ) (w : List ℕ) → is_word w ≡ true → Spells n w (value_from n w)
spelt n [] e = absurd (false≢true e)
spelt n (b ∷ s) e = cases (is_ascii_lowercase b) refl (λ h. spelt (n * 256 + b) s h)
  where
    cases : (t : Bool) → is_ascii_lowercase b ≡ t → (is_word s ≡ true → Spells (n * 256 + b) s (value_from (n * 256 + b) s)) → Spells n (b ∷ s) (value_from n (b ∷ s))
    cases true l others = more b l (others (rw l at e))
    cases false l others = last_alone_lem n b s l (rw l at e)

-- ---- a word that was read, beside a given one

module _ {text : List ℕ} {at : ℕ} {w : List ℕ} {k : ℕ} (r : Spells 0 w k) where
  pub key_is : {v next : ℕ} → SomeWord text at v next → v ≡ k → Found (word_form w) text at tt next
  key_is {next = next} some e =
      let same : some.word ≡ w = spells_once some.spells (subst (Spells 0 w) (sym e) r) in
      word-found text w at next (some.here ∙ ap (λ (s : List ℕ). s ++ drop next text) same) (some.count ∙ ap (λ (s : List ℕ). at + length s) same)

  pub key_other : {v next : ℕ} → SomeWord text at v next → (v ≡ k → ⊥) → Absent (word_form w) text at
  key_other {next = next} some other = record {
    none = λ _ rest e _. other (spells_same (drop next text) rest some.spells r (sym some.here ∙ e));
  }

  pub key_none : NoWord text at → k < 2 ^ 64 → Absent (word_form w) text at
  key_none absent h = record { none = λ _ rest e _. absent.none w rest k e r h }

-- what `key` answers for a word that was read
pub key_told : {text : List ℕ} {at v next : ℕ} (k : ℕ) → SomeWord text at v next → ReadsKey k text at (then_some (eqb v k) next)
key_told {text} {at} {v} {next} k some = cases (eqb v k) refl
  where
    cases : (t : Bool) → eqb v k ≡ t → ReadsKey k text at (then_some t next)
    cases true e = subst (λ (x : ℕ). SomeWord text at x next) (eqb-true v k e) some
    cases false e = λ w r. key_other r some (eqb-false v k e)

-- ---- a word as it is read: what stands from next on, after letters of a value, and what stands from at on

pub record Passed (text : List ℕ) (at value next : ℕ) : Type 0 where
  pub to : (s rest : List ℕ) (v : ℕ) → drop next text ≡ s ++ rest → Spells value s v → (w : List ℕ) × Spells 0 w v × (drop at text ≡ w ++ rest) × (at + length w ≡ next + length s)
  pub from : (w rest : List ℕ) (v : ℕ) → drop at text ≡ w ++ rest → Spells 0 w v → (s : List ℕ) × Spells value s v × (drop next text ≡ s ++ rest)

pub passed_none : (text : List ℕ) (at : ℕ) → Passed text at 0 at
passed_none text at = record { to = λ s rest v e r. (s, r, e, refl); from = λ s rest v e r. (s, r, e) }

module _ (text : List ℕ) (at value next : ℕ) (p : Passed text at value next) where
  module _ (h : next < length text) where
    pub passed-more : is_ascii_lowercase (get_or text next 0) ≡ true → Passed text at (value * 256 + get_or text next 0) (next + 1)
    passed-more l = record {
      to = λ s rest v e r.
          let q = p.to (get_or text next 0 ∷ s) rest v (at_byte text next h ∙ ap (λ (x : List ℕ). get_or text next 0 ∷ x) e) (more _ l r) in
          (q.0, q.1, q.2, omega (arith, q.3));
      from = λ w rest v e r. let q = p.from w rest v e r in step rest q.0 v q.1 (sym (at_byte text next h) ∙ q.2);
    }
      where
        step : (rest s : List ℕ) (v : ℕ) → Spells value s v → get_or text next 0 ∷ drop (next + 1) text ≡ s ++ rest
            → (t : List ℕ) × Spells (value * 256 + get_or text next 0) t v × (drop (next + 1) text ≡ t ++ rest)
        step rest _ _ (last c k m) e = absurd (false≢true (sym m ∙ sym (ap is_ascii_lowercase (cons-eq-cons.0 e).0) ∙ l))
        step rest _ v (more {s = t} c m r) e =
            let q = cons-eq-cons.0 e in
            (t, subst (λ (x : ℕ). Spells (value * 256 + x) t v) (sym q.0) r, q.1)

    pub word_some : get_or text next 0 < 256 → is_ascii_lowercase (get_or text next 0) ≡ false → SomeWord text at (value * 256 + get_or text next 0) (next + 1)
    word_some k l =
        let q = p.to (get_or text next 0 ∷ []) (drop (next + 1) text) _ (at_byte text next h) (last _ k l) in
        record { word = q.0; spells = q.1; here = q.2; count = omega (arith, q.3) }

  pub word-ends : length text ≤ next → NoWord text at
  word-ends h = record { none = λ s rest v e r _. let q = p.from s rest v e r in cut rest q.0 v q.1 q.2 }
    where
      cut : (rest s : List ℕ) (v : ℕ) → Spells value s v → drop next text ≡ s ++ rest → ⊥
      cut rest _ _ (last c k m) e = at_end text next c rest h e
      cut rest _ _ (more {s = t} c m r) e = at_end text next c (t ++ rest) h e

  pub word-long : 2 ^ 56 ≤ value → NoWord text at
  word-long h = record { none = λ s rest v e r k. omega (arith, spells_le (p.from s rest v e r).1, h, k) }
