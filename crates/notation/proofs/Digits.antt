-- Runs of digits: a run at the head of a text is read in one way, digit by digit. Assumes nothing.
use Prim.Native.Nat.{ℕ, ◌+◌, ◌*◌, ◌-◌, ◌≤◌, ◌<◌, zero-le}
use mathlib.Core.Bool.{Bool, true, false}
use mathlib.Core.List.{List, [], ◌∷◌, ◌++◌, append_assoc, append_cancel_right, cons-eq-cons}
use mathlib.Core.Path.{◌≡◌, refl, sym, ap, ◌∙◌, subst}
use native.Mathlib.Nat.{le_trans, le_refl, lt_of_lt_of_le, le-mul_of_pos_right}
use native.Mathlib.Omega.{arith}
use lib.Dec.{ltb}
use lib.ListN.{length, get_or, drop, length-append, drop_of_length-le}
use lib.Seq.{drop-cons}
use native.Mathlib.Numerals.{add-one}
use borrow.Author.Tests.{ltb-true, ltb-false, lt-ltb, le-ltb}
use Rattle.std.specs.Prelude.{Some, None}
use Rattle.notation.specs.Notation.{digit_byte}
use Rattle.notation.specs.Reading.{Run, ends, digit, NoDigit, DigitIs, SomeDigits, NoDigits}

-- the two ranges of digits
pub low_digit : (d : ℕ) → d < 10 → digit_byte d ≡ 48 + d
unfolding digit_byte
low_digit d h = rw (lt-ltb d 10 h)

pub high_digit : (d : ℕ) → 10 ≤ d → digit_byte d ≡ 87 + d
unfolding digit_byte
high_digit d h = rw (le-ltb d 10 h)

-- a property of a digit, by its range
pub by_range : (P : ℕ → ℕ → Type 0) (d : ℕ) → (d < 10 → P d (48 + d)) → (10 ≤ d → P d (87 + d)) → P d (digit_byte d)
by_range P d low high = cases (ltb d 10) refl
  where
    cases : (t : Bool) → ltb d 10 ≡ t → P d (digit_byte d)
    cases true e = let h = ltb-true d 10 e in subst (P d) (sym (low_digit d h)) (low h)
    cases false e = let h = ltb-false d 10 e in subst (P d) (sym (high_digit d h)) (high h)

-- two digits that are written alike are equal
pub digit_only : (d e : ℕ) → d < 16 → e < 16 → digit_byte d ≡ digit_byte e → d ≡ e
digit_only d e hd he =
    by_range (λ x y. y ≡ digit_byte e → x ≡ e) d
    (λ l. by_range (λ x y. 48 + d ≡ y → d ≡ x) e (λ m q. omega arith) (λ m q. omega arith))
    (λ l. by_range (λ x y. 87 + d ≡ y → d ≡ x) e (λ m q. omega arith) (λ m q. omega arith))

-- a list is not a head and nothing at once
pub no_head : (x : ℕ) (s : List ℕ) → x ∷ s ≡ [] → ⊥
no_head x s q = let z : ◌≡◌ {A = ℕ} 0 1 = cc in omega arith

module _ (b : ℕ) where
  -- the value grows with each digit
  pub run_le : {n v : ℕ} {s : List ℕ} → 0 < b → Run b n s v → n ≤ v
  run_le h ends = le_refl _
  run_le {n} h (digit d l r) = le_trans (grows n d) (run_le h r)
    where
      grows : (m k : ℕ) → m ≤ m * b + k
      grows m k = le_trans (le-mul_of_pos_right m h) (omega arith)

  -- one digit more
  pub run_snoc : {n v : ℕ} {s : List ℕ} (d : ℕ) → d < b → Run b n s v → Run b n (s ++ (digit_byte d ∷ [])) (v * b + d)
  run_snoc d h ends = digit d h ends
  run_snoc d h (digit e l r) = digit e l (run_snoc d h r)

  -- of two runs at the head of one text, where no digit follows the second, the second goes on where the first ends
  pub run_over : b ≤ 16 → {n v w : ℕ} {s s' : List ℕ} (u u' : List ℕ) → Run b n s v → Run b n s' w → s ++ u ≡ s' ++ u' → NoDigit b u'
      → (more : List ℕ) × (u ≡ more ++ u') × Run b v more w
  run_over small u u' ends r q last = (_, q, r)
  run_over small u u' (digit d h r) ends q last = absurd (last d _ h (sym q))
  run_over small {n} u u' (digit d h r) (digit {v = w} {s = s} e k r') q last =
      let p = cons-eq-cons.0 q in
      let same : d ≡ e = digit_only d e (lt_of_lt_of_le h small) (lt_of_lt_of_le k small) p.0 in
      run_over small u u' r (subst (λ (x : ℕ). Run b (n * b + x) s w) (sym same) r') p.1 last

  -- two runs at the head of one text, with no digit after either, are one
  ended : {v w : ℕ} {more : List ℕ} (u u' : List ℕ) → NoDigit b u → u ≡ more ++ u' → Run b v more w → (w ≡ v) × (u' ≡ u)
  ended u u' here e ends = (refl, sym e)
  ended u u' here e (digit d h r) = absurd (here d _ h e)

  pub run_same : b ≤ 16 → {n v w : ℕ} {s s' : List ℕ} (u u' : List ℕ) → Run b n s v → Run b n s' w → s ++ u ≡ s' ++ u' → NoDigit b u → NoDigit b u'
      → (w ≡ v) × (s' ≡ s) × (u' ≡ u)
  run_same small {s = s} {s' = s'} u u' r r' q here there =
      let over = run_over small u u' r r' q there in
      let p = ended u u' here over.1 over.2 in
      (p.0, append_cancel_right s' s u (ap (λ (x : List ℕ). s' ++ x) (sym p.1) ∙ sym q), p.1)

-- what `digit` answers
digit_is : (x r : ℕ) → r < 16 → x ≡ digit_byte r → DigitIs x (Some r)
digit_is x r h e d = (λ q. let same : r ≡ d = cc in (omega arith, e ∙ ap digit_byte same), λ p. ap Some (digit_only r d h p.0 (sym e ∙ p.1)))

pub digit_low : (x : ℕ) → 48 ≤ x → x < 58 → DigitIs x (Some (x - 48))
digit_low x h l = digit_is x (x - 48) (omega arith) (let e : x - 48 < 10 = omega arith in omega (arith, low_digit (x - 48) e))

pub digit_high : (x : ℕ) → 97 ≤ x → x < 103 → DigitIs x (Some (x - 97 + 10))
digit_high x h l = digit_is x (x - 97 + 10) (omega arith) (let e : 10 ≤ x - 97 + 10 = omega arith in omega (arith, high_digit (x - 97 + 10) e))

pub digit_none : (x : ℕ) → ((d : ℕ) → d < 10 → x ≡ 48 + d → ⊥) → ((d : ℕ) → 10 ≤ d → d < 16 → x ≡ 87 + d → ⊥) → DigitIs x None
digit_none x low high d =
    (λ q. cc, λ p. absurd (by_range (λ k y. k < 16 → x ≡ y → ⊥) d (λ l _. low d l) (λ l. high d l) p.0 p.1))

-- the byte at a position, first of what stands from there
pub at_byte : (text : List ℕ) (n : ℕ) → n < length text → drop n text ≡ get_or text n 0 ∷ drop (n + 1) text
at_byte text n h = rw (add-one n) (drop-cons text n 0 h)

pub at_end : (text : List ℕ) (n x : ℕ) (rest : List ℕ) → length text ≤ n → drop n text ≡ x ∷ rest → ⊥
at_end text n x rest h e = no_head x rest (sym e ∙ drop_of_length-le text h)

-- the digits passed so far: none at first, one more with each digit, and too many where the value passes most
module _ (b most : ℕ) (text : List ℕ) (at : ℕ) where
  pub some_none : SomeDigits b most text at 0 at
  some_none = record { digits = []; run = ends; small = zero-le; here = refl; count = omega arith }

  module _ {v n : ℕ} (p : SomeDigits b most text at v n) (h : n < length text) (d : ℕ) (e : get_or text n 0 ≡ digit_byte d) (l : d < b) where
    one_more_lem : drop at text ≡ (p.digits ++ (digit_byte d ∷ [])) ++ drop (n + 1) text
    one_more_lem =
        p.here
        ∙ ap (λ (s : List ℕ). p.digits ++ s) (at_byte text n h ∙ ap (λ (x : ℕ). x ∷ drop (n + 1) text) e)
        ∙ sym (append_assoc p.digits (digit_byte d ∷ []) (drop (n + 1) text))

    pub some_more : v * b + d ≤ most → SomeDigits b most text at (v * b + d) (n + 1)
    some_more m = record {
      digits = p.digits ++ (digit_byte d ∷ []);
      run = run_snoc b d l p.run;
      small = m;
      here = one_more_lem;
      count = omega (arith, p.count, length-append p.digits (digit_byte d ∷ []));
    }

    pub some_over : 0 < b → b ≤ 16 → most < v * b + d → NoDigits b most text at
    some_over pos small m = record {
      none = λ s rest w q r last k.
          let over = run_over b small (drop (n + 1) text) rest (run_snoc b d l p.run) r (sym one_more_lem ∙ q) last in
          omega (arith, run_le b pos over.2);
    }
