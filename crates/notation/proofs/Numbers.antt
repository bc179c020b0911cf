-- A number and the byte that ends it: all digits are read, then compared with how their value is written, then the byte. Assumes nothing.
use Prim.Native.Nat.{ℕ, ◌-◌, ◌^◌, ◌≤◌, ◌<◌}
use mathlib.Core.List.{List, [], ◌∷◌, ◌++◌, append_assoc, cons-eq-cons}
use mathlib.Core.Path.{◌≡◌, sym, ap, ◌∙◌}
use native.Mathlib.Nat.{lt_of_lt_of_le, add-zero}
use native.Mathlib.Omega.{arith}
use lib.Dec.{lit≤}
use lib.ListN.{length, drop, get_or, length-append, get_or-append}
use lib.Seq.{get_or-drop}
use Rattle.notation.specs.Notation.{hex_of, decimal_of}
use Rattle.notation.specs.Reading.{led_by_zero, Form, Found, Absent, Run, NoDigit, SomeDigits, NoDigits, word_form}
use Rattle.notation.proofs.Digits.{run_same}
use Rattle.notation.proofs.Written.{hex_run, decimal-run}

-- a byte that is no hexadecimal digit ends digits to every base, whatever follows
pub ends_digits : (b end : ℕ) (rest : List ℕ) → b ≤ 16 → NoDigit 16 (end ∷ []) → NoDigit b (end ∷ rest)
ends_digits b end rest small none d more h e = none d [] (lt_of_lt_of_le h small) (ap (λ (x : ℕ). x ∷ []) (cons-eq-cons.0 e).0)

-- how numbers are written: as runs of digits to a base, with values of at most most
pub record Notation : Type 1 where
  pub base : ℕ
  pub most : ℕ
  pub small : base ≤ 16
  pub write : ℕ → List ℕ
  pub Fits : ℕ → Type 0
  pub low : (w : ℕ) → Fits w → w ≤ most
  pub runs : (w : ℕ) → Fits w → Run base 0 (write w) w

abbrev pub hexadecimal : Notation
hexadecimal = record { base = 16; most = 2 ^ 64 - 1; small = lit≤ tt; write = hex_of; Fits = λ w. w < 2 ^ 64; low = λ w h. omega arith; runs = hex_run }

abbrev pub decimal : ℕ → Notation
decimal most = record { base = 10; most = most; small = lit≤ tt; write = decimal_of; Fits = λ w. w ≤ most; low = λ w h. h; runs = λ w _. decimal-run w }

-- a number and what ends it
abbrev pub ended_form : Notation → ℕ → Form ℕ
ended_form N end = record { text = λ v. N.write v ++ (end ∷ []); fits = N.Fits }

module _ (N : Notation) (end : ℕ) (none : NoDigit 16 (end ∷ [])) (text : List ℕ) (at : ℕ) where
  pub ended_too_large : NoDigits N.base N.most text at → Absent (ended_form N end) text at
  ended_too_large p = record {
    none = λ w rest e h.
        p.none (N.write w) (end ∷ rest) w (e ∙ append_assoc (N.write w) (end ∷ []) rest) (N.runs w h) (ends_digits N.base end rest N.small none) (N.low w h);
  }

  module _ (v n : ℕ) (p : SomeDigits N.base N.most text at v n) (last : NoDigit N.base (drop n text)) where
    -- a number that stands there has the digits that were read
    same : (w : ℕ) (rest : List ℕ) → drop at text ≡ (N.write w ++ (end ∷ [])) ++ rest → N.Fits w → (w ≡ v) × (N.write w ≡ p.digits) × (end ∷ rest ≡ drop n text)
    same w rest e h =
        run_same N.base N.small (drop n text) (end ∷ rest) p.run (N.runs w h)
        (sym p.here ∙ e ∙ append_assoc (N.write w) (end ∷ []) rest) last (ends_digits N.base end rest N.small none)

    pub ended_unspelt : ((w : ℕ) → N.Fits w → N.write w ≡ p.digits → ⊥) → Absent (ended_form N end) text at
    ended_unspelt other = record { none = λ w rest e h. other w h (same w rest e h).1 }

    pub ended_open : Absent (word_form (end ∷ [])) text n → Absent (ended_form N end) text at
    ended_open byte = record { none = λ w rest e h. byte.none tt rest (sym (same w rest e h).2) tt }

    pub ended-found : {after : ℕ} → N.Fits v → p.digits ≡ N.write v → Found (word_form (end ∷ [])) text n tt after → Found (ended_form N end) text at v after
    ended-found {after} fits q byte = record {
      fits = fits;
      here = p.here
          ∙ ap (λ (s : List ℕ). s ++ drop n text) q
          ∙ ap (λ (s : List ℕ). N.write v ++ s) byte.here
          ∙ sym (append_assoc (N.write v) (end ∷ []) (drop after text));
      count = omega (arith, p.count, byte.count, ap length q, length-append (N.write v) (end ∷ []));
      only = λ w rest e h.
          let s = same w rest e h in
          (s.0, (byte.only tt rest (sym s.2) tt).1);
    }

-- digits that were read: where there are some, the first of them stands at the position
module _ {b most v n : ℕ} {text : List ℕ} {at : ℕ} (p : SomeDigits b most text at v n) (h : (n ≡ at) → ⊥) where
  some_first : get_or text at 0 ≡ get_or p.digits 0 0
  some_first =
      ap (λ (k : ℕ). get_or text k 0) (sym (add-zero at))
      ∙ sym (get_or-drop at text 0 0)
      ∙ ap (λ (s : List ℕ). get_or s 0 0) p.here
      ∙ get_or-append p.digits (drop n text) 0 0 (omega (arith, p.count))

  pub some_led : led_by_zero (get_or text at 0) (n - at) ≡ led_by_zero (get_or p.digits 0 0) (length p.digits)
  some_led = let e : n - at ≡ length p.digits = omega (arith, p.count) in rw (some_first, e)
