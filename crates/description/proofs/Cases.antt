-- What ends a value is no digit, `none` is no number, and a number has one end. Assumes nothing.
use Prim.Native.Nat.{ℕ}
use mathlib.Core.List.{List, [], ◌∷◌, ◌++◌, append_assoc, cons-eq-cons}
use mathlib.Core.Path.{sym, ◌∙◌}
use native.Mathlib.Omega.{arith}
use lib.Dec.{lit≤}
use lib.ListN.{drop}
use Rattle.std.specs.Prelude.{None}
use Rattle.notation.specs.Notation.{lf, colon, decimal_of}
use Rattle.description.specs.Words.{none_line}
use Rattle.description.specs.Text.{comma}
use Rattle.notation.specs.Reading.{NoDigit, DigitIs, Found, Absent, word_form, decimal_form}
use Rattle.description.specs.Lines.{most64}
use Rattle.notation.proofs.Digits.{digit_none, run_same}
use Rattle.notation.proofs.Written.{decimal_head, decimal-run}
use Rattle.notation.proofs.Numbers.{ends_digits}

no_digit : (x : ℕ) → DigitIs x None → NoDigit 16 (x ∷ [])
no_digit x is d rest h e = let q = (is d).1 (h, (cons-eq-cons.0 e).0) in cc

pub lf_ends : NoDigit 16 (lf ∷ [])
lf_ends = no_digit 10 (digit_none 10 (λ d l e. omega arith) (λ d l h e. omega arith))

pub colon_ends : NoDigit 16 (colon ∷ [])
colon_ends = no_digit 58 (digit_none 58 (λ d l e. omega arith) (λ d l h e. omega arith))

pub comma_ends : NoDigit 16 (comma ∷ [])
comma_ends = no_digit 44 (digit_none 44 (λ d l e. omega arith) (λ d l h e. omega arith))

-- where a number stands, `none` does not
pub bits_alone : {text : List ℕ} {at v next : ℕ} → Found (decimal_form most64 lf) text at v next → Absent (word_form none_line) text at
bits_alone {text} {v = v} {next = next} f = record {
  none = λ _ rest e _.
      let q = decimal_head v 110 ((lf ∷ []) ++ drop next text) _ (sym (append_assoc (decimal_of v) (lf ∷ []) (drop next text)) ∙ sym f.here ∙ e) in
      omega (arith, q.1);
}

-- where a number that a comma ends stands, none that LF ends does
pub comma_alone : {text : List ℕ} {at v next : ℕ} → Found (decimal_form most64 comma) text at v next → Absent (decimal_form most64 lf) text at
comma_alone {text} {v = v} {next = next} f = record {
  none = λ w rest e _.
      let same = run_same 10 (lit≤ tt) (comma ∷ drop next text) (lf ∷ rest) (decimal-run v) (decimal-run w)
      (sym (append_assoc (decimal_of v) (comma ∷ []) (drop next text)) ∙ sym f.here ∙ e ∙ append_assoc (decimal_of w) (lf ∷ []) rest)
      (ends_digits 10 comma (drop next text) (lit≤ tt) comma_ends) (ends_digits 10 lf rest (lit≤ tt) lf_ends) in
      let q = (cons-eq-cons.0 same.2).0 in
      omega (arith, q);
}
