-- `description::lines::limit_line` meets its contract: a key, then a number or `none`, which does not stand where a number does.
-- Assumes nothing.
use mathlib.Core.Path.{refl}
use Rattle.notation.specs.Notation.{lf}
use Rattle.notation.specs.Reading.{word_form, decimal_form, either}
use Rattle.description.specs.Words.{limit_key, none_line}
use Rattle.description.specs.Lines.{most64}
use Rattle.notation.proofs.Words.{spelt, key_is}
use Rattle.description.proofs.Forms.{key_absent, key_open, key_found, either-none, either_first, either_second}
use Rattle.description.proofs.Cases.{bits_alone}
use Rattle.notation.specs.InPlace.{InPlace}
use Rattle.description.proofs.lines.limit_line.Code as code
use Rattle.description.proofs.lines.limit_line.Goals as goal

pub returns-in_err-from : goal.returns-in_err-from
returns-in_err-from c =
    rw c.from_residual.ensures (key_absent (either (word_form none_line) (decimal_form most64 lf)) (c.in_err-from.ensures limit_key (spelt 0 limit_key refl)))

pub returns-in-Some : goal.returns-in-Some
returns-in-Some c =
    let keyed = key_is (spelt 0 limit_key refl) c.in_ok-from.ensures refl in
    let bits = c.in-Some.ensures in
    key_found keyed (either_second (word_form none_line) (decimal_form most64 lf) (bits_alone bits) bits)

pub returns-in_err-next : goal.returns-in_err-next
returns-in_err-next c =
    let keyed = key_is (spelt 0 limit_key refl) c.in_ok-from.ensures refl in
    rw c.from_residual-in_err-next.ensures
    (key_open keyed (either-none (word_form none_line) (decimal_form most64 lf) (c.in_err-next.ensures none_line (spelt 0 none_line refl)) c.in_default.ensures))

pub returns : goal.returns
returns c =
    let keyed = key_is (spelt 0 limit_key refl) c.in_ok-from.ensures refl in
    key_found keyed (either_first (word_form none_line) (decimal_form most64 lf) (key_is (spelt 0 none_line refl) c.in_ok-next.ensures refl) c.in_default.ensures)

in_place : InPlace code.function
in_place = refl
