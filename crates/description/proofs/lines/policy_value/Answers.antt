-- `description::lines::policy_value` meets its contract: the word that was read tells the case. Windows that were read fit 32 bits.
-- Assumes nothing.
use mathlib.Core.Path.{refl}
use native.Mathlib.Omega.{arith}
use Rattle.notation.specs.Notation.{lf}
use Rattle.notation.specs.Reading.{decimal_form, either}
use Rattle.description.specs.declared.lines.Kind.TheVariants as E
use Rattle.description.specs.Words.{held_key, grown_key, timed_key}
use Rattle.description.specs.Lines.{most32, two_form, held_form, grown_form, timed_form}
use Rattle.notation.proofs.Words.{spelt, key_is}
use Rattle.description.proofs.Forms.{key_open, key_found, word_other, word_none, either-none, either_first, either_second}
use Rattle.notation.specs.InPlace.{InPlace}
use Rattle.description.proofs.lines.policy_value.Code as code
use Rattle.description.proofs.lines.policy_value.Goals as goal

pub returns-in_err-first : goal.returns-in_err-first
returns-in_err-first c =
    let none = c.in_err-first.ensures in
    rw c.from_residual.ensures
    (either-none held_form (either grown_form timed_form) (word_none (decimal_form most32 lf) (spelt 0 held_key refl) none (omega arith))
    (either-none grown_form timed_form (word_none (two_form (E.Whole most32) (E.Whole most32)) (spelt 0 grown_key refl) none (omega arith)) (word_none (two_form (E.Whole most32) E.Double) (spelt 0 timed_key refl) none (omega arith))))

pub returns-in_err-w : goal.returns-in_err-w
returns-in_err-w c =
    let read = c.in_ok-first.ensures in
    rw c.from_residual-in_err-w.ensures
    (either-none held_form (either grown_form timed_form) (key_open (key_is (spelt 0 held_key refl) read c.if-first-eq-HELD.true) c.in_err-w.ensures)
    (either-none grown_form timed_form (word_other (two_form (E.Whole most32) (E.Whole most32)) (spelt 0 grown_key refl) read (λ e. omega (arith, e, c.if-first-eq-HELD.true))) (word_other (two_form (E.Whole most32) E.Double) (spelt 0 timed_key refl) read (λ e. omega (arith, e, c.if-first-eq-HELD.true)))))

pub returns-then-first-eq-HELD : goal.returns-then-first-eq-HELD
returns-then-first-eq-HELD c =
    let read = c.in_ok-first.ensures in
    either_first held_form (either grown_form timed_form) (key_found (key_is (spelt 0 held_key refl) read c.if-first-eq-HELD.true) c.in_ok-w.ensures)
    (either-none grown_form timed_form (word_other (two_form (E.Whole most32) (E.Whole most32)) (spelt 0 grown_key refl) read (λ e. omega (arith, e, c.if-first-eq-HELD.true))) (word_other (two_form (E.Whole most32) E.Double) (spelt 0 timed_key refl) read (λ e. omega (arith, e, c.if-first-eq-HELD.true))))

pub returns-in_err-f : goal.returns-in_err-f
returns-in_err-f c =
    let read = c.in_ok-first.ensures in
    rw c.from_residual-in_err-f.ensures
    (either-none held_form (either grown_form timed_form) (word_other (decimal_form most32 lf) (spelt 0 held_key refl) read c.if-first-eq-HELD.false)
    (either-none grown_form timed_form (key_open (key_is (spelt 0 grown_key refl) read c.if-first-eq-GROWN.true) c.in_err-f.ensures) (word_other (two_form (E.Whole most32) E.Double) (spelt 0 timed_key refl) read (λ e. omega (arith, e, c.if-first-eq-GROWN.true)))))

pub returns-then-first-eq-GROWN : goal.returns-then-first-eq-GROWN
returns-then-first-eq-GROWN c =
    let read = c.in_ok-first.ensures in
    either_second held_form (either grown_form timed_form) (word_other (decimal_form most32 lf) (spelt 0 held_key refl) read c.if-first-eq-HELD.false)
    (either_first grown_form timed_form (key_found (key_is (spelt 0 grown_key refl) read c.if-first-eq-GROWN.true) c.in_ok-f.ensures) (word_other (two_form (E.Whole most32) E.Double) (spelt 0 timed_key refl) read (λ e. omega (arith, e, c.if-first-eq-GROWN.true))))

pub returns-in_err-m : goal.returns-in_err-m
returns-in_err-m c =
    let read = c.in_ok-first.ensures in
    rw c.from_residual-in_err-m.ensures
    (either-none held_form (either grown_form timed_form) (word_other (decimal_form most32 lf) (spelt 0 held_key refl) read c.if-first-eq-HELD.false)
    (either-none grown_form timed_form (word_other (two_form (E.Whole most32) (E.Whole most32)) (spelt 0 grown_key refl) read c.if-first-eq-GROWN.false) (key_open (key_is (spelt 0 timed_key refl) read c.if-first-eq-TIMED.true) c.in_err-m.ensures)))

pub returns-then-first-eq-TIMED : goal.returns-then-first-eq-TIMED
returns-then-first-eq-TIMED c =
    let read = c.in_ok-first.ensures in
    either_second held_form (either grown_form timed_form) (word_other (decimal_form most32 lf) (spelt 0 held_key refl) read c.if-first-eq-HELD.false)
    (either_second grown_form timed_form (word_other (two_form (E.Whole most32) (E.Whole most32)) (spelt 0 grown_key refl) read c.if-first-eq-GROWN.false) (key_found (key_is (spelt 0 timed_key refl) read c.if-first-eq-TIMED.true) c.in_ok-m.ensures))

pub returns : goal.returns
returns c =
    let read = c.in_ok-first.ensures in
    either-none held_form (either grown_form timed_form) (word_other (decimal_form most32 lf) (spelt 0 held_key refl) read c.if-first-eq-HELD.false)
    (either-none grown_form timed_form (word_other (two_form (E.Whole most32) (E.Whole most32)) (spelt 0 grown_key refl) read c.if-first-eq-GROWN.false) (word_other (two_form (E.Whole most32) E.Double) (spelt 0 timed_key refl) read c.if-first-eq-TIMED.false))

in_place : InPlace code.function
in_place = refl
