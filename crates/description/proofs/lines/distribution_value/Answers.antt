-- `description::lines::distribution_value` meets its contract: the word that was read tells the case.
-- Assumes nothing.
use mathlib.Core.Path.{refl}
use native.Mathlib.Omega.{arith}
use Rattle.notation.specs.Notation.{lf}
use Rattle.notation.specs.Reading.{hex_form}
use Rattle.description.specs.declared.lines.Kind.TheVariants as E
use Rattle.description.specs.Words.{always_key, uniform_key}
use Rattle.description.specs.Lines.{two_form, always_form, uniform_form}
use Rattle.notation.proofs.Words.{spelt, key_is}
use Rattle.description.proofs.Forms.{key_open, key_found, word_other, word_none, either-none, either_first, either_second}
use Rattle.notation.specs.InPlace.{InPlace}
use Rattle.description.proofs.lines.distribution_value.Code as code
use Rattle.description.proofs.lines.distribution_value.Goals as goal

pub returns-in_err-first : goal.returns-in_err-first
returns-in_err-first c =
    let none = c.in_err-first.ensures in
    rw c.from_residual.ensures (either-none always_form uniform_form (word_none (hex_form lf) (spelt 0 always_key refl) none (omega arith)) (word_none (two_form E.Double E.Double) (spelt 0 uniform_key refl) none (omega arith)))

pub returns-in_err-v : goal.returns-in_err-v
returns-in_err-v c =
    let read = c.in_ok-first.ensures in
    rw c.from_residual-in_err-v.ensures (either-none always_form uniform_form (key_open (key_is (spelt 0 always_key refl) read c.if-first-eq-ALWAYS.true) c.in_err-v.ensures) (word_other (two_form E.Double E.Double) (spelt 0 uniform_key refl) read (λ e. omega (arith, e, c.if-first-eq-ALWAYS.true))))

pub returns-then-first-eq-ALWAYS : goal.returns-then-first-eq-ALWAYS
returns-then-first-eq-ALWAYS c =
    let read = c.in_ok-first.ensures in
    either_first always_form uniform_form (key_found (key_is (spelt 0 always_key refl) read c.if-first-eq-ALWAYS.true) c.in_ok-v.ensures) (word_other (two_form E.Double E.Double) (spelt 0 uniform_key refl) read (λ e. omega (arith, e, c.if-first-eq-ALWAYS.true)))

pub returns-in_err-min : goal.returns-in_err-min
returns-in_err-min c =
    let read = c.in_ok-first.ensures in
    rw c.from_residual-in_err-min.ensures (either-none always_form uniform_form (word_other (hex_form lf) (spelt 0 always_key refl) read c.if-first-eq-ALWAYS.false) (key_open (key_is (spelt 0 uniform_key refl) read c.if-first-eq-UNIFORM.true) c.in_err-min.ensures))

pub returns-then-first-eq-UNIFORM : goal.returns-then-first-eq-UNIFORM
returns-then-first-eq-UNIFORM c =
    let read = c.in_ok-first.ensures in
    either_second always_form uniform_form (word_other (hex_form lf) (spelt 0 always_key refl) read c.if-first-eq-ALWAYS.false) (key_found (key_is (spelt 0 uniform_key refl) read c.if-first-eq-UNIFORM.true) c.in_ok-min.ensures)

pub returns : goal.returns
returns c =
    let read = c.in_ok-first.ensures in
    either-none always_form uniform_form (word_other (hex_form lf) (spelt 0 always_key refl) read c.if-first-eq-ALWAYS.false) (word_other (two_form E.Double E.Double) (spelt 0 uniform_key refl) read c.if-first-eq-UNIFORM.false)

in_place : InPlace code.function
in_place = refl
