-- `description::lines::bits_line` meets its contract. The invariant: values were passed, those kept are the first of them, and what is read from here on is read after them. The measure is what is left of the text. Where no value with a comma follows, the last one is read.
-- Assumes nothing.
use mathlib.Core.Path.{refl}
use Rattle.notation.proofs.Words.{spelt, key_is}
use Rattle.description.specs.Words.{bits_key}
use Rattle.description.proofs.Sizes.{passed-more, bits_none, bits_absent, bits_long, bits_one, bits_many}
use Rattle.notation.specs.InPlace.{NoBytes}
use Rattle.description.proofs.lines.bits_line.Code as code
use Rattle.description.proofs.lines.bits_line.Goals as goal

pub returns-in_err-from : goal.returns-in_err-from
returns-in_err-from c = rw c.from_residual.ensures (bits_none (c.in_err-from.ensures bits_key (spelt 0 bits_key refl)))

pub loop-v-preserved : goal.loop-v-preserved
loop-v-preserved c = rw c.with_value-sizes.ensures (passed-more _ c.loop-v.invariant c.in-Some.ensures)

pub returns-in_err-v : goal.returns-in_err-v
returns-in_err-v c =
    let keyed = key_is (spelt 0 bits_key refl) c.in_ok-from.ensures refl in
    rw c.from_residual-in_err-v.ensures (bits_absent _ c.loop-v.invariant keyed c.in_default.ensures c.in_err-v.ensures)

pub returns-then-next-at-gt-MOST_LINE : goal.returns-then-next-at-gt-MOST_LINE
returns-then-next-at-gt-MOST_LINE c =
    let keyed = key_is (spelt 0 bits_key refl) c.in_ok-from.ensures refl in
    bits_long _ c.loop-v.invariant keyed c.in_default.ensures c.in_ok-v.ensures c.if-next-at-gt-MOST_LINE.true

pub returns-then-sizes-eq0 : goal.returns-then-sizes-eq0
returns-then-sizes-eq0 c =
    let keyed = key_is (spelt 0 bits_key refl) c.in_ok-from.ensures refl in
    bits_one _ c.loop-v.invariant keyed c.in_default.ensures c.in_ok-v.ensures c.if-next-at-gt-MOST_LINE.false c.if-sizes-eq0.true

pub returns : goal.returns
returns c =
    let keyed = key_is (spelt 0 bits_key refl) c.in_ok-from.ensures refl in
    rw c.with_value.ensures (bits_many _ c.loop-v.invariant keyed c.in_default.ensures c.in_ok-v.ensures c.if-next-at-gt-MOST_LINE.false c.if-sizes-eq0.false)

in_place : NoBytes code.function
in_place = refl
