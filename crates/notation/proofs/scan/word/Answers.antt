-- `notation::scan::word` meets its contract. The invariant: what was passed is letters with the value so far.
-- Assumes nothing.
use mathlib.Core.Path.{refl, sym, ◌∙◌}
use native.Mathlib.Omega.{arith}
use Rattle.notation.proofs.Words.{passed-more, word_some, word-ends, word-long}
use Rattle.notation.specs.InPlace.{InPlace}
use Rattle.notation.proofs.scan.word.Code as code
use Rattle.notation.proofs.scan.word.Goals as goal

pub returns-in_err-value : goal.returns-in_err-value
returns-in_err-value c =
    rw c.from_residual.ensures (word-long _ _ _ _ c.loop-next.invariant (let far = c.in_err-value.ensures in omega arith))

pub returns-then-not-is_ascii_lowercase : goal.returns-then-not-is_ascii_lowercase
returns-then-not-is_ascii_lowercase c =
    rw c.in_ok-value.ensures.1 (word_some _ _ _ _ c.loop-next.invariant c.loop-next-test.true (omega arith) (sym c.is_ascii_lowercase.ensures.value ∙ c.if-not-is_ascii_lowercase.true))

pub loop-next-preserved : goal.loop-next-preserved
loop-next-preserved c =
    rw c.in_ok-value.ensures.1 (passed-more _ _ _ _ c.loop-next.invariant c.loop-next-test.true (sym c.is_ascii_lowercase.ensures.value ∙ c.if-not-is_ascii_lowercase.false))

pub returns : goal.returns
returns c = word-ends _ _ _ _ c.loop-next.invariant c.loop-next-test.false

in_place : InPlace code.function
in_place = refl
