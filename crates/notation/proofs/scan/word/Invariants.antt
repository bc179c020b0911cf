-- `notation::scan::word` meets its contract. The invariant: what was passed is letters with the value so far. The measure is what is left of the text.
-- Assumes nothing.
use Rattle.notation.proofs.Words.{Passed}
use Rattle.notation.proofs.scan.word.Given as goal

abbrev pub invariant-loop-next : goal.invariant-loop-next
invariant-loop-next l = Passed l.text l.at l.value l.next
