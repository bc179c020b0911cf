-- `notation::scan::digits` meets its contract. The invariant: what was passed is a run of digits with the value so far. The measure is what is left of the text. A digit more is another such run, or shows that the value passes `most`; a byte that is no digit ends the run.
-- Assumes nothing.
use Rattle.notation.specs.Reading.{SomeDigits}
use Rattle.notation.proofs.scan.digits.Given as goal

abbrev pub invariant-loop-next : goal.invariant-loop-next
invariant-loop-next l = SomeDigits l.base l.most l.text l.at l.value l.next
