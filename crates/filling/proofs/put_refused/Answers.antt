-- One line, put or left. Assumes nothing.
use Rattle.filling.proofs.Ending.{refused_put, refused_full}
use Rattle.filling.proofs.put_refused.Goals as goal

pub returns-in-Some : goal.returns-in-Some
returns-in-Some c = rw c.answer.ensures (refused_put _ _ _ _ _ _ c.refused_line.ensures _ c.in-Some.is)

pub returns-in-None : goal.returns-in-None
returns-in-None c = rw c.answer-in-None.ensures (refused_full _ _ _ _ _ _ c.refused_line.ensures c.in-None.is)
