-- The stop line, and the flows after it. Assumes nothing.
use Rattle.filling.proofs.Ending.{end_goes, end_full}
use Rattle.filling.proofs.put_end.Goals as goal

pub returns-in-Some : goal.returns-in-Some
returns-in-Some c = end_goes _ _ _ _ _ _ c.stop_bytes.ensures _ c.in-Some.is _ _ c.put_flows.ensures

pub returns-in-None : goal.returns-in-None
returns-in-None c = rw c.answer.ensures (end_full _ _ _ _ _ _ c.stop_bytes.ensures c.in-None.is)
