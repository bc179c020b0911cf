-- The records, and the end where all of them had room. Assumes nothing.
use Rattle.filling.proofs.Ending.{run_ends, run_waits}
use Rattle.filling.proofs.put_run.Goals as goal

pub returns-in-Stop : goal.returns-in-Stop
returns-in-Stop c = run_ends _ _ _ _ _ c.put_records-f.ensures _ c.in-Stop.is _ _ c.put_end.ensures

pub returns-in_default : goal.returns-in_default
returns-in_default c =
    run_waits _ _ _ _ _ c.put_records-f.ensures
    c.in_default.not-Stop
