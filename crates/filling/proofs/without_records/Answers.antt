-- By the stage of the report. Assumes nothing.
use Rattle.filling.proofs.Ending.{ticks-run, no_ticks}
use Rattle.filling.proofs.without_records.Goals as goal

pub returns-in-Ticks : goal.returns-in-Ticks
returns-in-Ticks c = ticks-run _ _ c.in-Ticks.is _ c.run-ran.ensures.0

pub returns-in_default : goal.returns-in_default
returns-in_default c = no_ticks _ c.in_default.not-Ticks
