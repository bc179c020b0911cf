-- By the stage of the report. Assumes nothing.
use Rattle.filling.proofs.Ending.{at_stage, nothing_left}
use Rattle.filling.proofs.fill.Goals as goal

pub returns-in-Refused : goal.returns-in-Refused
returns-in-Refused c = at_stage _ _ _ _ _ c.in-Refused.is c.put_refused.ensures

pub returns-in-Ticks : goal.returns-in-Ticks
returns-in-Ticks c = at_stage _ _ _ _ _ c.in-Ticks.is c.put_run.ensures

pub returns-in-Stop : goal.returns-in-Stop
returns-in-Stop c = at_stage _ _ _ _ _ c.in-Stop.is c.put_end.ensures

pub returns-in-Flows : goal.returns-in-Flows
returns-in-Flows c = at_stage _ _ _ _ _ c.in-Flows.is c.put_flows.ensures

pub returns-in-Done : goal.returns-in-Done
returns-in-Done c = nothing_left _ _ c.in-Done.is
