-- The literals are opened. Assumes nothing.
use Rattle.std.proofs.Common.{rules}
use lib.Ieee.{of_bits}
use Rattle.quantities.proofs.Comparisons.{no_later}
use Rattle.meters.specs.Meter.{ready}
use Rattle.meters.proofs.meter.AverageFlowMeter.ready.Goals as goal

pub returns-then-not-fit : goal.returns-then-not-fit
unfolding ready of_bits
returns-then-not-fit c = search rules

pub returns-in-None : goal.returns-in-None
unfolding ready of_bits
returns-in-None c = search rules

pub returns-in-Some : goal.returns-in-Some
unfolding ready of_bits
returns-in-Some c = search (rules, no_later)
