-- The literals are opened. Assumes nothing.
use Rattle.std.proofs.Common.{rules}
use lib.Ieee.{of_bits}
use Rattle.meters.specs.Meter.{meter_fit}
use Rattle.meters.proofs.meter.AverageFlowMeter.fit.Goals as goal

pub returns-then-in_range : goal.returns-then-in_range
unfolding meter_fit of_bits
returns-then-in_range c = search rules

pub returns-else-in_range : goal.returns-else-in_range
unfolding meter_fit of_bits
returns-else-in_range c = search rules
