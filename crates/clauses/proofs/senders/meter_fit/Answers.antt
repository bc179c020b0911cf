-- The literals are opened. Assumes nothing.
use Rattle.std.proofs.Common.{rules}
use lib.Ieee.{of_bits}
use Rattle.clauses.specs.Tests.{meter_test}
use Rattle.clauses.proofs.senders.meter_fit.Goals as goal

pub returns-then-in_range-2 : goal.returns-then-in_range-2
unfolding meter_test of_bits
returns-then-in_range-2 c = search rules

pub returns-else-in_range-2 : goal.returns-else-in_range-2
unfolding meter_test of_bits
returns-else-in_range-2 c = search rules
