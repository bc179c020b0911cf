-- The literals are opened. Assumes nothing.
use Rattle.std.proofs.Common.{rules}
use lib.Ieee.{of_bits}
use Rattle.ranges.proofs.times_fit.Goals as goal

pub returns-then-v : goal.returns-then-v
unfolding of_bits
returns-then-v c = search rules

pub returns-then-min-max : goal.returns-then-min-max
unfolding of_bits
returns-then-min-max c = search rules
