-- The literals are opened. Assumes nothing.
use Rattle.std.proofs.Common.{rules}
use lib.Ieee.{of_bits}
use Rattle.ranges.proofs.policy_fit.Goals as goal

pub returns-then-window_fit-3 : goal.returns-then-window_fit-3
unfolding of_bits
returns-then-window_fit-3 c = search rules
