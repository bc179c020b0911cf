-- The literals are opened. Assumes nothing.
use Rattle.std.proofs.Common.{rules}
use lib.Ieee.{of_bits}
use Rattle.ranges.specs.Frame.{clock_held}
use Rattle.ranges.proofs.frame.clock_held.Goals as goal

pub returns-then-is_none : goal.returns-then-is_none
unfolding clock_held of_bits
returns-then-is_none c = search rules
