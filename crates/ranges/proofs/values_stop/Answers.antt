-- The literals are opened. Assumes nothing.
use Rattle.std.proofs.Common.{rules}
use lib.Ieee.{of_bits}
use Rattle.ranges.specs.Frame.{values_stop}
use Rattle.ranges.proofs.values_stop.Goals as goal

pub returns : goal.returns
unfolding values_stop of_bits
returns c = search rules
