-- The literals are opened. Assumes nothing.
use Rattle.std.proofs.Common.{rules}
use lib.Ieee.{of_bits}
use Rattle.queueing.proofs.head_of.Goals as goal

pub returns : goal.returns
unfolding of_bits
returns c = search rules
