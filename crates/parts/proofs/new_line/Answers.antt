-- `Time::MIN` is the least double: its bits are opened. Assumes nothing.
use Rattle.std.proofs.Common.{rules}
use lib.Ieee.{of_bits, neg}
use Rattle.parts.proofs.new_line.Goals as goal

pub returns : goal.returns
unfolding of_bits neg
returns c = search rules
