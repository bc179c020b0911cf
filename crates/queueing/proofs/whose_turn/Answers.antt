-- The literals are opened. Assumes nothing.
use Rattle.std.proofs.Common.{rules}
use lib.Ieee.{of_bits}
use Rattle.queueing.specs.Queueing.{now_of}
use Rattle.queueing.proofs.whose_turn.Goals as goal

pub returns-then-head : goal.returns-then-head
unfolding now_of of_bits
returns-then-head c = search rules

pub returns : goal.returns
unfolding now_of of_bits
returns c = search rules
