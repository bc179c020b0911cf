-- The literals are opened. Assumes nothing.
use Rattle.std.proofs.Common.{rules}
use lib.Ieee.{of_bits}
use Rattle.meters.specs.Meter.{start_fit}
use Rattle.meters.proofs.meter.start_fit.Goals as goal

pub returns-in-Some : goal.returns-in-Some
unfolding start_fit of_bits
returns-in-Some c = search rules
