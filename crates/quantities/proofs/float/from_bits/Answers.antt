-- The test on the bits tells the patterns of a NaN. Assumes nothing.
use Rattle.std.proofs.Common.{arith}
use lib.Ieee.{of_bits, div}
use Rattle.quantities.proofs.Nan.{nan_above, not_above}
use Rattle.quantities.proofs.float.from_bits.Goals as goal

pub float_from_bits-result : goal.float_from_bits-result
float_from_bits-result c = not_above c.args.bits (omega arith)

pub returns-then-bits-gt9218868437227405312 : goal.returns-then-bits-gt9218868437227405312
unfolding div of_bits
returns-then-bits-gt9218868437227405312 c = nan_above c.args.bits (omega arith)
