-- An output divided by 4,096 is below 2 ^ 52, so it is exact as a double. Assumes nothing.
use Rattle.std.proofs.Common.{◌/◌, ◌^◌, refl, arith, le→leb}
use lib.Ieee.{in_float, of_bits}
use Rattle.draws.specs.Draws.{sample_of}
use Rattle.draws.proofs.distribution.sample.Goals as goal

pub int_to_float-result : goal.int_to_float-result
unfolding in_float
int_to_float-result c = le→leb (c.args.output / 4096) (2 ^ 53) (omega arith)

pub returns : goal.returns
unfolding sample_of of_bits
returns c = refl
