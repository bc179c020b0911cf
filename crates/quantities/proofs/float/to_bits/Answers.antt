-- Only a NaN differs from itself. Assumes nothing.
use Rattle.std.proofs.Common.{T, sym, ap, subst}
use lib.Ieee.{binary64, to_bits}
use lib.Ieee.Compare.{differs_from_itself}
use Rattle.quantities.proofs.Nan.{equals_itself}
use Rattle.quantities.proofs.float.to_bits.Goals as goal

pub float_to_bits-result : goal.float_to_bits-result
float_to_bits-result c = equals_itself c.args.x c.if-x.false

pub returns-then-x : goal.returns-then-x
unfolding to_bits
returns-then-x c = sym (ap (to_bits binary64) (differs_from_itself c.args.x (subst T (sym c.if-x.true) tt)))
