-- The literal is 2^60, and each arm rewrites by its test and its case. Assumes nothing.
use Rattle.std.proofs.Common.{◌≡◌, false}
use lib.Ieee.{of_bits}
use Rattle.quantities.specs.Doubles.{zero_f, power, in_range}
use Rattle.quantities.proofs.Tested.{passed, failed}
use Rattle.flows.specs.Average.{member_fit}
use Rattle.flows.proofs.sums.member_fit.Goals as goal

pub returns-then-not-in_range : goal.returns-then-not-in_range
unfolding member_fit of_bits
returns-then-not-in_range c =
    let out : in_range zero_f (power 60) c.args.f.throughput.0 ≡ false = failed c.in_range.ensures c.if-not-in_range.true in
    rw out

pub returns-in-Ok : goal.returns-in-Ok
unfolding member_fit of_bits
returns-in-Ok c =
    rw (
      passed c.in_range.ensures c.if-not-in_range.false,
      c.in-Ok.is,
      ← c.in_range-in-Ok.ensures,
    )

pub returns-in-Err : goal.returns-in-Err
unfolding member_fit of_bits
returns-in-Err c =
    rw (
      passed c.in_range.ensures c.if-not-in_range.false,
      c.in-Err.is,
    )
