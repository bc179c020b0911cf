-- After i digits the number is below 16 to the power i. Assumes nothing.
use native.Mathlib.Omega.{arith}
use Rattle.script.proofs.Digits.{digit_fits}
use Rattle.script.proofs.Line.number.Goals as goal

pub overflow_mul-n : goal.overflow_mul-n
overflow_mul-n c = record { fits = omega (arith, digit_fits c.loop-i.n 0 c.loop-i.i c.loop-i.invariant.2 (omega arith) (omega arith)) }

pub overflow_add-n : goal.overflow_add-n
overflow_add-n c = record { fits = digit_fits _ _ _ c.loop-i.invariant.2 c.digit.ensures.1 (omega arith) }
