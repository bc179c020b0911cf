-- `printer::Pen::digits` meets its contract. The table in the code is the one that `digit_at` computes.
-- Assumes nothing.
use Prim.Native.Nat.{ℕ, ◌%◌, ◌<◌, ◌≤◌}
use mathlib.Core.Path.{refl, ◌∙◌}
use native.Mathlib.Nat.{mod-lt, lt_of_lt_of_le}
use native.Mathlib.Omega.{arith}
use lib.ListN.{length-set}
use Rattle.notation.specs.Notation.{digit_byte}
use Rattle.notation.proofs.Written.{digits_length}
use Rattle.printer.proofs.Buffer.{lower_none, lower_more, lower_all}
use Rattle.printer.proofs.Digits.{digit_at}
use Rattle.printer.proofs.Pen.digits.Goals as goal

pub loop-i-init : goal.loop-i-init
loop-i-init c = record { lower = lower_none _ _ _ _ _; at = refl; long = refl; same = refl }

-- a digit is below 16
low : (rest base : ℕ) → 0 < base → base ≤ 16 → rest % base < 16
low rest base h l = lt_of_lt_of_le (mod-lt rest h) l

pub loop-i-preserved : goal.loop-i-preserved
unfolding digit_byte
loop-i-preserved c =
    let v = c.loop-i.invariant in
    record {
      lower = rw v.at (lower_more v.lower c.loop-i-test.true (omega (arith, v.lower.within)) _ (digit_at _ (low _ _ c.requires.0 c.requires.1)));
      at = v.at;
      long = length-set _ _ _ ∙ v.long;
      same = v.same;
    }

pub returns : goal.returns
returns c =
    let a = c.args in
    let v = c.loop-i.invariant in
    let e = digits_length a.base a.k a.n in
    record {
      wrote = record { small = omega (arith, e); place = omega (arith, e); bytes = lower_all v.lower c.loop-i-test.false };
      long = v.long;
      same = v.same;
    }
