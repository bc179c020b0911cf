-- `printer::Pen::number` meets its contract: at most four digits; the hundreds of the hundreds, then two digits twice; or as many digits as its highest power of ten tells.
-- Assumes nothing.
use mathlib.Core.Path.{refl, ap, ◌∙◌}
use native.Mathlib.Numerals.{add-one}
use native.Mathlib.Omega.{arith}
use Prim.Native.Nat.{ℕ}
use Rattle.notation.specs.Notation.{digits_of}
use Rattle.printer.proofs.Buffer.{wrote_as, wrote_row, ◌▸◌, ◌▸▸◌, one}
use Rattle.printer.proofs.Digits.{decimal_hundreds, decimal_power}
use Rattle.printer.proofs.Pen.number.Goals as goal

pub returns-then-n-lt100000000 : goal.returns-then-n-lt100000000
returns-then-n-lt100000000 c =
    let more = c.if-n-lt10000.false in
    wrote_row (c.short-then-n-lt100000000.ensures ▸ c.two.ensures ▸▸ one c.two-then-n-lt100000000.ensures)
    (decimal_hundreds _ (omega (arith, more)) (decimal_hundreds _ (omega (arith, more)) refl)) (omega arith) (omega arith)

pub returns-else-n-lt100000000 : goal.returns-else-n-lt100000000
returns-else-n-lt100000000 c =
    let power = c.ilog10.ensures in
    wrote_as (ap (λ (k : ℕ). digits_of 10 k c.args.n) (add-one c.ilog10.result) ∙ decimal_power _ _ power.power_le power.next_power_gt) (omega (arith, power.bound)) c.digits.ensures
