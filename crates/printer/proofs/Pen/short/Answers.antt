-- `printer::Pen::short` meets its contract: a digit, two digits, or the hundreds and two digits.
-- Assumes nothing.
use native.Mathlib.Omega.{arith}
use Rattle.printer.proofs.Buffer.{wrote_as, wrote_row, ◌▸◌}
use Rattle.printer.proofs.Digits.{one-digit, decimal_hundreds, decimal_power}
use Rattle.printer.proofs.Pen.short.Goals as goal

pub returns-then-n-lt10 : goal.returns-then-n-lt10
returns-then-n-lt10 c = wrote_as (one-digit _ c.if-n-lt10.true) (omega arith) c.byte.ensures

pub returns-then-n-lt100 : goal.returns-then-n-lt100
returns-then-n-lt100 c = wrote_as (decimal_power 1 _ c.if-n-lt10.false c.if-n-lt100.true) (omega arith) c.two.ensures

pub returns-then-n-lt1000 : goal.returns-then-n-lt1000
returns-then-n-lt1000 c =
    wrote_row (c.byte-then-n-lt1000.ensures ▸ c.two-then-n-lt1000.ensures)
    (decimal_hundreds _ c.if-n-lt100.false (one-digit _ (omega (arith, c.if-n-lt1000.true)))) (omega arith) (omega arith)

pub returns-else-n-lt1000 : goal.returns-else-n-lt1000
returns-else-n-lt1000 c =
    wrote_row (c.two-else-n-lt1000.ensures ▸ c.two-else-n-lt1000-2.ensures)
    (decimal_hundreds _ c.if-n-lt100.false (decimal_power 1 _ (omega (arith, c.if-n-lt1000.false)) (omega arith))) (omega arith) (omega arith)
