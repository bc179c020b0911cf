-- `printer::Pen::two` meets its contract: a digit, then a digit.
-- Assumes nothing.
use native.Mathlib.Omega.{arith}
use Rattle.printer.proofs.Buffer.{wrote_row, ◌▸◌}
use Rattle.printer.proofs.Digits.{two_digits}
use Rattle.printer.proofs.Pen.two.Goals as goal

pub returns : goal.returns
returns c = wrote_row (c.byte.ensures ▸ c.byte-2.ensures) (two_digits _ c.requires.0) (omega arith) c.requires.1
