-- `printer::Pen::packet` meets its contract: the dash, or two decimals with a colon between.
-- Assumes nothing.
use mathlib.Core.Path.{refl}
use native.Mathlib.Omega.{arith}
use Rattle.printer.proofs.Buffer.{wrote_row, wrote_short, ◌▸◌, ◌▸▸◌, one}
use Rattle.printer.proofs.Pen.packet.Goals as goal

-- a sender and a sequence have at most 10 digits
pub number-requires-in-Some : goal.number-requires-in-Some
number-requires-in-Some c =
    let short = wrote_short c.in-Some.sender (omega arith) c.number.ensures in
    omega (arith, short.wrote.small)

pub returns-in-Some : goal.returns-in-Some
returns-in-Some c =
    rw c.in-Some.is
    (wrote_row (one (wrote_short c.in-Some.sender (omega arith) c.number.ensures) ▸▸ c.byte-in-Some.ensures ▸ (wrote_short c.in-Some.sequence (omega arith) c.number-in-Some.ensures))
    refl (omega arith) (omega arith))
