-- `printer::record_line` meets its contract: with room for 128 bytes the parts are put one after the other, and never need more; without it nothing is put.
-- Assumes nothing.
use mathlib.Core.Path.{refl}
use native.Mathlib.Omega.{arith}
use Rattle.std.proofs.Common.{rules}
use Rattle.printer.specs.Printing.{record_text}
use Rattle.printer.proofs.Buffer.{line_put, ◌▸◌, ◌▸▸◌, one}
use Rattle.printer.proofs.record_line.Goals as goal

pub returns : goal.returns
unfolding record_text
returns c =
    line_put c.in_ok-room.ensures.some
    (c.word.ensures ▸ c.hex.ensures
    ▸▸ c.word-2.ensures ▸ c.number.ensures
    ▸▸ c.word-3.ensures ▸ c.byte.ensures
    ▸▸ c.word-4.ensures ▸ c.packet.ensures
    ▸▸ c.word-5.ensures ▸ c.packet-2.ensures
    ▸▸ one c.byte-2.ensures)
    (omega arith) refl (search rules)
