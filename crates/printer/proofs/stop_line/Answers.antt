-- `printer::stop_line` meets its contract: with room for 128 bytes the parts are put one after the other, and never need more; without it nothing is put.
-- Assumes nothing.
use mathlib.Core.Path.{refl}
use native.Mathlib.Omega.{arith}
use Rattle.std.proofs.Common.{rules}
use Rattle.printer.specs.Printing.{stop_text}
use Rattle.printer.proofs.Buffer.{line_put, ◌▸◌, ◌▸▸◌, one}
use Rattle.printer.proofs.stop_line.Goals as goal

pub returns : goal.returns
unfolding stop_text
returns c =
    line_put c.in_ok-room.ensures.some (c.word.ensures ▸ c.number.ensures
    ▸▸ c.word-2.ensures ▸ c.hex.ensures
    ▸▸ one c.byte.ensures)
    (omega arith) refl (search rules)
