-- `description::lines::bits_line` meets its contract. The invariant: values were passed, those kept are the first of them, and what is read from here on is read after them. The measure is what is left of the text. Where no value with a comma follows, the last one is read.
-- Assumes nothing.
use Prim.Native.Nat.{◌-◌}
use lib.ListN.{length}
use Rattle.description.proofs.Sizes.{Passed}
use Rattle.description.proofs.lines.bits_line.Given as goal

abbrev pub invariant-loop-v : goal.invariant-loop-v
invariant-loop-v l = Passed l.text l.from l.sizes l.last

abbrev pub decreases-loop-v : goal.decreases-loop-v
decreases-loop-v l = length l.text - l.last
