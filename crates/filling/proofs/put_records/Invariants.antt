-- The invariant: what is so from here is so from the start. The measure is what is left of the ticks. Assumes nothing.
use mathlib.Core.Path.{◌≡◌}
use lib.ListN.{length}
use Rattle.lines.specs.Lines.{record_lines}
use Rattle.report.specs.declared.run.Stage.TheVariants as Stage
use Rattle.filling.specs.Filling.{rest_at, filled_by}
use Rattle.filling.proofs.Putting.{From}
use Rattle.filling.proofs.put_records.Given as goal

abbrev pub invariant-loop-left : goal.invariant-loop-left
invariant-loop-left l =
    From (filled_by (rest_at l.initial.st (Stage.Ticks l.n))) (record_lines l.n l.initial.st) l.initial.out l.at (filled_by (rest_at l.st (Stage.Ticks l.left))) (record_lines l.left l.st) l.out l.next
    × (length l.out ≡ length l.initial.out)

abbrev pub decreases-loop-left : goal.decreases-loop-left
decreases-loop-left l = l.left
