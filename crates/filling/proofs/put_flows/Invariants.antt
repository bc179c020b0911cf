-- The invariant: what is so from here is so from the start. Assumes nothing.
use mathlib.Core.Path.{◌≡◌}
use lib.ListN.{length}
use Rattle.lines.specs.Lines.{flows_from}
use Rattle.report.specs.declared.run.Stage.TheVariants as Stage
use Rattle.filling.specs.Filling.{rest_at, filled_by}
use Rattle.filling.proofs.Putting.{From}
use Rattle.filling.proofs.put_flows.Given as goal

abbrev pub invariant-loop-i : goal.invariant-loop-i
invariant-loop-i l =
    From (filled_by (rest_at l.simulation (Stage.Flows l.first))) (flows_from l.simulation l.first) l.initial.out l.at (filled_by (rest_at l.simulation (Stage.Flows l.i))) (flows_from l.simulation l.i) l.out l.next
    × (length l.out ≡ length l.initial.out)
