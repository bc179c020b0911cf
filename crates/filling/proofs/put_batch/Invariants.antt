-- The invariant: what is so from here is so from the start. Assumes nothing.
use Prim.Native.Nat.{◌≤◌}
use mathlib.Core.List.{map}
use mathlib.Core.Path.{◌≡◌}
use lib.ListN.{length, take, drop}
use Rattle.filling.specs.Filling.{Puts, batch_by, noted_line}
use Rattle.filling.proofs.Putting.{further, From}
use Rattle.filling.proofs.put_batch.Given as goal

abbrev pub invariant-loop-i : goal.invariant-loop-i
invariant-loop-i l =
    From batch_by (map noted_line (take l.done l.records)) l.initial.out l.at (λ (p : Puts). batch_by (further l.i p)) (map noted_line (drop l.i (take l.done l.records))) l.out l.next
    × (l.i ≤ l.done)
    × (length l.out ≡ length l.initial.out)
