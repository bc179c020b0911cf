-- The invariant of `builder::queue::queue_all`: the places filled so far, and the times of the parts that are left, are the times of all parts. Assumes nothing.
use Prim.Native.Nat.{◌-◌}
use mathlib.Core.Path.{◌≡◌}
use mathlib.Core.List.{◌++◌}
use lib.ListN.{length, take}
use Rattle.toggler.specs.Queue.{queue_places}
use Rattle.remy.specs.Build.{own_times}
use Rattle.builder.proofs.queue.queue_all.Given as goal

abbrev pub invariant-loop-k : goal.invariant-loop-k
invariant-loop-k l = (length l.queue ≡ queue_places) × (take l.k l.queue ++ own_times l.simulation (queue_places - l.k) l.k ≡ own_times l.simulation queue_places 0)
