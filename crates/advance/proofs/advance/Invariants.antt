-- The loop keeps: the ticks left from here give what all n give from the start; what the types of code say; a steady state where it began with one; and the senders' packet bits. Each arm's turn is a law of Loop; what is known at a point of the code is shown once, for all that need it. Assumes nothing.
use mathlib.Core.Path.{◌≡◌}
use mathlib.Core.Bool.{cond}
use Prim.Native.Nat.{◌*◌, ◌-◌, ◌≤◌}
use lib.ListN.{length, drop, replicate}
use Rattle.toggler.specs.Queue.{queue_places, pick_from, pick_of}
use Rattle.remy.specs.Run.{batch, no_noted}
use Rattle.advance.specs.Advance.{advance_of}
use Rattle.advance.proofs.Ticks.{parts_of, Kept}
use Rattle.advance.proofs.advance.Given as goal

abbrev pub invariant-loop-k : goal.invariant-loop-k
invariant-loop-k l =
    (l.parts ≤ queue_places) × (length l.st.queue ≡ queue_places) × (pick_from (drop l.k l.st.queue) l.k l.best ≡ pick_of l.st.queue)

abbrev pub invariant-loop-done : goal.invariant-loop-done
invariant-loop-done l =
    (l.done ≤ l.n)
    × Kept l.ripe (advance_of l.n 0 (replicate batch no_noted) l.initial.st) l.steady l.n l.parts l.done l.records l.note l.st
    × (l.sizes ≡ l.st.network.bits)
    × (l.parts ≡ parts_of l.st.network)

abbrev pub decreases-loop-done : goal.decreases-loop-done
decreases-loop-done l = 2 * (l.n - l.done) - cond l.ripe 1 0
