-- The invariant: the test of the packets from the i-th on is the test of all, and the sum is that of the bits so far. Assumes nothing.
use mathlib.Core.Path.{◌≡◌}
use Rattle.link.specs.Ring.{items_from}
use Rattle.remy.specs.State.{no_waiting}
use Rattle.remy.specs.Fit.{every}
use Rattle.clauses.specs.Tests.{waits_test}
use Rattle.clauses.proofs.Turns.{rest, Summed}
use Rattle.clauses.proofs.packets.waiting_fit.Given as goal

abbrev pub invariant-loop-i : goal.invariant-loop-i
invariant-loop-i l =
    (every (waits_test l.senders l.sizes l.n l.clock) (rest no_waiting l.waiting l.l l.ring.start l.ring.count l.i) ≡ every (waits_test l.senders l.sizes l.n l.clock) (items_from no_waiting l.waiting l.l l.ring.start l.ring.count))
    × Summed no_waiting l.waiting l.l l.ring.start l.ring.count l.sum l.i
