-- The invariant of each loop: the test of the transits from the i-th on is the test of all, and the due times from the one before the j-th on fall exactly if some
-- fall. Assumes nothing.
use Prim.Native.Nat.{◌-◌}
use mathlib.Core.Path.{◌≡◌}
use Rattle.link.specs.Ring.{items_from}
use Rattle.remy.specs.State.{no_transit}
use Rattle.remy.specs.Fit.{every, rising}
use Rattle.clauses.specs.Tests.{transit_test}
use Rattle.clauses.proofs.Turns.{rest}
use Rattle.clauses.proofs.packets.on_line_fit.Given as goal

abbrev pub invariant-loop-i : goal.invariant-loop-i
invariant-loop-i l =
    every (transit_test l.senders l.n l.clock) (rest no_transit l.on_line l.l l.ring.start l.ring.count l.i) ≡ every (transit_test l.senders l.n l.clock) (items_from no_transit l.on_line l.l l.ring.start l.ring.count)

abbrev pub invariant-loop-j : goal.invariant-loop-j
invariant-loop-j l =
    rising (rest no_transit l.on_line l.l l.ring.start l.ring.count (l.j - 1)) ≡ rising (items_from no_transit l.on_line l.l l.ring.start l.ring.count)
