-- The invariant: the test of the transits from the i-th on is the test of all. Assumes nothing.
use mathlib.Core.Path.{◌≡◌}
use lib.Ieee.{le}
use Rattle.link.specs.Ring.{items_from}
use Rattle.remy.specs.State.{no_transit}
use Rattle.remy.specs.Fit.{every}
use Rattle.clauses.proofs.Turns.{rest}
use Rattle.clauses.proofs.packets.due_soon.Given as goal

abbrev pub invariant-loop-i : goal.invariant-loop-i
invariant-loop-i l =
    every (λ x. le x.due.0.0 l.latest.0.0) (rest no_transit l.on_line l.l l.ring.start l.ring.count l.i) ≡ every (λ x. le x.due.0.0 l.latest.0.0) (items_from no_transit l.on_line l.l l.ring.start l.ring.count)
