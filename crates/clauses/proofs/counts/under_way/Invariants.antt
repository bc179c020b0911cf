-- The invariant: the counts of the first l lines, and the times of their links. Assumes nothing.
use Prim.Native.Nat.{◌*◌}
use mathlib.Core.Path.{◌≡◌}
use lib.ListN.{length}
use Rattle.clauses.specs.Tests.{lines_of, Counts, link_time, LinkTimes}
use Rattle.clauses.proofs.counts.under_way.Given as goal

abbrev pub invariant-loop-l : goal.invariant-loop-l
invariant-loop-l l =
    Counts (1024 * l.l) (lines_of l.waiting l.on_line l.lines l.l) l.counts × (length l.links ≡ 2) × LinkTimes (link_time l.lines l.on_line l.clock) l.l l.links
