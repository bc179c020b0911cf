-- The invariant of each loop: what is counted after so many packets, beside what was counted before it. Assumes nothing.
use Prim.Native.Nat.{◌+◌, ◌*◌}
use Rattle.remy.specs.State.{no_waiting, no_transit}
use Rattle.clauses.proofs.Turns.{Counted}
use Rattle.clauses.proofs.counts.line_counts.Given as goal

abbrev pub invariant-loop-i : goal.invariant-loop-i
invariant-loop-i l =
    Counted (λ x. x.packet) no_waiting l.waiting l.l l.line.waiting.start l.line.waiting.count (1024 * l.l) l.initial.counts l.counts l.i

abbrev pub invariant-loop-j : goal.invariant-loop-j
invariant-loop-j l =
    Counted (λ x. x.packet) no_transit l.on_line l.l l.line.on_line.start l.line.on_line.count (1024 * l.l + 512) l.initial.counts l.counts l.j
