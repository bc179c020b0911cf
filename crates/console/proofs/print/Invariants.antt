-- The loop keeps what `Kept` says, of the turns that are left.
use Rattle.std.proofs.Common.{◌-◌}
use Rattle.console.proofs.Turns.{Kept}
use Rattle.console.proofs.print.Given as goal

abbrev pub invariant-loop : goal.invariant-loop
invariant-loop l = Kept l.fn.report l.left l.tally.0 (65553 - l.counter)
