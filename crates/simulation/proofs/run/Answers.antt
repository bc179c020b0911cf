-- The loop is the run, and demand 3 is given on; which numbers it gives, that the clock can't go back, and that it joins and is so many ticks, is said of the definition. Assumes
-- nothing.
use mathlib.Core.Path.{sym, subst}
use Rattle.remy.specs.declared.simulation.Ran.{Ran}
use Rattle.remy.specs.Run.{TickNumber}
use Rattle.remy.specs.Joins.{JoinsOn, TickByTick}
use Rattle.remy.proofs.Numbers.{run_number}
use Rattle.remy.proofs.Joins.{joins-on, tick_by_tick}
use Rattle.steady.proofs.Clock.{never_back}
use Rattle.advance.proofs.Types.{typed}
use Rattle.simulation.proofs.Cases.{run_is}
use Rattle.simulation.proofs.Reach.{run_account}
use Rattle.simulation.proofs.run.Goals as goal

pub returns : goal.returns
returns c =
    let a = c.advance-ran in
    let s = c.args.simulation in
    let n = c.args.n in
    let is = run_is n s a.result a.ensures in
    let steps = subst (TickByTick n s) (sym is) (tick_by_tick n s) in (
      is,
      run_account n s _ steps,
      subst (λ (r : Ran). TickNumber r.number) (sym is) (run_number n s),
      never_back s (typed s _ c.well_formed.0),
      steps,
      subst (JoinsOn n s) (sym is) (joins-on n s),
    )
