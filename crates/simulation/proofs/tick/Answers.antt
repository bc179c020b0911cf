-- The loop at 1 is the tick, and demand 3 is given on; which numbers it gives, that the clock can't go back, and that it is a run of 1 and joins, is said of the definition.
-- Assumes nothing.
use mathlib.Core.Path.{sym, ap, subst, ◌∙◌}
use Rattle.remy.specs.declared.simulation.Ticked.{Ticked}
use Rattle.remy.specs.Run.{TickNumber}
use Rattle.remy.specs.Joins.{JoinsOn, as_run}
use Rattle.remy.proofs.Numbers.{tick_number}
use Rattle.remy.proofs.Joins.{joins-on, one-run}
use Rattle.steady.proofs.Clock.{never_back}
use Rattle.advance.proofs.Types.{typed}
use Rattle.simulation.proofs.Cases.{one-tick}
use Rattle.simulation.proofs.Reach.{tick_account}
use Rattle.simulation.proofs.tick.Goals as goal

pub returns : goal.returns
returns c =
    let a = c.advance-one in
    let s = c.args.simulation in
    let is = one-tick _ s a.result a.ensures in
    let ran = one-run s ∙ ap as_run (sym is) in (
      is,
      tick_account s _ is,
      subst (λ (t : Ticked). TickNumber t.number) (sym is) (tick_number s),
      never_back s (typed s _ c.well_formed.0),
      ran,
      subst (JoinsOn 1 s) ran (joins-on 1 s),
    )
