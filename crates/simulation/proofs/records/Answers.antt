-- The loop is the run with its records where no place is used over again, and demand 3 is given on; which numbers it gives, that the clock can't go back, and that it joins and is so many ticks,
-- is said of the run. Assumes nothing.
use mathlib.Core.Path.{◌≡◌, sym, ap, subst, ◌∙◌}
use Prim.Native.Nat.{ℕ, min}
use native.Mathlib.Omega.{arith}
use Rattle.remy.specs.declared.simulation.Ran.{Ran}
use Rattle.remy.specs.Run.{TickNumber, batch_of, ran_of}
use Rattle.remy.specs.Joins.{JoinsOn, TickByTick}
use Rattle.remy.proofs.Numbers.{run_number}
use Rattle.remy.proofs.Joins.{joins-on, tick_by_tick}
use Rattle.steady.proofs.Clock.{never_back}
use Rattle.advance.proofs.Types.{typed}
use Rattle.remy.proofs.Records.{records_ran}
use Rattle.simulation.proofs.Cases.{records_is}
use Rattle.simulation.proofs.Reach.{records_account}
use Rattle.simulation.proofs.records.Goals as goal

least : (n : ℕ) → min n 256 ≡ batch_of n
least n = grind arith

pub returns : goal.returns
returns c =
    let a = c.advance in
    let most = c.min-most in
    let s = c.args.simulation in
    let n = c.args.n in
    let b = batch_of n in
    let is = records_is n most.result s a.result (most.ensures ∙ least n) a.ensures in
    let ran = ap ran_of is ∙ records_ran n s in
    let steps = subst (TickByTick b s) (sym ran) (tick_by_tick b s) in (
      is,
      records_account n s _ is steps,
      subst (λ (r : Ran). TickNumber r.number) (sym ran) (run_number b s),
      never_back s (typed s _ c.well_formed.0),
      steps,
      subst (JoinsOn b s) (sym ran) (joins-on b s),
    )
