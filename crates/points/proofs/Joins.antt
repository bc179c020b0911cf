-- The clauses leave no choice of what a run gave. Assumes nothing.
use mathlib.Core.Path.{◌≡◌, refl, sym, ap, ◌∙◌}
use mathlib.Core.Logic.{inl, inr}
use mathlib.Core.Bool.{true≢false}
use Prim.Native.Nat.{ℕ, ◌≤◌, ◌<◌}
use native.Mathlib.Nat.{le_antisymm}
use native.Mathlib.Omega.{arith}
use Rattle.remy.specs.declared.simulation.Simulation.{Simulation}
use Rattle.remy.specs.declared.simulation.Ran.{Ran}
use Rattle.remy.specs.Tick.{tick_of}
use Rattle.remy.specs.Run.{run_of}
use Rattle.remy.specs.History.{ticks, after}
use Rattle.remy.specs.Joins.{Ended, TickByTick}
use Rattle.remy.proofs.Opened.{ticking}
use Rattle.remy.proofs.Joins.{runs_join, tick_by_tick}
use Rattle.points.specs.Points.{Hold}
use Rattle.points.specs.Unfit.{busy}
use Rattle.points.specs.Joins.{joins}
use Rattle.points.proofs.Claims.{◌and◌}
use Rattle.points.proofs.Follows.{le_or_lt}

same_run : (r q : Ran) → r.done ≡ q.done → r.number ≡ q.number → r.simulation ≡ q.simulation → r ≡ q
same_run r q done number state =
    ap (λ (d : ℕ). record { done = d; number = r.number; simulation = r.simulation }) done
    ∙ ap (λ (k : ℕ). record { done = q.done; number = k; simulation = r.simulation }) number
    ∙ ap (λ (s : Simulation). record { done = q.done; number = q.number; simulation = s }) state

module _ (n : ℕ) (s : Simulation) where
  -- neither of two did more ticks than the other: else one tick moved in the other, and in this one did not
  no_more : (r q : Ran) → TickByTick n s r → TickByTick n s q → q.done ≤ r.done
  no_more r q a b = elim (le_or_lt q.done r.done) [
    | inl most ↦ most
    | inr less ↦ absurd (ends less a.ended b.ended)
  ]
    where
      ends : r.done < q.done → Ended n r → Ended n q → ⊥
      ends less (inl all) (inl every) = let x = all.0 in let y = every.0 in omega (arith, less, x, y)
      ends less (inl all) (inr some) = let x = all.0 in let y = some.0 in omega (arith, less, x, y)
      ends less (inr some) other = true≢false (sym (b.moved r.done less) ∙ ap (λ (x : Simulation). (tick_of x).moved) (sym a.state) ∙ some.1)

  no_other : (r q : Ran) → TickByTick n s r → TickByTick n s q → r ≡ q
  no_other r q a b = same_run r q done (number a.ended b.ended) state
    where
      done : r.done ≡ q.done
      done = le_antisymm (no_more q r b a) (no_more r q a b)

      state : r.simulation ≡ q.simulation
      state = a.state ∙ ap (λ (d : ℕ). after (ticks d) s) done ∙ sym b.state

      number : Ended n r → Ended n q → r.number ≡ q.number
      number (inl all) (inl every) = all.1 ∙ sym every.1
      number (inl all) (inr some) = absurd (let x = all.0 in let y = some.0 in omega (arith, done, x, y))
      number (inr some) (inl all) = absurd (let x = all.0 in let y = some.0 in omega (arith, done, x, y))
      number (inr some) (inr few) = some.2 ∙ ap (λ (x : Simulation). (tick_of x).number) state ∙ sym few.2

-- a line for each comment of the list
pub joins_holds : Hold joins
unfolding ticking busy
joins_holds =
    (λ n s r t. no_other n s r (run_of n s) t (tick_by_tick n s))
    and (λ m n s r some j.
    let k = runs_join m n s in
    let x = j.done in
    let y = k.done in
    same_run r (run_of n (run_of m s).simulation) (omega (arith, x, y)) (j.number some ∙ sym (k.number some)) (j.state ∙ sym k.state))
    and (λ m n s r j. j m s refl)
    and refl and refl
    and tt
