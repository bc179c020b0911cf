-- Runs join, a run of 1 is a tick, and a run of n is n ticks until one does not move. Assumes nothing.
use mathlib.Core.Path.{◌≡◌, refl, sym, subst, ◌∙◌}
use mathlib.Core.Logic.{inl, inr}
use mathlib.Core.Bool.{Bool, true, false, cond}
use Prim.Native.Nat.{ℕ, zero, suc, ◌+◌, ◌<◌}
use native.Mathlib.Nat.{add-zero, zero-add}
use native.Mathlib.Omega.{arith}
use Rattle.remy.specs.declared.simulation.Simulation.{Simulation}
use Rattle.remy.specs.declared.simulation.Ticked.{Ticked}
use Rattle.remy.specs.declared.simulation.Ran.{Ran}
use Rattle.remy.specs.Tick.{tick_of}
use Rattle.remy.specs.Run.{one_more, run_of}
use Rattle.remy.specs.History.{ticks, after}
use Rattle.remy.specs.Joins.{Joined, RunsJoin, JoinsOn, as_run, OneTick, Ended, TickByTick}
use Rattle.remy.proofs.Account.{unmoved-same, moved_zero}

-- ---- a run by its first tick

goes : (n : ℕ) (s : Simulation) → (tick_of s).moved ≡ true → run_of (suc n) s ≡ one_more (run_of n (tick_of s).simulation)
unfolding run_of
goes n s e = rw e

-- it does not move: each run is that of 1, and leaves the state as it was
pub rests : (n : ℕ) (s : Simulation) → (tick_of s).moved ≡ false → run_of (suc n) s ≡ run_of 1 s
unfolding run_of
rests n s e = rw e

pub rests_same : (s : Simulation) → (tick_of s).moved ≡ false → (run_of 1 s).simulation ≡ s
unfolding run_of
rests_same s e = rw e (unmoved-same s e)

-- ---- runs join

pub runs_join : RunsJoin
unfolding run_of
runs_join zero n s = record { state = rw (zero-add n); done = rw (zero-add n) (zero-add (run_of n s).done); number = λ some. rw (zero-add n) }
runs_join (suc m) n s = by (tick_of s).moved refl (runs_join m n (tick_of s).simulation)
  where
    later : (k : ℕ) → suc m + k ≡ suc (m + k)
    later k = omega arith

    -- none of the ticks moves
    still : (tick_of s).moved ≡ false → (k : ℕ) → Joined (suc m) k s (run_of k s)
    still e zero =
        record {
          state = rw (later 0, rests (m + 0) s e) (sym (rests_same s e));
          done = rw (later 0, rests m s e, rests (m + 0) s e) (add-zero (run_of 1 s).done);
          number = λ some. absurd (omega (arith, some));
        }
    still e (suc k) =
        let none : (run_of 1 s).done ≡ 0 = rw e in
        record {
          state = rw (later (suc k), rests k s e, rests (m + suc k) s e);
          done = rw (later (suc k), rests m s e, rests k s e, rests (m + suc k) s e) (omega (arith, none));
          number = λ some. rw (later (suc k), rests k s e, rests (m + suc k) s e);
        }

    by : (b : Bool) → (tick_of s).moved ≡ b → Joined m n (tick_of s).simulation (run_of n (run_of m (tick_of s).simulation).simulation) → Joined (suc m) n s (run_of n (run_of (suc m) s).simulation)
    by true e next =
        let begun = goes m s e in
        let whole = goes (m + n) s e in
        let done = next.done in
        record {
          state = rw (later n, begun, whole) next.state;
          done = rw (later n, begun, whole) (omega (arith, done));
          number = λ some. rw (later n, begun, whole) (next.number some);
        }
    by false e next = subst (λ (x : Simulation). Joined (suc m) n s (run_of n x)) (sym (rw (rests m s e) (rests_same s e))) (still e n)

pub joins-on : (n : ℕ) (s : Simulation) → JoinsOn n s (run_of n s)
joins-on n s m before e = subst (λ (x : Simulation). Joined m n before (run_of n x)) (sym e) (runs_join m n before)

-- ---- a run of 1

pub one-run : OneTick
unfolding run_of
one-run s = by (tick_of s) (moved_zero s) (tick_of s).moved refl
  where
    by : (t : Ticked) → (t.moved ≡ true → t.number ≡ 0) → (b : Bool) → t.moved ≡ b
        → cond t.moved (record { done = 1; number = 0; simulation = t.simulation }) (record { done = 0; number = t.number; simulation = t.simulation }) ≡ as_run t
    by t z true e = rw (e, z e)
    by t z false e = rw e

-- ---- a run of n

pub tick_by_tick : (n : ℕ) (s : Simulation) → TickByTick n s (run_of n s)
unfolding run_of
tick_by_tick zero s = record { moved = λ k below. absurd (omega (arith, below)); state = refl; ended = inl (refl, refl) }
tick_by_tick (suc n) s = by (tick_of s).moved refl (tick_by_tick n (tick_of s).simulation)
  where
    first : (tick_of s).moved ≡ true → (r : Ran) → TickByTick n (tick_of s).simulation r → TickByTick (suc n) s (one_more r)
    first e r rest = record { moved = each; state = let more : r.done + 1 ≡ suc r.done = omega arith in rw more rest.state; ended = ends rest.ended }
      where
        each : (k : ℕ) → k < r.done + 1 → (tick_of (after (ticks k) s)).moved ≡ true
        each zero below = e
        each (suc k) below = rest.moved k (omega (arith, below))

        ends : Ended n r → Ended (suc n) (one_more r)
        ends (inl all) = let done = all.0 in inl (omega (arith, done), all.1)
        ends (inr some) = let done = some.0 in inr (omega (arith, done), some.1, some.2)

    by : (b : Bool) → (tick_of s).moved ≡ b → TickByTick n (tick_of s).simulation (run_of n (tick_of s).simulation) → TickByTick (suc n) s (run_of (suc n) s)
    by true e rest = subst (TickByTick (suc n) s) (sym (goes n s e)) (first e (run_of n (tick_of s).simulation) rest)
    by false e rest =
        let only : run_of 1 s ≡ record { done = 0; number = (tick_of s).number; simulation = s } = rw (e, unmoved-same s e) in
        subst (TickByTick (suc n) s) (sym (rests n s e ∙ only)) (record { moved = λ k below. absurd (omega (arith, below)); state = refl; ended = inr (omega arith, e, refl) })
