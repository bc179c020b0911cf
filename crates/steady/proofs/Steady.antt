-- Every tick keeps a steady state, every build gives one, and so every state that is reached from a build is fit: stop 9 is never met there. Assumes nothing.
use Rattle.std.proofs.Common.{Option, Some, None}
use mathlib.Core.Path.{◌≡◌, refl, ap, subst}
use mathlib.Core.Bool.{true}
use mathlib.Core.List.{List, [], ◌∷◌}
use Prim.Native.Nat.{ℕ}
use lib.Ieee.{lt}
use Rattle.quantities.specs.Doubles.{power}
use Rattle.remy.specs.declared.network.RemyNetwork.{RemyNetwork}
use Rattle.remy.specs.declared.simulation.Simulation.{Simulation}
use Rattle.remy.specs.declared.simulation.Built.{Built}
use Rattle.remy.specs.declared.simulation.Ticked.{Ticked}
use Rattle.remy.specs.State.{line_count, role_in, on_line_items}
use Rattle.remy.specs.Fit.{every, fit}
use Rattle.remy.specs.Build.{build_of}
use Rattle.remy.specs.Tick.{Outcome, moves, stops, outcome_of, unmoved, ticked, tick_next, tick_of}
use Rattle.remy.specs.History.{Call, tick, after, Fresh}
use Rattle.remy.proofs.Facts.{both_l, both_i, fit-state}
use Rattle.remy.proofs.Front.{clock_bounded}
use Rattle.remy.proofs.Steps.{cond_elim}
use Rattle.remy.proofs.Outcomes.{OnMoves}
use Rattle.remy.proofs.Fresh.{up_to_intro, fresh_fit}
use Rattle.steady.specs.Steady.{due_soon, soon_fit, steady}
use Rattle.steady.specs.Clock.{Typed, NeverBack}
use Rattle.steady.proofs.Open.{opened}
use Rattle.steady.proofs.Close.{closed}
use Rattle.remy.proofs.Full.{built-none}
use Rattle.steady.proofs.Turns.{LandedBy, turn_lands}
use Rattle.steady.proofs.Clock.{tick_typed, fresh_typed, built_typed, never_back}

-- what every tick keeps: the test, and what the types of code say
pub record Steady (s : Simulation) : Type 0 where
  pub test : steady s ≡ true
  pub typed : Typed s

pub steady-fit : (s : Simulation) → steady s ≡ true → fit s ≡ true
unfolding steady
steady-fit s e = both_l (fit s) (soon_fit s) e

-- ---- every tick

on-outcome : (s : Simulation) → steady s ≡ true → (o : Outcome) → OnMoves LandedBy o → steady (ticked s o).simulation ≡ true
on-outcome s e (moves r m) l = closed m l.part l.between
on-outcome s e (stops n) l = e

tick_test : (s : Simulation) → Steady s → steady (tick_of s).simulation ≡ true
unfolding tick_of
tick_test s k =
    cond_elim (λ (t : Ticked). steady t.simulation ≡ true) (fit s) (tick_next s s.head.next) (unmoved s 9) (λ e. with_next_lem s.head.next refl) (λ e. k.test)
  where
    with_next_lem : (x : Option ℕ) → s.head.next ≡ x → steady (tick_next s x).simulation ≡ true
    with_next_lem None e = k.test
    with_next_lem (Some j) e =
        cond_elim (λ (t : Ticked). steady t.simulation ≡ true) (lt (power 40) s.head.clock.0.0) (unmoved s 10) (ticked s (outcome_of s (role_in s.network j)))
        (λ late. k.test)
        (λ early. on-outcome s k.test (outcome_of s (role_in s.network j))
        (turn_lands s j (opened s j k.test k.typed.full e) (clock_bounded s (fit-state s (steady-fit s k.test)) early) k.typed.clock))

pub tick_steady : (s : Simulation) → Steady s → Steady (tick_of s).simulation
tick_steady s k = record { test = tick_test s k; typed = tick_typed s k.typed }

-- ---- every state reached from a build

-- nothing is on a line of a built simulation
built-steady : (n : RemyNetwork) (seed : ℕ) → Steady (build_of n seed).simulation
unfolding steady
built-steady n seed =
    let s = (build_of n seed).simulation in
    let none : soon_fit s ≡ true = up_to_intro (line_count s.network) (λ l. every (due_soon s l) (on_line_items s l)) (λ l h. ap (every (due_soon s l)) (built-none n seed l)) in
    record { test = both_i (fit s) (soon_fit s) (fresh_fit n seed) none; typed = built_typed n seed }

after-steady : (cs : List Call) (s : Simulation) → Steady s → Steady (after cs s)
after-steady [] s k = k
after-steady (tick ∷ cs) s k = after-steady cs (tick_of s).simulation (tick_steady s k)

pub reached_steady : (n : RemyNetwork) (s : Simulation) → Fresh n s → (cs : List Call) → Steady (after cs s)
reached_steady n s f cs = after-steady cs s (subst (λ (b : Built). Steady b.simulation) f.1 (built-steady n f.0))

-- Every state that is reached from a build is fit.
pub reached_fit : (n : RemyNetwork) (s : Simulation) → Fresh n s → (cs : List Call) → fit (after cs s) ≡ true
reached_fit n s f cs = steady-fit (after cs s) (reached_steady n s f cs).test

-- The clock of a fresh simulation can't go back, whatever calls follow.
pub fresh_never_back : (n : RemyNetwork) (s : Simulation) → Fresh n s → NeverBack s
fresh_never_back n s f = never_back s (fresh_typed n s f)
