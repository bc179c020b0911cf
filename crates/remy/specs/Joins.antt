-- Document 02, K11: runs join; a run of 1 is a tick; a run of n is n ticks until one does not move. Definitions only.
use Rattle.std.specs.Prelude.{ℕ, ◌+◌, ◌≤◌, ◌<◌, ◌≡◌, ◌⊎◌, true, false, cond}
use Rattle.remy.specs.declared.simulation.Simulation.{Simulation}
use Rattle.remy.specs.declared.simulation.Ticked.{Ticked}
use Rattle.remy.specs.declared.simulation.Ran.{Ran}
use Rattle.remy.specs.Tick.{tick_of}
use Rattle.remy.specs.Run.{run_of}
use Rattle.remy.specs.History.{ticks, after}

-- m ticks of s and then n, which gave r, equal m + n ticks of s
pub record Joined (m n : ℕ) (s : Simulation) (r : Ran) : Type 0 where
  -- in state
  pub state : r.simulation ≡ (run_of (m + n) s).simulation
  -- and in ticks done;
  pub done : (run_of m s).done + r.done ≡ (run_of (m + n) s).done
  -- the last numbers agree too when n is at least 1.
  pub number : 1 ≤ n → r.number ≡ (run_of (m + n) s).number

-- Every state, idle ones and runs that stop included. Document 02 asks for it where m + n fits 32 bits; it holds of all m and n.
abbrev pub RunsJoin : Type 0
RunsJoin = (m n : ℕ) (s : Simulation) → Joined m n s (run_of n (run_of m s).simulation)

-- For a caller, of what n ticks of s gave: wherever s is what m ticks of another state gave.
abbrev pub JoinsOn : ℕ → Simulation → Ran → Type 0
JoinsOn n s r = (m : ℕ) (before : Simulation) → s ≡ (run_of m before).simulation → Joined m n before r

-- what a tick gave, as a run gives it
abbrev pub as_run : Ticked → Ran
as_run t = record { done = cond t.moved 1 0; number = t.number; simulation = t.simulation }

-- A run of 1 is a tick.
abbrev pub OneTick : Type 0
OneTick = (s : Simulation) → run_of 1 s ≡ as_run (tick_of s)

-- n ticks ended: all were done, and the number is 0; or the next does not move, and the number is its own.
abbrev pub Ended : ℕ → Ran → Type 0
Ended n r = ((r.done ≡ n) × (r.number ≡ 0)) ⊎ ((r.done < n) × ((tick_of r.simulation).moved ≡ false) × (r.number ≡ (tick_of r.simulation).number))

-- r is n ticks of s until one does not move.
pub record TickByTick (n : ℕ) (s : Simulation) (r : Ran) : Type 0 where
  -- those done moved, each given the state that the one before it returned
  pub moved : (k : ℕ) → k < r.done → (tick_of (after (ticks k) s)).moved ≡ true
  -- r's state is the one after them
  pub state : r.simulation ≡ after (ticks r.done) s
  pub ended : Ended n r
