-- Document 02, K11: what is said of a run, and of a joined one, leaves no other; and the last numbers can differ where n is 0. As one list of claims.
use Rattle.std.specs.Prelude.{◌≡◌, List, [], ◌∷◌, ℕ, ◌≤◌}
use Rattle.remy.specs.declared.simulation.Simulation.{Simulation}
use Rattle.remy.specs.declared.simulation.Ran.{Ran}
use Rattle.remy.specs.Run.{run_of}
use Rattle.remy.specs.Joins.{Joined, JoinsOn, TickByTick}
use Rattle.points.specs.Unfit.{busy, with_waiting_bits}

abbrev pub joins : List (Type 0)
joins =
    -- nothing but a run of n is n ticks until one does not move
    ((n : ℕ) (s : Simulation) (r : Ran) → TickByTick n s r → r ≡ run_of n s)
    -- after m ticks nothing but a run of n joins, where n is at least 1
    ∷ ((m n : ℕ) (s : Simulation) (r : Ran) → 1 ≤ n → Joined m n s r → r ≡ run_of n (run_of m s).simulation)
    -- a caller has it after any number of ticks of any state
    ∷ ((m n : ℕ) (s : Simulation) (r : Ran) → JoinsOn n (run_of m s).simulation r → Joined m n s r)
    -- where n is 0: a run of an unfit state, which has 9 bits tallied where 8 wait, and 0 ticks more
    ∷ ((run_of 1 (with_waiting_bits busy 0 9)).number ≡ 9)
    ∷ ((run_of 0 (run_of 1 (with_waiting_bits busy 0 9)).simulation).number ≡ 0)
    ∷ []
