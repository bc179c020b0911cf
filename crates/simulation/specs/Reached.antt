-- Demand 3 as a caller of tick, run and records has it: for a state that calls cs reached from a fresh simulation s₀ of the network n. Definitions only.
use Rattle.std.specs.Prelude.{◌≡◌, List, [], ◌++◌, map, take}
use Rattle.remy.specs.declared.network.RemyNetwork.{RemyNetwork}
use Rattle.remy.specs.declared.simulation.Simulation.{Simulation}
use Rattle.remy.specs.declared.simulation.Ticked.{Ticked}
use Rattle.remy.specs.declared.simulation.Ran.{Ran}
use Rattle.remy.specs.declared.simulation.Recorded.{Recorded}
use Rattle.remy.specs.History.{Call, ticks, after, history, noted, Fresh}
use Rattle.remy.specs.Account.{Account}

-- the account after this tick: of the history so far with this tick's record, and of the state that it returned
abbrev pub TickAccount : Simulation → Ticked → Type 0
TickAccount s r = (n : RemyNetwork) (s₀ : Simulation) → Fresh n s₀ → (cs : List Call) → s ≡ after cs s₀ → Account n (history cs s₀ ++ noted r []) r.simulation

-- the account after this run: of the history with the ticks that were done, and of the state that it returned
abbrev pub RunAccount : Simulation → Ran → Type 0
RunAccount s r = (n : RemyNetwork) (s₀ : Simulation) → Fresh n s₀ → (cs : List Call) → s ≡ after cs s₀ → Account n (history (cs ++ ticks r.done) s₀) r.simulation

-- the account after this run with records: of the history so far with the records of the ticks that were done, and of the state that it returned
abbrev pub RecordsAccount : Simulation → Recorded → Type 0
RecordsAccount s r =
    (n : RemyNetwork) (s₀ : Simulation) → Fresh n s₀ → (cs : List Call) → s ≡ after cs s₀
    → Account n (history cs s₀ ++ map (λ x. x.note) (take r.done r.records)) r.simulation
