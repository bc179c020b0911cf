-- The loop of ticks: so many ticks done, their records in the places of an array that is used over again, until n are done, idle or refused. Definitions only; `tick_of`, `run_of` and `records_of`
-- of remy are its cases.
use Rattle.std.specs.Prelude.{ℕ, zero, suc, ◌+◌, ◌%◌, cond, List, set}
use Rattle.remy.specs.declared.simulation.Simulation.{Simulation}
use Rattle.remy.specs.declared.simulation.Noted.{Noted}
use Rattle.remy.specs.declared.simulation.Recorded.{Recorded}
use Rattle.remy.specs.Tick.{tick_of}
use Rattle.remy.specs.Run.{batch, noted_of}

unfoldable pub advance_of : ℕ → ℕ → List Noted → Simulation → Recorded
advance_of zero d notes s = record { done = d; number = 0; records = notes; simulation = s }
advance_of (suc n) d notes s =
    let t = tick_of s in
    cond t.moved (advance_of n (d + 1) (set notes (d % batch) (noted_of t.note t.simulation)) t.simulation)
    (record { done = d; number = t.number; records = notes; simulation = t.simulation })
