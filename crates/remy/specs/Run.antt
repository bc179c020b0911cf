-- Document 01, "Tick and history": `run` n ticks until n are done, idle or refused; it returns how many, the last number (0 if n is 0), the state. Definitions only.
use Rattle.std.specs.Prelude.{ℕ, zero, suc, ◌+◌, ◌-◌, ◌≤◌, ◌≡◌, ◌⊎◌, cond, List, [], ◌∷◌, ◌++◌, ltb, length, replicate}
use Rattle.quantities.specs.Units.{amount_of}
use Rattle.link.specs.declared.link.Line.{Line}
use Rattle.remy.specs.declared.simulation.Simulation.{Simulation}
use Rattle.remy.specs.declared.simulation.TickRecord.{TickRecord}
use Rattle.remy.specs.declared.simulation.Ran.{Ran}
use Rattle.remy.specs.declared.simulation.Noted.{Noted}
use Rattle.remy.specs.declared.simulation.Recorded.{Recorded}
use Rattle.remy.specs.State.{line_at}
use Rattle.remy.specs.Tick.{tick_of, empty_record}

abbrev pub one_more : Ran → Ran
one_more r = record { done = r.done + 1; number = r.number; simulation = r.simulation }

unfoldable pub run_of : ℕ → Simulation → Ran
run_of zero s = record { done = 0; number = 0; simulation = s }
run_of (suc n) s =
    let t = tick_of s in
    cond t.moved (one_more (run_of n t.simulation)) (record { done = 0; number = t.number; simulation = t.simulation })

-- the numbers that a tick and a run can give: 0 and 8 to 13; 14 is unused
abbrev pub TickNumber : ℕ → Type 0
TickNumber k = (k ≡ 0) ⊎ ((8 ≤ k) × (k ≤ 13))

-- ---- a run with its records

-- a tick's record, with the bits that wait for the first line in the state after it
abbrev pub noted_with : TickRecord → Line → Noted
noted_with r first = record { note = r; waiting = first.buffer_contains }

abbrev pub noted_of : TickRecord → Simulation → Noted
noted_of r s = noted_with r (line_at s 0)

-- what stands where no tick was done
abbrev pub no_noted : Noted
no_noted = record { note = empty_record; waiting = amount_of 0 }

-- those of up to n ticks: a tick that does not move has none, and ends the run
unfoldable pub notes_of : ℕ → Simulation → List Noted
notes_of zero s = []
notes_of (suc n) s =
    let t = tick_of s in
    cond t.moved (noted_of t.note t.simulation ∷ notes_of n t.simulation) []

-- how many records one call gives at most
abbrev pub batch : ℕ
batch = 256

-- as many ticks as are asked for, a batch at most
abbrev pub batch_of : ℕ → ℕ
batch_of n = cond (ltb n batch) n batch

abbrev pub padded : List Noted → List Noted
padded notes = notes ++ replicate (batch - length notes) no_noted

unfoldable pub records_of : ℕ → Simulation → Recorded
records_of n s =
    let r = run_of (batch_of n) s in
    record { done = r.done; number = r.number; records = padded (notes_of (batch_of n) s); simulation = r.simulation }

-- without its records
abbrev pub ran_of : Recorded → Ran
ran_of r = record { done = r.done; number = r.number; simulation = r.simulation }
