-- The records of a run: as many as ticks were done, and those of the history; and where they stand in the array of a batch. Assumes nothing.
use mathlib.Core.Path.{◌≡◌, refl, ap}
use mathlib.Core.Bool.{Bool, true, false, cond}
use mathlib.Core.List.{List, [], ◌∷◌, map}
use mathlib.Core.Logic.{inl, inr}
use Prim.Native.Nat.{ℕ, zero, suc, ◌+◌, ◌-◌, ◌≤◌}
use native.Mathlib.Omega.{arith}
use lib.Dec.{ltb}
use lib.ListN.{length, take, replicate}
use lib.Seq.{take_at}
use borrow.Author.Tests.{ltb-true, ltb-false}
use Rattle.remy.specs.declared.simulation.Simulation.{Simulation}
use Rattle.remy.specs.declared.simulation.TickRecord.{TickRecord}
use Rattle.remy.specs.declared.simulation.Ticked.{Ticked}
use Rattle.remy.specs.declared.simulation.Noted.{Noted}
use Rattle.remy.specs.Tick.{tick_of}
use Rattle.remy.specs.Run.{one_more, run_of, noted_of, no_noted, notes_of, batch, batch_of, records_of, ran_of}
use Rattle.remy.specs.History.{ticks, history}
use Rattle.remy.specs.Joins.{Ended}
use Rattle.remy.proofs.Steps.{cond_elim}
use Rattle.remy.proofs.Joins.{tick_by_tick}

-- ---- up to n ticks

pub notes_done : (n : ℕ) (s : Simulation) → length (notes_of n s) ≡ (run_of n s).done
unfolding notes_of run_of
notes_done zero s = refl
notes_done (suc n) s = by (tick_of s) (tick_of s).moved (notes_done n (tick_of s).simulation)
  where
    by : (t : Ticked) (b : Bool) → length (notes_of n t.simulation) ≡ (run_of n t.simulation).done
        → length (cond b (noted_of t.note t.simulation ∷ notes_of n t.simulation) [])
        ≡ (cond b (one_more (run_of n t.simulation)) (record { done = 0; number = t.number; simulation = t.simulation })).done
    by t true rest = omega (arith, rest)
    by t false rest = refl

pub run_most : (n : ℕ) (s : Simulation) → (run_of n s).done ≤ n
run_most n s = most (tick_by_tick n s).ended
  where
    most : Ended n (run_of n s) → (run_of n s).done ≤ n
    most (inl all) = let d = all.0 in omega (arith, d)
    most (inr some) = let d = some.0 in omega (arith, d)

-- the record of a tick
abbrev pub note_of : Noted → TickRecord
note_of x = x.note

pub notes_history : (n : ℕ) (s : Simulation) → map note_of (notes_of n s) ≡ history (ticks (run_of n s).done) s
unfolding notes_of run_of
notes_history zero s = refl
notes_history (suc n) s = by (tick_of s).moved refl (notes_history n (tick_of s).simulation)
  where
    by : (b : Bool) → (tick_of s).moved ≡ b → map note_of (notes_of n (tick_of s).simulation) ≡ history (ticks (run_of n (tick_of s).simulation).done) (tick_of s).simulation
        → map note_of (notes_of (suc n) s) ≡ history (ticks (run_of (suc n) s).done) s
    by true e rest =
        let more : (run_of n (tick_of s).simulation).done + 1 ≡ suc (run_of n (tick_of s).simulation).done = omega arith in
        rw (e, more, e) (ap (λ (l : List TickRecord). (tick_of s).note ∷ l) rest)
    by false e rest = rw e

-- ---- a batch

pub batch-within : (n : ℕ) → (batch_of n ≤ n) × (batch_of n ≤ batch)
batch-within n =
    cond_elim (λ (m : ℕ). (m ≤ n) × (m ≤ batch)) (ltb n batch) n batch
    (λ e. let below = ltb-true n batch e in (omega arith, omega (arith, below)))
    (λ e. let above = ltb-false n batch e in (omega (arith, above), omega arith))

-- the records stand first
pub first_notes : (n : ℕ) (s : Simulation) → take (records_of n s).done (records_of n s).records ≡ notes_of (batch_of n) s
unfolding records_of
first_notes n s =
    let notes = notes_of (batch_of n) s in
    take_at notes (replicate (batch - length notes) no_noted) (run_of (batch_of n) s).done (notes_done (batch_of n) s)

-- without them it is the run
pub records_ran : (n : ℕ) (s : Simulation) → ran_of (records_of n s) ≡ run_of (batch_of n) s
unfolding records_of
records_ran n s = refl
