-- Document 02, K6: the times that a state holds, what a tick makes of them, and that the clock can't go back. Definitions only.
use Rattle.std.specs.Prelude.{◌≡◌, ◌⊎◌, true, T, Some}
use mathlib.Core.List.{List, [], ◌∷◌, Memᴰ}
use Rattle.std.specs.Float.Ieee.{le}
use Rattle.quantities.specs.declared.time.Time.{Time}
use Rattle.quantities.specs.NewTime.{Double}
use Rattle.remy.specs.declared.simulation.Simulation.{Simulation}
use Rattle.remy.specs.declared.simulation.TickRecord.{TickRecord}
use Rattle.remy.specs.State.{line_at, sender_at, toggler_at}
use Rattle.remy.specs.Tick.{tick_of}
use Rattle.remy.specs.NewTimes.{new_times, NewTimesFine}
use Rattle.remy.specs.HeldTimes.{Kinds, timer_of, due_times, Holds, Has}
use Rattle.remy.specs.History.{Call, after, history}

-- ---- what the types of code say of a state

abbrev pub doubles : Kinds
doubles = record { free = λ l. Double; due = λ l. Double; timer = λ i. Double; toggle = λ i. Double; queued = Double }

-- its arrays have all their places, and the times that can become the clock are doubles
abbrev pub Typed : Simulation → Type 0
Typed s = Has doubles s

-- ---- one tick

-- held by s, or one of the times ts
abbrev pub old_or_new : Simulation → List Time → Kinds
old_or_new s ts =
    record {
      free = λ l t. (t ≡ (line_at s l).earliest_transmit) ⊎ Memᴰ t ts;
      due = λ l t. Memᴰ t (due_times s l) ⊎ Memᴰ t ts;
      timer = λ i t. (timer_of (sender_at s i).state ≡ Some t) ⊎ Memᴰ t ts;
      toggle = λ i t. ((toggler_at s i).next_toggle ≡ t) ⊎ Memᴰ t ts;
      queued = λ t. Unit {0};
    }

pub record Onward (s : Simulation) : Type 0 where
  -- each new time that a tick works out is finite and not below the clock
  pub fine : NewTimesFine s
  -- the earliest start and the due times of each line, the timers and the toggles after it are those before it, or new ones
  pub held : Holds (old_or_new s (new_times s)) (tick_of s).simulation
  -- the clock after a tick that moved is not below the clock before it
  pub clock : (tick_of s).moved ≡ true → T (le s.head.clock.0.0 (tick_of s).simulation.head.clock.0.0)

-- ---- every list of calls

-- the times of records never fall, from t on
abbrev pub Rising : Time → List TickRecord → Type 0
Rising t [] = Unit {0}
Rising t (r ∷ rs) = T (le t.0.0 r.time.0.0) × Rising r.time rs

-- The clock can't go back, in any state that calls reach from s, nor in their history.
abbrev pub NeverBack : Simulation → Type 0
NeverBack s = (cs : List Call) → Onward (after cs s) × Rising s.head.clock (history cs s)
