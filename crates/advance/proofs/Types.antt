-- What the type of a simulation says of one that code has: its arrays have all their places, and the times that can become the clock are doubles. Read off what owning
-- a value tells, which is computed from its type. Assumes nothing.
use Rattle.std.proofs.Common.{Option, Some, None}
use mathlib.Core.Path.{◌≡◌}
use mathlib.Core.List.{List, [], ◌∷◌}
use Prim.Native.Nat.{ℕ, zero, suc}
use lib.ListN.{length, get_or}
use lib.Ieee.{binary64, fits}
use lib.Ieee.Fits.{nan-fits}
use mir.Val.{Val}
use denote.Shadow.{shadow}
use denote.Array.{each}
use denote.RattleType.{RattleType}
use denote.Builtin.{One, Array}
use denote.Struct.Field.{Field, row_field}
use Rattle.quantities.specs.declared.time.Time.{Time}
use Rattle.quantities.specs.NewTime.{Double}
use Rattle.quantities.specs.contracts.time.Time as T
use Rattle.std.specs.contracts.option.Option as O
use Rattle.link.specs.contracts.link.Line as Line
use Rattle.link.specs.contracts.packet.Waiting as Waiting
use Rattle.link.specs.contracts.packet.Transit as Transit
use Rattle.meters.specs.contracts.meter.AverageFlowMeter as Meter
use Rattle.sender.specs.declared.lossy.SenderState.{SenderState}
use Rattle.sender.specs.declared.lossy.SenderState.TheVariants as State
use Rattle.sender.specs.contracts.lossy.SenderState as S
use Rattle.sender.specs.contracts.lossy.LossySender as Sender
use Rattle.toggler.specs.contracts.toggler.Toggler as Toggler
use Rattle.toggler.specs.contracts.tick_queue.Queued as Queued
use Rattle.toggler.specs.Queue.{no_queued}
use Rattle.remy.specs.declared.simulation.Simulation.{Simulation}
use Rattle.remy.specs.contracts.simulation.Simulation as Whole
use Rattle.remy.specs.State.{no_transit, no_line, no_sender, no_toggler, line_at, on_line_items}
use Rattle.remy.proofs.Facts.{holds}
use Rattle.remy.proofs.Lists.{All, all_mapped, all_member, items-all}
use Rattle.remy.specs.HeldTimes.{IfAny, timer_of, due_times}
use Rattle.steady.specs.Clock.{Typed}

-- what owning a value of a type tells
abbrev Owning : (F : Field) → F.Value → List Val → Type 0
Owning F x vs = shadow (F.row.own_val (F.into x) vs)

-- ---- arrays

array_all : (R : RattleType) (P : R.Denot → Type 0) → ((x : R.Denot) (vs : List Val) → shadow (R.own_val x vs) → P x)
    → (xs : List R.Denot) (us : List Val) → shadow (each R.Denot R.own_val xs us) → All P xs
array_all R P f [] us p = tt
array_all R P f (x ∷ xs) [] p = absurd p
array_all R P f (x ∷ xs) (u ∷ us) p = (f x (u ∷ []) p.0, array_all R P f xs us p.1)

-- at every index, past the end too
all_index : {A : Type 0} (P : A → Type 0) (d : A) → P d → (xs : List A) → All P xs → (i : ℕ) → P (get_or xs i d)
all_index P d p [] a i = p
all_index P d p (x ∷ xs) a zero = a.0
all_index P d p (x ∷ xs) a (suc i) = all_index P d p xs a.1 i

module _ (R : RattleType) (one : One R.mir) (n : ℕ) (xs : List R.Denot) (vs : List Val) (p : Owning (row_field (Array R one n)) xs vs) where
  full_array : length xs ≡ n
  full_array = p.1.0.1

  told_at : (P : R.Denot → Type 0) (d : R.Denot) → P d → ((x : R.Denot) (us : List Val) → shadow (R.own_val x us) → P x) → (i : ℕ) → P (get_or xs i d)
  told_at P d q f = all_index P d q xs (array_all R P f xs p.0 p.1.1)

-- ---- the doubles of each type

time-double : (t : Time) (vs : List Val) → Owning T.the_field t vs → Double t
time-double t vs p = holds (fits binary64 t.0.0) p.1.1.0.1.1.0.1

option_double : (o : Option Time) (vs : List Val) → Owning (row_field (O.the_row T.the_row)) o vs → IfAny Double o
option_double None vs p = tt
option_double (Some t) vs p = time-double t _ p.1.1.1.1.0

state-double : (x : SenderState) (vs : List Val) → Owning S.the_field x vs → IfAny Double (timer_of x)
state-double State.WaitingForEnable vs p = tt
state-double (State.Enabled e) vs p = option_double e.timer _ p.1.1.1.1.0.1.1.1.1.1.0

-- ---- a simulation

pub typed : (s : Simulation) (vs : List Val) → Owning Whole.the_field s vs → Typed s
typed s vs p =
    record {
      full =
          record {
            lines = full_array Line.the_row (tt {0}) 2 s.lines _ p.1.1.1.1.0;
            waiting = full_array Waiting.the_row (tt {0}) 1024 s.waiting _ p.1.1.1.1.1.0;
            moving = full_array Transit.the_row (tt {0}) 1024 s.on_line _ p.1.1.1.1.1.1.0;
            senders = full_array Sender.the_row (tt {0}) 16 s.senders _ p.1.1.1.1.1.1.1.0;
            togglers = full_array Toggler.the_row (tt {0}) 16 s.togglers _ p.1.1.1.1.1.1.1.1.0;
            meters = full_array Meter.the_row (tt {0}) 16 s.meters _ p.1.1.1.1.1.1.1.1.1.0;
            queue = full_array Queued.the_row (tt {0}) 35 s.queue _ p.1.1.1.1.1.1.1.1.1.1.0;
          };
      clock = time-double s.head.clock _ p.1.1.1.0.1.1.0;
      held =
          record {
            free = λ l h.
                told_at Line.the_row (tt {0}) 2 s.lines _ p.1.1.1.1.0 (λ x. Double x.earliest_transmit) no_line (nan-fits binary64) (λ x us q. time-double x.earliest_transmit _ q.1.1.0) l;
            due = λ l h.
                all_member Double (due_times s l)
                (all_mapped Double (λ x. x.due) (on_line_items s l)
                (items-all (λ x. Double x.due) no_transit s.on_line l (line_at s l).on_line
                (told_at Transit.the_row (tt {0}) 1024 s.on_line _ p.1.1.1.1.1.1.0 (λ x. Double x.due) no_transit (nan-fits binary64) (λ x us q. time-double x.due _ q.1.1.1.0))));
            timer = λ i h.
                told_at Sender.the_row (tt {0}) 16 s.senders _ p.1.1.1.1.1.1.1.0 (λ x. IfAny Double (timer_of x.state)) no_sender tt (λ x us q. state-double x.state _ q.1.1.1.0) i;
            toggle = λ i h.
                told_at Toggler.the_row (tt {0}) 16 s.togglers _ p.1.1.1.1.1.1.1.1.0 (λ x. Double x.next_toggle) no_toggler (nan-fits binary64)
                (λ x us q. time-double x.next_toggle _ q.1.1.1.0) i;
            queued = λ j h.
                told_at Queued.the_row (tt {0}) 35 s.queue _ p.1.1.1.1.1.1.1.1.1.1.0 (λ x. IfAny Double x.time) no_queued tt (λ x us q. option_double x.time _ q.1.1.0) j;
          };
    }
