-- The times that a state holds, by kind, and claims of each kind. Definitions only; no tick reads them, and theorems cite them.
use Rattle.std.specs.Prelude.{ℕ, ◌*◌, ◌<◌, ◌≡◌, length, Option, Some, None}
use mathlib.Core.List.{List, map, Memᴰ}
use Rattle.quantities.specs.declared.time.Time.{Time}
use Rattle.sender.specs.declared.lossy.SenderState.{SenderState}
use Rattle.sender.specs.declared.lossy.SenderState.TheVariants as State
use Rattle.link.specs.Ring.{places}
use Rattle.toggler.specs.Queue.{queue_places}
use Rattle.remy.specs.declared.simulation.Simulation.{Simulation}
use Rattle.remy.specs.State.{line_count, line_at, sender_at, toggler_at, queued_at, on_line_items}

-- the arrays have all their places, as the code's arrays do
pub record Full (s : Simulation) : Type 0 where
  pub lines : length s.lines ≡ 2
  pub waiting : length s.waiting ≡ places * 2
  pub moving : length s.on_line ≡ places * 2
  pub senders : length s.senders ≡ 16
  pub togglers : length s.togglers ≡ 16
  pub meters : length s.meters ≡ 16
  pub queue : length s.queue ≡ queue_places

-- a claim for each kind of held time: the earliest start and a due time of line l, the timer and the toggle of sender i, a queued time (the clock was one)
pub record Kinds : Type 1 where
  pub free : ℕ → Time → Type 0
  pub due : ℕ → Time → Type 0
  pub timer : ℕ → Time → Type 0
  pub toggle : ℕ → Time → Type 0
  pub queued : Time → Type 0

abbrev pub IfAny : (Time → Type 0) → Option Time → Type 0
IfAny P None = Unit {0}
IfAny P (Some t) = P t

abbrev pub timer_of : SenderState → Option Time
timer_of State.WaitingForEnable = None
timer_of (State.Enabled e) = e.timer

abbrev pub due_times : Simulation → ℕ → List Time
due_times s l = map (λ x. x.due) (on_line_items s l)

-- each time that the state holds has its kind's claim
pub record Holds (k : Kinds) (s : Simulation) : Type 0 where
  pub free : (l : ℕ) → l < line_count s.network → k.free l (line_at s l).earliest_transmit
  pub due : (l : ℕ) → l < line_count s.network → (t : Time) → Memᴰ t (due_times s l) → k.due l t
  pub timer : (i : ℕ) → i < s.network.senders → IfAny (k.timer i) (timer_of (sender_at s i).state)
  pub toggle : (i : ℕ) → i < s.network.senders → k.toggle i (toggler_at s i).next_toggle
  pub queued : (j : ℕ) → j < queue_places → IfAny k.queued (queued_at s j)

-- so has its clock, and its arrays have all their places
pub record Has (k : Kinds) (s : Simulation) : Type 0 where
  pub full : Full s
  pub clock : k.queued s.head.clock
  pub held : Holds k s
