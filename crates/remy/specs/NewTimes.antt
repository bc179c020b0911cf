-- Document 02, K6: the new times that a tick of a state works out in doubles. Definitions only; that they are finite and not below the clock is proved in proofs/.
use Rattle.std.specs.Prelude.{ℕ, cond, leb, eqb, Option, Some, None}
use mathlib.Core.List.{List, [], ◌∷◌, Memᴰ}
use Rattle.std.specs.Float.Ieee.{lt}
use Rattle.quantities.specs.declared.time.Time.{Time}
use Rattle.quantities.specs.Doubles.{power}
use Rattle.quantities.specs.Units.{span_of, rate_of}
use Rattle.quantities.specs.NewTime.{FineTime}
use Rattle.link.specs.declared.link.Line.{Line}
use Rattle.sender.specs.declared.lossy.Policy.{Policy}
use Rattle.sender.specs.declared.lossy.Policy.TheVariants.{Held, Grown, Timed}
use Rattle.sender.specs.declared.lossy.SenderState.{SenderState}
use Rattle.sender.specs.declared.lossy.SenderState.TheVariants as State
use Rattle.link.specs.Ring.{places}
use Rattle.link.specs.Link.{try_deliver, is_free, next_start, due_time}
use Rattle.sender.specs.Sender.{timer_due, timer_in}
use Rattle.toggler.specs.Toggler.{next_toggle_of, toggle_draw}
use Rattle.remy.specs.declared.simulation.Simulation.{Simulation}
use Rattle.remy.specs.State.{values_of, Role, link, bouncer, sender, toggler, nobody, role_in, line_at, sender_at, toggler_at, first_of, front_of}
use Rattle.remy.specs.Fit.{fit}

-- the link of line l, after the packet that leaves: where a packet starts (none at 13), the earliest start clock + bits/rate and the due time clock + delay
abbrev pub start_times : Simulation → ℕ → Line → List Time
start_times s l x =
    let clock = s.head.clock in
    let v = values_of s.network l in
    cond (is_free x clock)
    (cond (leb places x.on_line.count) []
    (next_start clock (first_of s l).bits (rate_of v.rate) ∷ (due_time clock (span_of v.delay) ∷ [])))
    []

abbrev pub link_times : Simulation → ℕ → List Time
link_times s l = start_times s l (try_deliver (line_at s l) s.head.clock (front_of s l) (values_of s.network l).loss).line

-- the timer clock + gap of a timed sender
abbrev pub gap_times : Policy → Time → List Time
gap_times (Held w) clock = []
gap_times (Grown first most) clock = []
gap_times (Timed most gap) clock = timer_in clock gap ∷ []

-- a first send is one that finds no timer held
abbrev pub first_times : Policy → Option Time → Time → List Time
first_times policy None clock = gap_times policy clock
first_times policy (Some t) clock = []

-- a sender: at each timer, and at a first send (none at 11)
abbrev pub sender_times : Simulation → ℕ → SenderState → List Time
sender_times s i State.WaitingForEnable = []
sender_times s i (State.Enabled e) =
    let clock = s.head.clock in
    cond (timer_due e clock) (gap_times s.network.policy clock) (cond (leb 16777216 (sender_at s i).packets_sent) [] (first_times s.network.policy e.timer clock))

-- a toggler: the next toggle clock + draw (none at 8)
abbrev pub toggler_times : Simulation → ℕ → List Time
toggler_times s i =
    let d = toggle_draw (toggler_at s i) s.network.on s.network.off in
    cond (eqb d.number 0) (next_toggle_of s.head.clock d.value ∷ []) []

abbrev pub part_times : Simulation → Role → List Time
part_times s (link l) = link_times s l
part_times s bouncer = []
part_times s (sender i) = sender_times s i (sender_at s i).state
part_times s (toggler i) = toggler_times s i
part_times s nobody = []

-- none in an idle state, and none where the clock is above 2^40 (10)
abbrev pub times_next : Simulation → Option ℕ → List Time
times_next s None = []
times_next s (Some k) = cond (lt (power 40) s.head.clock.0.0) [] (part_times s (role_in s.network k))

-- none in an unfit state (9)
unfoldable pub new_times : Simulation → List Time
new_times s = cond (fit s) (times_next s s.head.next) []

-- each new time that a tick of the state works out is finite and not below the clock
abbrev pub NewTimesFine : Simulation → Type 0
NewTimesFine s = (t : Time) → Memᴰ t (new_times s) → FineTime s.head.clock t
