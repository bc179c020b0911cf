-- Document 02, K6, computed: the sums at the ends of their ranges, why the clock has to be a double, the new times of ticks, and for each clause of what is said of the
-- clock something that it refuses. As one list of claims.
use Rattle.std.specs.Prelude.{◌≡◌, true, false, List, [], ◌∷◌, ℕ, zero, suc, negsuc, set, Float, None}
use Rattle.std.specs.Float.{inf, fin}
use Rattle.std.specs.Float.Ieee.{le}
use Rattle.quantities.specs.declared.time.Time.{Time}
use Rattle.quantities.specs.Doubles.{zero_f, power}
use Rattle.quantities.specs.Units.{time_of, span_of, span_after}
use Rattle.quantities.specs.NewTime.{FineTime, Double}
use Rattle.sender.specs.declared.lossy.Policy.TheVariants.{Held, Timed}
use Rattle.remy.specs.declared.network.RemyNetwork.{RemyNetwork}
use Rattle.remy.specs.declared.simulation.Mark.TheVariants as Mark
use Rattle.remy.specs.declared.simulation.Simulation.{Simulation}
use Rattle.remy.specs.declared.simulation.TickRecord.{TickRecord}
use Rattle.remy.specs.State.{with_on_line}
use Rattle.remy.specs.Build.{build_of}
use Rattle.remy.specs.Tick.{tick_of}
use Rattle.remy.specs.Run.{TickNumber}
use Rattle.remy.specs.NewTimes.{new_times}
use Rattle.remy.specs.HeldTimes.{Holds}
use Rattle.remy.specs.History.{ticks, after}
use Rattle.steady.specs.Clock.{old_or_new, Onward, Rising, NeverBack}
use Rattle.points.specs.Ranges.{values_from, network_from, bits_all, always}
use Rattle.points.specs.Worked.{worked}
use Rattle.points.specs.Unfit.{six, odd, packet_of, transit_of, there_and_back, returning, line_with, with_front, with_clock, with_timer, with_toggle, busy_timed, waiting_for}

-- the new times of each of the first n ticks from a state
unfoldable pub new_times_of : ℕ → Simulation → List (List Time)
new_times_of zero s = []
new_times_of (suc n) s = new_times s ∷ new_times_of n (tick_of s).simulation

-- an odd number of seconds
abbrev pub seconds : ℕ → Time
seconds n = time_of (odd n)

abbrev pub two : Time
two = time_of (power 1)

abbrev pub four : Time
four = time_of (power 2)

-- the toggle after the on time of 100
abbrev pub toggle : List Time
toggle = seconds 101 ∷ []

-- bits/rate and the delay are 1 second each
abbrev pub start : Time → List Time
start t = t ∷ (t ∷ [])

-- 1 + 2^-53, which is no double
abbrev pub finer : Float
finer = fin false 9007199254740993 (negsuc 52)

-- the worked example without a limit, timed 1 with a gap of 2
abbrev pub timed_worked : RemyNetwork
timed_worked =
    record {
      line = values_from worked.line.delay worked.line.rate worked.line.loss None;
      back = None;
      bits = worked.bits;
      senders = worked.senders;
      on = worked.on;
      off = worked.off;
      policy = Timed 1 (power 1);
    }

-- ---- what the clauses refuse

-- a record at this time
abbrev pub recorded_at : Time → TickRecord
recorded_at t = record { time = t; part = 0; mark = Mark.None; packet = None; started = None }

-- a delay of 0 and one packet, which waits for the link at 1
unfoldable pub sent_one : Simulation
sent_one = after (ticks 2) (build_of (network_from zero_f (power 3) zero_f None (bits_all 8) 1 always always (Held 1)) 1).simulation

-- its clock no double, and an array of it without places: neither is a state of code
abbrev pub untimely : Simulation
untimely = with_clock sent_one finer

abbrev pub short : Simulation
short = with_on_line sent_one []

-- clock 3: a packet leaves, another starts, which is due at 4, as is the earliest start; the timer is at 5, the toggle at 101
abbrev pub waiting_timed : Simulation
waiting_timed = waiting_for busy_timed (odd 5)

unfoldable pub its_tick : Simulation
its_tick = (tick_of waiting_timed).simulation

-- what a tick of it may leave
abbrev pub OldOrNew : Simulation → Type 0
OldOrNew = Holds (old_or_new waiting_timed (new_times waiting_timed))

-- With a return line, clock 4: on the first line, which was free at 4, a packet starts, which is due at 5, as is the earliest start; on the second the earliest start and a due time are 6.
unfoldable pub its_return : Simulation
its_return = (tick_of returning).simulation

abbrev pub OldOrNewBack : Simulation → Type 0
OldOrNewBack = Holds (old_or_new returning (new_times returning))

abbrev pub clock : List (Type 0)
clock =
    -- the ends of both ranges
    (span_after (time_of (power 40)) (span_of (power 40)) ≡ time_of (power 41))
    ∷ (span_after (time_of zero_f) (span_of zero_f) ≡ time_of zero_f)
    -- a span that is lost in the rounding leaves the clock
    ∷ (span_after (time_of (power 40)) (span_of (fin false 1 (negsuc 19))) ≡ time_of (power 40))
    -- a clock that is no double: with nothing added, the sum is below it
    ∷ (le finer (span_after (time_of finer) (span_of zero_f)).0.0 ≡ false)
    -- the worked example's seven ticks: the toggle, then the starts at 1 and at 2 with the earliest start and the due time of each
    ∷ (new_times_of 7 (build_of worked 1).simulation ≡ toggle ∷ [] ∷ start two ∷ [] ∷ [] ∷ start (seconds 3) ∷ [] ∷ [])
    -- timed: the same, and the timer of the first send, and that of the timer
    ∷ (new_times_of 9 (build_of timed_worked 1).simulation ≡ toggle ∷ (seconds 3 ∷ []) ∷ start two ∷ [] ∷ [] ∷ start (seconds 3) ∷ [] ∷ (seconds 5 ∷ []) ∷ [] ∷ [])
    -- with a return line, 8 bits at a rate of 4 and a delay of 2: starts on the first line at 1, 2 and 3, on the second at 2 and 4
    ∷ (new_times_of 11 (build_of there_and_back 1).simulation
    ≡ toggle ∷ [] ∷ start two ∷ [] ∷ [] ∷ start (seconds 3) ∷ start four ∷ start four ∷ [] ∷ start (time_of six) ∷ [] ∷ [])
    -- infinite; below the clock
    ∷ (FineTime (time_of zero_f) (time_of (inf false)) → ⊥)
    ∷ (FineTime two (time_of (power 0)) → ⊥)
    ∷ (Double (time_of finer) → ⊥)
    -- 7 and 14 are no numbers of a tick
    ∷ (TickNumber 7 → ⊥)
    ∷ (TickNumber 14 → ⊥)
    -- a time of 7 is neither old nor new: as the earliest start, a due time, a timer, a toggle
    ∷ (OldOrNew (line_with its_tick 0 (odd 7) 0 3 0 2 1) → ⊥)
    ∷ (OldOrNew (with_on_line its_tick (set its_tick.on_line 2 (transit_of (packet_of 0 4 (power 1)) (odd 7)))) → ⊥)
    ∷ (OldOrNew (with_timer its_tick (odd 7)) → ⊥)
    ∷ (OldOrNew (with_toggle its_tick true (odd 7)) → ⊥)
    -- so on a return line, where what the first line held is not old
    ∷ (OldOrNewBack (line_with its_return 1 (power 2) 8 2 1 1 1) → ⊥)
    ∷ (OldOrNewBack (with_front its_return 1 (transit_of (packet_of 0 2 (power 0)) (odd 7))) → ⊥)
    -- one tick: of the clock that is no double by the new times, and by the clock after it; of the array without places by what is held after it
    ∷ (Onward untimely → ⊥)
    ∷ (Onward untimely → ⊥)
    ∷ (Onward short → ⊥)
    -- times that fall: at the first record; at a later one; in two ticks from that clock
    ∷ (Rising two (recorded_at (time_of (power 0)) ∷ []) → ⊥)
    ∷ (Rising two (recorded_at (seconds 3) ∷ recorded_at two ∷ []) → ⊥)
    ∷ (NeverBack untimely → ⊥)
    ∷ []
