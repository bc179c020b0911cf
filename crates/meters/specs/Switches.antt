-- Document 02, K8: what switching a meter gave before. FlowForge's meters.rs has two switches, `set_enabled` and `set_disabled`; here they are, written from that file, with document 01's refusals (row 18 of "Stops"). Definitions only.
use Rattle.std.specs.Prelude.{◌≡◌, true, false, cond, Option, Some, None}
use Rattle.std.specs.Float.Ieee.{le}
use Rattle.quantities.specs.declared.time.Time.{Time}
use Rattle.quantities.specs.declared.time_span.TimeSpan.{TimeSpan}
use Rattle.quantities.specs.Units.{since, span_sum}
use Rattle.meters.specs.declared.meter.AverageFlowMeter.{AverageFlowMeter}
use Rattle.meters.specs.Meter.{Metered, within_limits, switched_of}

-- ---- `Timer`, which both switches reach through `InfoRateMeter` and which alone they read and change
pub record Timer : Type 0 where
  pub total_time : TimeSpan
  pub current_start : Option Time

-- What a call makes of a timer's total time and start; none where it panics. Times compare as document 01's do: the Rust has -0 below 0.

-- `enable`: panics where there is a start; else the time is the start
abbrev pub timer_enable : TimeSpan → Option Time → Time → Option Timer
timer_enable total (Some start) time = None
timer_enable total None time = Some (record { total_time = total; current_start = Some time })

-- `disable`: panics where there is no start, and at a time before it; else the time since the start is added to the total, and there is no start
abbrev pub timer_disable : TimeSpan → Option Time → Time → Option Timer
timer_disable total None time = None
timer_disable total (Some start) time =
    cond (le start.0.0 time.0.0) (Some (record { total_time = span_sum total (since time start); current_start = None })) None

-- ---- the two switches

-- a call that document 01 refuses though the Rust does not panic, so that it makes none too: of a held meter that is unfit, or at a time not in 0..2^41
abbrev pub tested : AverageFlowMeter → Time → Option Timer → Option Timer
tested m time call = cond (within_limits m time) call None

-- a meter with the timer that a call made; where there is none, 18 and the meter as it was
abbrev pub answered : AverageFlowMeter → Option Timer → Metered
answered m None = record { number = 18; meter = m }
answered m (Some timer) =
    record {
      number = 0;
      meter = record { total_time = timer.total_time; current_start = timer.current_start; total = m.total; records = m.records; rtt_sum = m.rtt_sum };
    }

abbrev pub set_enabled : AverageFlowMeter → Time → Metered
set_enabled m time = answered m (tested m time (timer_enable m.total_time m.current_start time))

abbrev pub set_disabled : AverageFlowMeter → Time → Metered
set_disabled m time = answered m (tested m time (timer_disable m.total_time m.current_start time))

-- ---- the one switch gives what the two gave, in every field and on refusal
abbrev pub SwitchedOn : Type 0
SwitchedOn = (m : AverageFlowMeter) (time : Time) → switched_of m true time ≡ set_enabled m time

abbrev pub SwitchedOff : Type 0
SwitchedOff = (m : AverageFlowMeter) (time : Time) → switched_of m false time ≡ set_disabled m time
