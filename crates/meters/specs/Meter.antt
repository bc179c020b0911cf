-- Document 01, "Meter" and the rows 16 and 18 of "Stops": the average flow meter. Definitions only.
use Rattle.std.specs.Prelude.{ℕ, ◌+◌, ◌*◌, Bool, true, false, not, ◌&&◌, cond, leb, ltb, Option, Some, None, Result, Ok, Err}
use Rattle.std.specs.Bool.{beq}
use Rattle.std.specs.Float.{binary64}
use Rattle.std.specs.Float.Ieee.{mul, le, eq}
use Rattle.quantities.specs.declared.time.Time.{Time}
use Rattle.quantities.specs.declared.time_span.TimeSpan.{TimeSpan}
use Rattle.quantities.specs.declared.information.Information.{Information}
use Rattle.quantities.specs.Doubles.{zero_f, power, largest, in_range}
use Rattle.quantities.specs.Units.{span_of, amount_of, as_double, since, span_sum, amount_over_span}
use Rattle.meters.specs.declared.meter.AverageFlowMeter.{AverageFlowMeter}
use Rattle.meters.specs.declared.meter.ChangeRefused.{ChangeRefused}
use Rattle.meters.specs.declared.meter.Reception.{Reception}
use Rattle.flows.specs.declared.flow.FlowProperties.{FlowProperties}
use Rattle.meters.specs.declared.meter.FlowReadError.{FlowReadError}
use Rattle.meters.specs.declared.meter.FlowReadError.TheVariants.{NeverActive, Refused}
use Rattle.flows.specs.Sums.{summed_of, average_rtt, FlowAnswer, refusal}

-- off, and empty
abbrev pub new_meter : AverageFlowMeter
new_meter = record { total_time = span_of zero_f; current_start = None; total = amount_of 0; records = 0; rtt_sum = span_of zero_f }

-- ---- 18: what a held meter must not be

-- a start not in 0..2^41
unfoldable pub start_fit : Option Time → Bool
start_fit None = true
start_fit (Some t) = in_range zero_f (power 41) t.0.0

-- a total enabled time negative or not finite
abbrev pub total_fit : TimeSpan → Bool
total_fit total = in_range zero_f largest total.0

-- an RTT sum outside 0..records times 2^41
abbrev pub sum_fit : ℕ → TimeSpan → Bool
sum_fit records sum = in_range zero_f (mul binary64 (as_double records) (power 41)) sum.0

-- over 2^24 records, bits above 2^24 times its records, a start not in 0..2^41, or sums unfit
unfoldable pub meter_fit : AverageFlowMeter → Bool
meter_fit m =
    leb m.records 16777216
    && leb m.total.0 (16777216 * m.records)
    && start_fit m.current_start
    && total_fit m.total_time
    && sum_fit m.records m.rtt_sum

-- ---- 18: what a call must not ask

-- time before its start, where it is on
abbrev pub not_before : Option Time → Time → Bool
not_before None t = true
not_before (Some s) t = le s.0.0 t.0.0

-- a fit meter, and a time in 0..2^41
abbrev pub within_limits : AverageFlowMeter → Time → Bool
within_limits m t = meter_fit m && in_range zero_f (power 41) t.0.0

-- the same, and the time is not before its start
unfoldable pub ready : AverageFlowMeter → Time → Bool
ready m t = within_limits m t && not_before m.current_start t

-- ---- the calls

-- what a call gives in document 01's terms: a number (0 or 18), and the meter, changed at 0, else as it was
pub record Metered : Type 0 where
  pub number : ℕ
  pub meter : AverageFlowMeter

-- a call that is taken, and one that is refused, which leaves the meter as it was
abbrev pub taken : AverageFlowMeter → Metered
taken m = record { number = 0; meter = m }

abbrev pub unchanged : AverageFlowMeter → Metered
unchanged m = record { number = 18; meter = m }

-- the number and the meter of each case of a call's answer
abbrev pub told_change : AverageFlowMeter → Result AverageFlowMeter ChangeRefused → Metered
told_change m (Ok changed) = taken changed
told_change m (Err e) = unchanged m

-- the number of each case, where the meter is lent
abbrev pub number_of : {A : Type 0} → Result A ChangeRefused → ℕ
number_of (Ok done) = 0
number_of (Err e) = 18

abbrev pub is_on : Option Time → Bool
is_on None = false
is_on (Some s) = true

-- switched at a time: on from it, or off with the time since its start added to the total
abbrev pub turned : AverageFlowMeter → Option Time → Time → AverageFlowMeter
turned m None t =
    record { total_time = m.total_time; current_start = Some t; total = m.total; records = m.records; rtt_sum = m.rtt_sum }
turned m (Some s) t =
    record { total_time = span_sum m.total_time (since t s); current_start = None; total = m.total; records = m.records; rtt_sum = m.rtt_sum }

-- 18 where the meter is switched to the state it has
unfoldable pub switched_of : AverageFlowMeter → Bool → Time → Metered
switched_of m on t =
    cond (ready m t && not (beq on (is_on m.current_start)))
    (taken (turned m m.current_start t))
    (unchanged m)

-- one packet more counted
abbrev pub counted_of : AverageFlowMeter → Information → TimeSpan → AverageFlowMeter
counted_of m bits rtt =
    record {
      total_time = m.total_time;
      current_start = m.current_start;
      total = amount_of (m.total.0 + bits.0);
      records = m.records + 1;
      rtt_sum = span_of (summed_of m.records m.rtt_sum.0 rtt.0);
    }

-- 18 where the RTT is not in 0..2^41, the bits not in 1..2^24, or 2^24 records are held
unfoldable pub recorded_of : AverageFlowMeter → Information → TimeSpan → Time → Metered
recorded_of m bits rtt t =
    let fine = ready m t && in_range zero_f (power 41) rtt.0 && leb 1 bits.0 && leb bits.0 16777216 && ltb m.records 16777216 in
    cond fine (taken (counted_of m bits rtt)) (unchanged m)

-- the same of a packet's bits and RTT
abbrev pub received_of : AverageFlowMeter → Reception → Time → Metered
received_of m p t = recorded_of m p.«data» p.rtt t

-- the enabled time so far
unfoldable pub enabled_time : AverageFlowMeter → Time → TimeSpan
enabled_time m t = enabled_from m.total_time m.current_start
  where
    enabled_from : TimeSpan → Option Time → TimeSpan
    enabled_from total None = span_sum total (span_of zero_f)
    enabled_from total (Some s) = span_sum total (since t s)

-- 16 where the enabled time is 0, which is the lowest number; else 18 where the meter or the time is unfit.
-- Rate: counted bits / enabled time so far.
unfoldable pub read_of : AverageFlowMeter → Time → FlowAnswer
read_of m t =
    cond (eq (enabled_time m t).0 zero_f) (refusal 16)
    (cond (ready m t) (record { number = 0; throughput = amount_over_span m.total (enabled_time m t); rtt = average_rtt m.records m.rtt_sum }) (refusal 18))

-- the number and the values of each case of a read's answer
abbrev pub told_read : Result FlowProperties FlowReadError → FlowAnswer
told_read (Ok f) = record { number = 0; throughput = f.throughput; rtt = f.rtt }
told_read (Err NeverActive) = refusal 16
told_read (Err Refused) = refusal 18
