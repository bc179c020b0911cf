-- Document 01, "Meter": sums in order, and their means; what a read and a mean answer. Definitions only.
use Rattle.std.specs.Prelude.{ℕ, cond, eqb, Float, Result, Ok, Err}
use Rattle.std.specs.Float.{binary64}
use Rattle.std.specs.Float.Ieee.{add}
use Rattle.quantities.specs.declared.time_span.TimeSpan.{TimeSpan}
use Rattle.flows.specs.declared.flow.NoPacketsAcked.{NoPacketsAcked}
use Rattle.quantities.specs.declared.information_rate.InformationRate.{InformationRate}
use Rattle.quantities.specs.Doubles.{zero_f}
use Rattle.quantities.specs.Units.{span_over, rate_of}

-- A sum of so many values, with one more. The first value stands as it is.
unfoldable pub summed_of : ℕ → Float → Float → Float
summed_of count sum next = cond (eqb count 0) next (add binary64 sum next)

-- no packet was acknowledged
abbrev pub no_rtt : Result TimeSpan NoPacketsAcked
no_rtt = Err (record {})

-- RTT: sum in order / count, absent if none.
unfoldable pub average_rtt : ℕ → TimeSpan → Result TimeSpan NoPacketsAcked
average_rtt count sum = cond (eqb count 0) no_rtt (Ok (span_over sum count))

-- What a read of a meter and a mean of flows give in document 01's terms: the number, and at 0 the rate and the RTT. A refusal has neither: rate 0, RTT absent.
pub record FlowAnswer : Type 0 where
  pub number : ℕ
  pub throughput : InformationRate
  pub rtt : Result TimeSpan NoPacketsAcked

abbrev pub refusal : ℕ → FlowAnswer
refusal n = record { number = n; throughput = rate_of zero_f; rtt = no_rtt }
