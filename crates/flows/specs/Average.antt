-- Document 01, "Meter" and row 17 of "Stops": the mean over a list of flow records. Definitions only.
use Rattle.std.specs.Prelude.{ℕ, ◌+◌, Bool, true, ◌&&◌, cond, List, [], ◌∷◌, length, leb, ltb, Float, Result, Ok, Err}
use Rattle.std.specs.Float.{binary64}
use Rattle.std.specs.Float.Ieee.{add}
use Rattle.quantities.specs.declared.time_span.TimeSpan.{TimeSpan}
use Rattle.quantities.specs.Doubles.{zero_f, power, in_range}
use Rattle.quantities.specs.Units.{span_of, rate_of, rate_over}
use Rattle.flows.specs.declared.flow.FlowProperties.{FlowProperties}
use Rattle.flows.specs.declared.sums.FlowSum.{FlowSum}
use Rattle.flows.specs.declared.sums.NoMean.{NoMean}
use Rattle.flows.specs.declared.flow.NoPacketsAcked.{NoPacketsAcked}
use Rattle.flows.specs.Sums.{summed_of, average_rtt, FlowAnswer, refusal}

-- ---- the mean of a list

-- the rate, and the RTT where present, in 0..2^60
abbrev pub rtt_fit : Result TimeSpan NoPacketsAcked → Bool
rtt_fit (Err e) = true
rtt_fit (Ok t) = in_range zero_f (power 60) t.0

unfoldable pub member_fit : FlowProperties → Bool
member_fit f = in_range zero_f (power 60) f.throughput.0 && rtt_fit f.rtt

abbrev pub members_fit : List FlowProperties → Bool
members_fit [] = true
members_fit (f ∷ fs) = member_fit f && members_fit fs

-- the members' rates, and the RTTs of the members that have one, in list order
abbrev pub rates : List FlowProperties → List Float
rates [] = []
rates (f ∷ fs) = f.throughput.0 ∷ rates fs

abbrev pub with_rtt : Result TimeSpan NoPacketsAcked → List Float → List Float
with_rtt (Err e) xs = xs
with_rtt (Ok t) xs = t.0 ∷ xs

abbrev pub rtts : List FlowProperties → List Float
rtts [] = []
rtts (f ∷ fs) = with_rtt f.rtt (rtts fs)

-- a sum that adds in list order: the first value stands as it is
abbrev pub sum_from : Float → List Float → Float
sum_from sum [] = sum
sum_from sum (x ∷ xs) = sum_from (add binary64 sum x) xs

abbrev pub sum_of : List Float → Float
sum_of [] = zero_f
sum_of (x ∷ xs) = sum_from x xs

-- 17 where the list is empty, over 65,536, or has a member out of range; else the sums divided by their counts
unfoldable pub average_of : List FlowProperties → FlowAnswer
average_of fs =
    cond (ltb 0 (length fs) && leb (length fs) 65536 && members_fit fs)
    (record {
      number = 0;
      throughput = rate_over (rate_of (sum_of (rates fs))) (length fs);
      rtt = average_rtt (length (rtts fs)) (span_of (sum_of (rtts fs)));
    })
    (refusal 17)

-- ---- the aggregator: one record at a time

abbrev pub start_of : FlowSum
start_of = record { count = 0; throughput = rate_of zero_f; rtt_count = 0; rtt = span_of zero_f }

abbrev pub rtt_count_of : ℕ → Result TimeSpan NoPacketsAcked → ℕ
rtt_count_of n (Err e) = n
rtt_count_of n (Ok t) = n + 1

abbrev pub rtt_sum_of : ℕ → TimeSpan → Result TimeSpan NoPacketsAcked → TimeSpan
rtt_sum_of n sum (Err e) = sum
rtt_sum_of n sum (Ok t) = span_of (summed_of n sum.0 t.0)

unfoldable pub added_of : FlowSum → FlowProperties → Result FlowSum NoMean
added_of s f =
    cond (ltb s.count 65536 && leb s.rtt_count s.count && member_fit f)
    (Ok (record {
      count = s.count + 1;
      throughput = rate_of (summed_of s.count s.throughput.0 f.throughput.0);
      rtt_count = rtt_count_of s.rtt_count f.rtt;
      rtt = rtt_sum_of s.rtt_count s.rtt f.rtt;
    }))
    (Err (record {}))

unfoldable pub mean_of : FlowSum → FlowAnswer
mean_of s =
    cond (ltb 0 s.count)
    (record { number = 0; throughput = rate_over s.throughput s.count; rtt = average_rtt s.rtt_count s.rtt })
    (refusal 17)

-- the number and the values of each case of a mean's answer
abbrev pub told_mean : Result FlowProperties NoMean → FlowAnswer
told_mean (Ok f) = record { number = 0; throughput = f.throughput; rtt = f.rtt }
told_mean (Err e) = refusal 17
