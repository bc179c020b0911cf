-- Document 01, "Quantities": `Time`, `TimeSpan`, `Information`, `InformationRate` and the operations between them. Definitions only.
-- All but the amount of bits are doubles. Each operation is one of IEEE 754's, so it rounds once; an amount or a count becomes a double first (`as_double`).
use Rattle.std.specs.Prelude.{ℕ, pos, Float, Option, Some, None}
use Rattle.std.specs.Float.{binary64}
use Rattle.std.specs.Float.Ieee.{add, sub, div, of_int}
use Rattle.quantities.specs.declared.time.Time.{Time}
use Rattle.quantities.specs.declared.time_span.TimeSpan.{TimeSpan}
use Rattle.quantities.specs.declared.information.Information.{Information}
use Rattle.quantities.specs.declared.information_rate.InformationRate.{InformationRate}
use Rattle.quantities.specs.Doubles.{earlier, later}

-- ---- a unit around its number
abbrev pub span_of : Float → TimeSpan
span_of x = record { 0 = x }

abbrev pub time_of : Float → Time
time_of x = record { 0 = span_of x }

abbrev pub amount_of : ℕ → Information
amount_of n = record { 0 = n }

abbrev pub rate_of : Float → InformationRate
rate_of x = record { 0 = x }

-- a whole number as a double, to the nearest
abbrev pub as_double : ℕ → Float
as_double n = of_int binary64 (pos n)

-- ---- moments and spans

-- a moment less a moment
abbrev pub since : Time → Time → TimeSpan
since t u = span_of (sub binary64 t.0.0 u.0.0)

-- a moment plus a span
abbrev pub span_after : Time → TimeSpan → Time
span_after t d = time_of (add binary64 t.0.0 d.0)

abbrev pub span_sum : TimeSpan → TimeSpan → TimeSpan
span_sum d e = span_of (add binary64 d.0 e.0)

-- a span over a count
abbrev pub span_over : TimeSpan → ℕ → TimeSpan
span_over d n = span_of (div binary64 d.0 (as_double n))

-- the earlier and the later of two moments; of two that are equal, the first
abbrev pub earliest_of : Time → Time → Time
earliest_of t u = time_of (earlier t.0.0 u.0.0)

abbrev pub latest_of : Time → Time → Time
latest_of t u = time_of (later t.0.0 u.0.0)

-- the earlier of those that are there
abbrev pub earliest_opt_of : Option Time → Option Time → Option Time
earliest_opt_of None b = b
earliest_opt_of (Some t) None = Some t
earliest_opt_of (Some t) (Some u) = Some (earliest_of t u)

-- ---- amounts and rates

-- an amount over a rate: the bits as a double, divided
abbrev pub amount_over_rate : Information → InformationRate → TimeSpan
amount_over_rate n r = span_of (div binary64 (as_double n.0) r.0)

-- an amount over a span
abbrev pub amount_over_span : Information → TimeSpan → InformationRate
amount_over_span n d = rate_of (div binary64 (as_double n.0) d.0)

-- a rate over a count
abbrev pub rate_over : InformationRate → ℕ → InformationRate
rate_over r n = rate_of (div binary64 r.0 (as_double n))
