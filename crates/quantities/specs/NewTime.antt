-- Document 02, K6: what is asked of a new time. Every time that a tick works out (earliest start, due, toggle, timer) is a span after the clock. Definitions only.
use Rattle.std.specs.Prelude.{T}
use Rattle.std.specs.Float.{binary64}
use Rattle.std.specs.Float.Ieee.{le, fits}
use Rattle.quantities.specs.declared.time.Time.{Time}
use Rattle.quantities.specs.Doubles.{least, largest, in_range}

-- finite, and not below the clock
pub record FineTime (clock t : Time) : Type 0 where
  pub finite : T (in_range least largest t.0.0)
  pub ahead : T (le clock.0.0 t.0.0)

-- a double, as every time in code is; the number of a definition may have more digits
abbrev pub Double : Time → Type 0
Double t = T (fits binary64 t.0.0)
