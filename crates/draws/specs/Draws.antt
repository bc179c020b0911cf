-- Document 01, "Draws": samples, distributions and the redraw. Definitions only.
use Rattle.std.specs.Prelude.{ℕ, zero, suc, ◌/◌, cond, pos, Float, Option, Some, None}
use Rattle.std.specs.Float.{binary64}
use Rattle.std.specs.Float.Ieee.{add, sub, mul, div, lt, of_int}
use Rattle.quantities.specs.Doubles.{zero_f, power}
use Rattle.draws.specs.declared.generator.Rng.{Rng}
use Rattle.draws.specs.declared.distribution.ContinuousDistribution.{ContinuousDistribution}
use Rattle.draws.specs.declared.distribution.ContinuousDistribution.TheVariants.{Always, Uniform}
use Rattle.draws.specs.declared.generator.Drawn.{Drawn}
use Rattle.draws.specs.Generator.{output_of, moved_on}

-- A sample in [0, 1) is k / 2 ^ 52, k the output divided by 4,096, rounded down.
unfoldable pub sample_of : ℕ → Float
sample_of output = div binary64 (of_int binary64 (pos (output / 4096))) (power 52)

-- one word drawn, and its sample
unfoldable pub unit_of : Rng → Drawn Float
unit_of g = record { value = sample_of (output_of g); rng = moved_on g }

-- sample × (max - min) + min
unfoldable pub uniform_of : Float → Float → Float → Float
uniform_of sample min max = add binary64 (mul binary64 sample (sub binary64 max min)) min

-- Uniform: sample × (max - min) + min. Always: the value, no word drawn.
unfoldable pub draw_of : ContinuousDistribution → Rng → Drawn Float
draw_of (Always v) g = record { value = v; rng = g }
draw_of (Uniform min max) g = record { value = uniform_of (unit_of g).value min max; rng = (unit_of g).rng }

-- ---- the redraw

-- What a redraw gives in document 01's terms: its number, the sample (0 where there is none), and the generator after it.
pub record PositiveDraw : Type 0 where
  pub number : ℕ
  pub value : Float
  pub rng : Rng

-- The number and the values of each case of the answer: 0 for a positive sample, and 8 for eight draws in a row that are not positive.
abbrev pub told_sample : Option Float → Rng → PositiveDraw
told_sample (Some x) g = record { number = 0; value = x; rng = g }
told_sample None g = record { number = 8; value = zero_f; rng = g }

abbrev pub told_positive : Drawn (Option Float) → PositiveDraw
told_positive d = told_sample d.value d.rng

-- On and off times redraw until a sample is positive, at most so many times.
unfoldable pub redraw : ℕ → ContinuousDistribution → Rng → PositiveDraw
redraw zero d g = record { number = 8; value = zero_f; rng = g }
redraw (suc tries) d g =
    let s = draw_of d g in
    cond (lt zero_f s.value) (record { number = 0; value = s.value; rng = s.rng }) (redraw tries d s.rng)

-- at most eight
abbrev pub positive_of : ContinuousDistribution → Rng → PositiveDraw
positive_of = redraw 8
