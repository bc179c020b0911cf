-- One turn of the redraw: what it gives after n draws that were not positive. Assumes nothing.
use Rattle.std.proofs.Common.{◌≡◌, ℕ, suc, ◌+◌, ◌-◌, ◌<◌, ◌≤◌, true, false, Float, Some, None, arith}
use lib.Ieee.{lt}
use Rattle.quantities.specs.Doubles.{zero_f}
use Rattle.draws.specs.declared.generator.Rng.{Rng}
use Rattle.draws.specs.declared.distribution.ContinuousDistribution.{ContinuousDistribution}
use Rattle.draws.specs.declared.generator.Drawn.{Drawn}
use Rattle.draws.specs.Draws.{draw_of, redraw, told_sample}

pub spent : (d : ContinuousDistribution) (g : Rng) (n : ℕ) → 8 ≤ n → told_sample None g ≡ redraw (8 - n) d g
unfolding redraw
spent d g n h = let none : 8 - n ≡ 0 = omega arith in rw none

module _ (d : ContinuousDistribution) (g : Rng) (n : ℕ) (h : n < 8) (s : Drawn Float) (e : s ≡ draw_of d g) where
  one_left : 8 - n ≡ suc (8 - (n + 1))
  one_left = omega arith

  pub positive : lt zero_f s.value ≡ true → told_sample (Some s.value) s.rng ≡ redraw (8 - n) d g
  unfolding redraw
  positive t = rw (one_left, ← e, t)

  pub again : lt zero_f s.value ≡ false → redraw (8 - (n + 1)) d s.rng ≡ redraw (8 - n) d g
  unfolding redraw
  again t = rw (one_left, ← e, t)
