-- Document 02, K5: what is replaced, and that no generator holds four zero words. Claims only; proofs/ZeroWords proves them (`zero_words`).
use Rattle.std.specs.Prelude.{◌≡◌, ℕ, false, [], ◌∷◌, ◌≢◌}
use Rattle.draws.specs.declared.generator.Rng.{Rng}
use Rattle.draws.specs.declared.distribution.ContinuousDistribution.{ContinuousDistribution}
use Rattle.draws.specs.Generator.{words_of, moved_on, from_seed, all_zero, from_words, child_of}
use Rattle.draws.specs.Draws.{positive_of}

pub record ZeroWords : Type 0 where
  -- four zero words are replaced by the words of seed 0, and no others are replaced
  pub zeros : from_words 0 0 0 0 ≡ from_seed 0
  pub others : (a b c d : ℕ) → (a ∷ b ∷ c ∷ d ∷ [] ≢ 0 ∷ 0 ∷ 0 ∷ 0 ∷ []) → words_of (from_words a b c d) ≡ a ∷ b ∷ c ∷ d ∷ []
  -- no seed gives four zero words, no given words do, and no child has them
  pub seed : (n : ℕ) → all_zero (from_seed n) ≡ false
  pub given : (a b c d : ℕ) → all_zero (from_words a b c d) ≡ false
  pub child : (g : Rng) → all_zero (child_of g).child ≡ false
  -- no step leads to them from other words, and so no redraw, whether it is spent or not
  pub step : (g : Rng) → all_zero g ≡ false → all_zero (moved_on g) ≡ false
  pub redrawn : (d : ContinuousDistribution) (g : Rng) → all_zero g ≡ false → all_zero (positive_of d g).rng ≡ false
