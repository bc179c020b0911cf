-- Document 02, K5: points of four zero words, as one list of claims. Those that speak of every number follow from `ZeroWords` (the crate `draws`), a claim for each of its
-- clauses; the others are computed.
use Rattle.std.specs.Prelude.{◌≡◌, false, List, [], ◌∷◌, ℕ, ◌+◌, ◌≤◌}
use Rattle.draws.specs.declared.generator.Rng.{Rng}
use Rattle.draws.specs.declared.distribution.ContinuousDistribution.{ContinuousDistribution}
use Rattle.draws.specs.Generator.{words_of, moved_on, from_seed, all_zero, from_words, child_of}
use Rattle.draws.specs.Draws.{positive_of}
use Rattle.points.specs.Points.{outputs}
use Rattle.remy.specs.State.{line_at, sender_at, toggler_at}
use Rattle.remy.specs.Build.{build_of}
use Rattle.points.specs.Worked.{worked}
use Rattle.points.specs.Unfit.{own_words, toggle_words, busy, there_and_back, returning, with_link_words, words_only, link_words, Unfit, Fit}

abbrev pub zeros : Rng
zeros = words_only 0 0 0 0

abbrev pub words : List (Type 0)
words =
    -- The words of seed 0, which are not all zero, and its first outputs.
    (words_of (from_seed 0) ≡ 16294208416658607535 ∷ 7960286522194355700 ∷ 487617019471545679 ∷ 17909611376780542444 ∷ [])
    ∷ (all_zero (from_seed 0) ≡ false)
    ∷ (outputs 4 (from_seed 0) ≡ 5987356902031041503 ∷ 7051070477665621255 ∷ 6633766593972829180 ∷ 211316841551650330 ∷ [])
    -- Words 0,0,0,0 are replaced by them, and give its outputs, however many.
    ∷ (words_of (from_words 0 0 0 0) ≡ 16294208416658607535 ∷ 7960286522194355700 ∷ 487617019471545679 ∷ 17909611376780542444 ∷ [])
    ∷ ((n : ℕ) → outputs n (from_words 0 0 0 0) ≡ outputs n (from_seed 0))
    -- Words 0,0,0,1 are taken, and so are all of which one is not zero.
    ∷ (from_words 0 0 0 1 ≡ words_only 0 0 0 1)
    ∷ ((a b c d : ℕ) → 1 ≤ a + b + c + d → words_of (from_words a b c d) ≡ a ∷ b ∷ c ∷ d ∷ [])
    -- Four zero words give zeros for ever, and so would a child of theirs: it has the words of seed 0.
    ∷ (outputs 4 zeros ≡ 0 ∷ 0 ∷ 0 ∷ 0 ∷ [])
    ∷ (moved_on zeros ≡ zeros)
    ∷ ((child_of zeros).child ≡ from_seed 0)
    -- The parts' generators at seed 1: with a return line the second link's is the root's last child, after those of the sender and the toggler. Four zero words there are unfit.
    ∷ ((line_at (build_of there_and_back 1).simulation 0).rng ≡ words_only 14971601782005023387 13781649495232077965 1847458086238483744 13765271635752736470)
    ∷ ((sender_at (build_of there_and_back 1).simulation 0).rng ≡ own_words)
    ∷ ((toggler_at (build_of there_and_back 1).simulation 0).rng ≡ toggle_words)
    ∷ ((line_at (build_of there_and_back 1).simulation 1).rng ≡ words_only 1336129645694042326 7278725533440954441 1650926874576718010 2884092293074692283)
    ∷ Unfit (link_words ∷ []) (with_link_words returning 1 zeros)
    -- Without one none is drawn: seed 0's words are held there, and it may have four zero words.
    ∷ ((line_at (build_of worked 1).simulation 1).rng ≡ from_seed 0)
    ∷ Fit (with_link_words busy 1 zeros)
    -- No generator that is made has them, and no step or redraw leads to them.
    ∷ ((n : ℕ) → from_seed n ≡ zeros → ⊥)
    ∷ ((a b c d : ℕ) → from_words a b c d ≡ zeros → ⊥)
    ∷ ((g : Rng) → (child_of g).child ≡ zeros → ⊥)
    ∷ ((g : Rng) → all_zero g ≡ false → moved_on g ≡ zeros → ⊥)
    ∷ ((d : ContinuousDistribution) (g : Rng) → all_zero g ≡ false → (positive_of d g).rng ≡ zeros → ⊥)
    ∷ []
