-- The points of four zero words: computed, or read off `ZeroWords`. Assumes nothing.
use mathlib.Core.Path.{◌≡◌, refl, sym, ap, ◌∙◌}
use mathlib.Core.Bool.{false, false≢true}
use mathlib.Core.List.{[], ◌∷◌}
use Prim.Native.Nat.{ℕ, ◌+◌, ◌≤◌}
use native.Mathlib.Omega.{arith}
use Rattle.draws.specs.declared.generator.Rng.{Rng}
use Rattle.draws.specs.Generator.{words_of, all_zero, from_words}
use Rattle.draws.proofs.ZeroWords.{zero_words}
use Rattle.draws.specs.Generator.{from_seed}
use Rattle.remy.specs.State.{line_at, sender_at, toggler_at}
use Rattle.remy.specs.Build.{build_of}
use Rattle.remy.proofs.Opened.{draws, building, fitting}
use Rattle.points.specs.Worked.{worked}
use Rattle.points.specs.Unfit.{own_words, toggle_words, busy, there_and_back, returning, with_link_words, words_only, link_words, Unfit, Fit}
use Rattle.points.specs.Points.{Hold, outputs}
use Rattle.points.specs.Words.{zeros, words}
use Rattle.points.proofs.Claims.{◌and◌}

-- where the test finds a word that is not zero, the generator is not that of four zeros
apart : (g : Rng) → all_zero g ≡ false → g ≡ zeros → ⊥
unfolding all_zero
apart g e same = false≢true (sym e ∙ ap all_zero same)

taken : (a b c d : ℕ) → 1 ≤ a + b + c + d → words_of (from_words a b c d) ≡ a ∷ b ∷ c ∷ d ∷ []
taken a b c d some =
    zero_words.others a b c d
    (λ e. let z0 : a ≡ 0 = cc in let z1 : b ≡ 0 = cc in let z2 : c ≡ 0 = cc in let z3 : d ≡ 0 = cc in omega arith)

words-given : ((line_at (build_of there_and_back 1).simulation 0).rng ≡ words_only 14971601782005023387 13781649495232077965 1847458086238483744 13765271635752736470)
    × ((sender_at (build_of there_and_back 1).simulation 0).rng ≡ own_words)
    × ((toggler_at (build_of there_and_back 1).simulation 0).rng ≡ toggle_words)
    × ((line_at (build_of there_and_back 1).simulation 1).rng ≡ words_only 1336129645694042326 7278725533440954441 1650926874576718010 2884092293074692283)
unfolding building
words-given = (refl, refl, refl, refl)

words-held : (line_at (build_of worked 1).simulation 1).rng ≡ from_seed 0
unfolding building
words-held = refl

zeros-unfit : Unfit (link_words ∷ []) (with_link_words returning 1 zeros)
unfolding fitting returning
zeros-unfit = (refl, refl)

zeros-held : Fit (with_link_words busy 1 zeros)
unfolding fitting busy
zeros-held = refl

pub words_hold : Hold words
unfolding draws outputs
words_hold =
    refl and refl and refl
    and refl and (λ n. ap (outputs n) zero_words.zeros)
    and refl and taken
    and refl and refl and refl
    and words-given.0 and words-given.1 and words-given.2 and words-given.3 and zeros-unfit
    and words-held and zeros-held
    and (λ n. apart _ (zero_words.seed n))
    and (λ a b c d. apart _ (zero_words.given a b c d))
    and (λ g. apart _ (zero_words.child g))
    and (λ g e. apart _ (zero_words.step g e))
    and (λ d g e. apart _ (zero_words.redrawn d g e))
    and tt
