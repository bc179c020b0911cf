-- Document 01, "Draws": the generator is xoshiro256++, four 64-bit words (D. Blackman, S. Vigna, "Scrambled linear pseudorandom number generators", 2021;
-- xoshiro256plusplus.c). A seed gives them as four SplitMix64 outputs. A child's words are four successive outputs of its parent. Four zero words, given or drawn
-- for a child, are replaced by the words of seed 0 (document 02, K5). Definitions only.
use Rattle.std.specs.Prelude.{ℕ, ◌+◌, ◌-◌, ◌*◌, ◌/◌, ◌%◌, ◌^◌, Bool, cond, ◌&&◌, List, [], ◌∷◌, ◌==◌, bit_or, bit_xor}
use Rattle.draws.specs.declared.generator.Rng.{Rng}
use Rattle.draws.specs.declared.generator.Drawn.{Drawn}
use Rattle.draws.specs.declared.generator.Child.{Child}
use Rattle.draws.specs.SplitMix64.{mixed, incremented}

-- the four words, in order
abbrev pub words_of : Rng → List ℕ
words_of g = g.s0 ∷ g.s1 ∷ g.s2 ∷ g.s3 ∷ []

-- x rotated to the left by k of its 64 places
abbrev pub rotl_of : ℕ → ℕ → ℕ
rotl_of x k = bit_or (x * 2 ^ k % 2 ^ 64) (x / 2 ^ (64 - k))

-- the output: rotl(s0 + s3, 23) + s0
unfoldable pub output_of : Rng → ℕ
output_of g = (rotl_of ((g.s0 + g.s3) % 2 ^ 64) 23 + g.s0) % 2 ^ 64

-- the words after it
unfoldable pub moved_on : Rng → Rng
moved_on g =
    let t2 = bit_xor g.s2 g.s0 in
    let t3 = bit_xor g.s3 g.s1 in
    record { s0 = bit_xor g.s0 t3; s1 = bit_xor g.s1 t2; s2 = bit_xor t2 (g.s1 * 2 ^ 17 % 2 ^ 64); s3 = rotl_of t3 45 }

abbrev pub next_of : Rng → Drawn ℕ
next_of g = record { value = output_of g; rng = moved_on g }

-- the generator of a seed; its words are taken as they are
unfoldable pub from_seed : ℕ → Rng
from_seed seed =
    let a = incremented seed in
    let b = incremented a in
    let c = incremented b in
    let d = incremented c in
    record { s0 = mixed a; s1 = mixed b; s2 = mixed c; s3 = mixed d }

-- four zero words
unfoldable pub all_zero : Rng → Bool
all_zero g = g.s0 == 0 && g.s1 == 0 && g.s2 == 0 && g.s3 == 0

-- Four zero words are replaced by the words of seed 0.
unfoldable pub replaced : Rng → Rng
replaced g = cond (all_zero g) (from_seed 0) g

-- the generator that is given these words
unfoldable pub from_words : ℕ → ℕ → ℕ → ℕ → Rng
from_words a b c d = replaced (record { s0 = a; s1 = b; s2 = c; s3 = d })

-- a child of a generator, and the parent after it
unfoldable pub child_of : Rng → Child
child_of g =
    let h = moved_on g in
    let i = moved_on h in
    let j = moved_on i in
    record { child = replaced (record { s0 = output_of g; s1 = output_of h; s2 = output_of i; s3 = output_of j }); parent = moved_on j }
