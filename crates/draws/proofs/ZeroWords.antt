-- No generator that is made holds four zero words, and no step of xoshiro256++ leads to them from other words. The words of the step may be any numbers, also such as
-- no 64 bits hold. Assumes nothing.
use Rattle.std.proofs.Common.{◌≡◌, ℕ, zero, suc, ◌+◌, ◌*◌, ◌/◌, ◌%◌, ◌^◌, ◌<◌, Bool, true, false, cond, ◌&&◌, eqb, sym, refl, ap, ◌∙◌, ap₂, add-zero, lt_irrefl, mod-eq_of_lt, mul_assoc, div-add-mod', mul-one, mul-add, mul_right_comm, arith, eqb-true}
use mathlib.Core.Bool.{false≢true}
use native.Mathlib.Nat.{mul-mod_left, div-lt_self}
use lib.Bits.{bit_xor, bit_or, xor_add_and, or_add_and, and_le_l, and_le_r, xor_lt}
use lib.Ieee.{lt}
use Rattle.quantities.specs.Doubles.{zero_f}
use Rattle.draws.specs.declared.generator.Rng.{Rng}
use Rattle.draws.specs.declared.distribution.ContinuousDistribution.{ContinuousDistribution}
use Rattle.draws.specs.declared.distribution.ContinuousDistribution.TheVariants.{Always, Uniform}
use Rattle.draws.specs.SplitMix64.{folded, mixed, incremented}
use Rattle.draws.specs.Generator.{words_of, rotl_of, moved_on, from_seed, all_zero, replaced, from_words, child_of}
use Rattle.draws.specs.Draws.{unit_of, draw_of, redraw}
use Rattle.draws.specs.ZeroWords.{ZeroWords}

-- ---- a word

-- two words whose exclusive or is 0 are equal
xor_same : (a b : ℕ) → bit_xor a b ≡ 0 → a ≡ b
xor_same a b e = omega (arith, xor_add_and a b, and_le_l a b, and_le_r a b)

or_zeros : (a b : ℕ) → bit_or a b ≡ 0 → (a ≡ 0) × (b ≡ 0)
or_zeros a b e =
    let sum = or_add_and a b in
    let left = and_le_l a b in
    let right = and_le_r a b in
    (omega (arith, sum, right), omega (arith, sum, left))

-- a rotation loses no place
rotl_zero : (x : ℕ) → rotl_of x 45 ≡ 0 → x ≡ 0
rotl_zero x e =
    let parts = or_zeros (x * 2 ^ 45 % 2 ^ 64) (x / 2 ^ 19) e in
    let high : x / 524288 ≡ 0 = parts.1 in
    let low : x * 35184372088832 ≡ 0 = sym (mod-eq_of_lt (omega arith)) ∙ parts.0 in
    omega arith

-- an odd factor loses none modulo 2 ^ 64: it has an inverse there
module _ (x m inverse : ℕ) (narrow : x < 18446744073709551616) (one : m * inverse % 18446744073709551616 ≡ 1) where
  odd_zero : x * m % 18446744073709551616 ≡ 0 → x ≡ 0
  odd_zero e =
      let N : ℕ = 18446744073709551616 in
      let turns = m * inverse / N in
      let rounds = x * m / N in
      let product : rounds * N ≡ x * m = sym (add-zero (rounds * N)) ∙ ap (λ (r : ℕ). rounds * N + r) (sym e) ∙ div-add-mod' (x * m) N in
      let unit : turns * N + 1 ≡ m * inverse = ap (λ (r : ℕ). turns * N + r) (sym one) ∙ div-add-mod' (m * inverse) N in
      let left : x * (m * inverse) ≡ x * turns * N + x = ap (λ (k : ℕ). x * k) (sym unit) ∙ mul-add x (turns * N) 1 ∙ ap₂ ◌+◌ (sym (mul_assoc x turns N)) (mul-one x) in
      let right : x * (m * inverse) ≡ rounds * inverse * N = sym (mul_assoc x m inverse) ∙ ap (λ (k : ℕ). k * inverse) (sym product) ∙ mul_right_comm rounds N inverse in
      multiple (x * turns) (rounds * inverse) (sym left ∙ right)
    where
      multiple : (a b : ℕ) → a * 18446744073709551616 + x ≡ b * 18446744073709551616 → x ≡ 0
      multiple a b e = omega arith

-- what a shift by 17 places leaves as it was
shift_same : (x : ℕ) → x ≡ x * 2 ^ 17 % 2 ^ 64 → x ≡ 0
shift_same x e =
    let same : x ≡ x * 131072 % 18446744073709551616 = e in
    let rounds = x * 131072 / 18446744073709551616 in
    let whole : x * 131071 ≡ rounds * 18446744073709551616 = omega arith in
    odd_zero x 131071 18444492256715866111 (omega arith) refl (ap (λ (n : ℕ). n % 18446744073709551616) whole ∙ mul-mod_left rounds 18446744073709551616)

-- ---- four words

abbrev Zeros : Rng → Type 0
Zeros g = (g.s0 ≡ 0) × (g.s1 ≡ 0) × (g.s2 ≡ 0) × (g.s3 ≡ 0)

zeros-all : (g : Rng) → Zeros g → all_zero g ≡ true
unfolding all_zero
zeros-all g z = simp (z.0, z.1, z.2, z.3)

-- where the test passes, each word is zero
tested : (a b c d : Bool) → (a && b && c && d) ≡ true → (a ≡ true) × (b ≡ true) × (c ≡ true) × (d ≡ true)
tested true true true d e = (refl, refl, refl, e)
tested true true false d e = absurd (false≢true e)
tested true false c d e = absurd (false≢true e)
tested false b c d e = absurd (false≢true e)

all_zeros : (g : Rng) → all_zero g ≡ true → Zeros g
unfolding all_zero
all_zeros g e =
    let t = tested (eqb g.s0 0) (eqb g.s1 0) (eqb g.s2 0) (eqb g.s3 0) e in
    (eqb-true g.s0 0 t.0, eqb-true g.s1 0 t.1, eqb-true g.s2 0 t.2, eqb-true g.s3 0 t.3)

not_all : (g : Rng) → (Zeros g → ⊥) → all_zero g ≡ false
not_all g some = by (all_zero g) refl
  where
    by : (b : Bool) → all_zero g ≡ b → all_zero g ≡ false
    by true e = absurd (some (all_zeros g e))
    by false e = e

-- ---- a step

step_back : (g : Rng) → Zeros (moved_on g) → Zeros g
unfolding moved_on
step_back g z =
    let t2 = bit_xor g.s2 g.s0 in
    let t3 = bit_xor g.s3 g.s1 in
    let none : t3 ≡ 0 = rotl_zero t3 z.3 in
    let first : g.s0 ≡ 0 = xor_same g.s0 t3 z.0 ∙ none in
    let same : g.s1 ≡ t2 = xor_same g.s1 t2 z.1 in
    let second : g.s1 ≡ 0 = shift_same g.s1 (same ∙ xor_same t2 (g.s1 * 2 ^ 17 % 2 ^ 64) z.2) in
    (first, second, xor_same g.s2 g.s0 (sym same ∙ second) ∙ first, xor_same g.s3 g.s1 none ∙ second)

step : (g : Rng) → all_zero g ≡ false → all_zero (moved_on g) ≡ false
step g e = not_all (moved_on g) (λ z. false≢true (sym e ∙ zeros-all g (step_back g z)))

-- ---- draws

draw-words : (d : ContinuousDistribution) (g : Rng) → all_zero g ≡ false → all_zero (draw_of d g).rng ≡ false
unfolding draw_of unit_of
draw-words (Always v) g e = e
draw-words (Uniform min max) g e = step g e

redraw-words : (tries : ℕ) (d : ContinuousDistribution) (g : Rng) → all_zero g ≡ false → all_zero (redraw tries d g).rng ≡ false
unfolding redraw
redraw-words zero d g e = e
redraw-words (suc tries) d g e = by (lt zero_f (draw_of d g).value) refl (redraw-words tries d (draw_of d g).rng (draw-words d g e))
  where
    by : (b : Bool) → lt zero_f (draw_of d g).value ≡ b → all_zero (redraw tries d (draw_of d g).rng).rng ≡ false → all_zero (redraw (suc tries) d g).rng ≡ false
    by true t later = rw t (draw-words d g e)
    by false t later = rw t later

-- ---- seeds

-- a word that is its own upper part is 0
fold_zero : (m x : ℕ) → 1 < m → bit_xor x (x / m) ≡ 0 → x ≡ 0
fold_zero m zero h e = refl
fold_zero m (suc x) h e =
    let same : suc x ≡ suc x / m = xor_same (suc x) (suc x / m) e in
    let less : suc x / m < suc x = div-lt_self (omega arith) h in
    absurd (lt_irrefl (suc x) (rw (← same) at less))

-- SplitMix64's mixing gives 0 for 0 alone
mixed_zero : (x : ℕ) → x < 2 ^ 64 → mixed x ≡ 0 → x ≡ 0
unfolding mixed
mixed_zero x h e =
    let y = folded 30 x * 0xbf58476d1ce4e5b9 % 2 ^ 64 in
    let z = folded 27 y * 0x94d049bb133111eb % 2 ^ 64 in
    let last : z ≡ 0 = fold_zero (2 ^ 31) z (omega arith) e in
    let middle : folded 27 y ≡ 0 = odd_zero (folded 27 y) 0x94d049bb133111eb 0x319642b2d24d8ec3 (xor_lt 64 y (y / 2 ^ 27) (omega arith) (omega arith)) refl last in
    let first : folded 30 x ≡ 0 =
    odd_zero (folded 30 x) 0xbf58476d1ce4e5b9 0x96de1b173f119089 (xor_lt 64 x (x / 2 ^ 30) h (omega arith)) refl (fold_zero (2 ^ 27) y (omega arith) middle) in
    fold_zero (2 ^ 30) x (omega arith) first

-- two counters in a row are not both 0
seed : (n : ℕ) → all_zero (from_seed n) ≡ false
unfolding from_seed
seed n = not_all (from_seed n) both
  where
    both : Zeros (from_seed n) → ⊥
    both z =
        let a : incremented n ≡ 0 = mixed_zero (incremented n) (omega arith) z.0 in
        let b : incremented (incremented n) ≡ 0 = mixed_zero (incremented (incremented n)) (omega arith) z.1 in
        omega (arith, a, b)

-- ---- what is replaced

replaced-words : (g : Rng) → all_zero (replaced g) ≡ false
unfolding replaced
replaced-words g = by (all_zero g) refl
  where
    by : (b : Bool) → all_zero g ≡ b → all_zero (cond b (from_seed 0) g) ≡ false
    by true e = seed 0
    by false e = e

-- words that are not all zero are taken as they are
kept : (g : Rng) → all_zero g ≡ false → replaced g ≡ g
unfolding replaced
kept g e = rw e

pub zero_words : ZeroWords
unfolding from_words child_of
zero_words =
    record {
      zeros = unfold replaced all_zero in refl;
      others = λ a b c d no.
          ap words_of (kept (record { s0 = a; s1 = b; s2 = c; s3 = d })
          (not_all (record { s0 = a; s1 = b; s2 = c; s3 = d }) (λ z. no (rw (z.0, z.1, z.2, z.3)))));
      seed = seed;
      given = λ a b c d. replaced-words (record { s0 = a; s1 = b; s2 = c; s3 = d });
      child = λ g. replaced-words _;
      step = step;
      redrawn = λ d g e. redraw-words 8 d g e;
    }
