-- The tests by which a program tells a NaN: of its bits, and of a double that differs from itself. Assumes nothing.
use Rattle.std.proofs.Common.{◌≡◌, ℕ, ◌%◌, ◌<◌, ◌≤◌, Bool, true, false, not, T, sym, refl, ◌∙◌, subst, true≢false, le-ltb, lt-ltb}
use lib.Ieee.{Float, nan, inf, fin, binary64, ne, is_nan, nan_bits, of_bits}
use lib.Ieee.Bits.{nan_bits_is, nan_bits_above}

is_nan_lem : (x : Float) → is_nan x ≡ true → nan ≡ x
unfolding is_nan
is_nan_lem nan e = refl
is_nan_lem (inf s) e = absurd (true≢false (sym e))
is_nan_lem (fin s m e') e = absurd (true≢false (sym e))

-- less its sign, a NaN's pattern is above that of an infinity
pub nan_above : (n : ℕ) → 9218868437227405312 < n % 9223372036854775808 → nan ≡ of_bits binary64 n
nan_above n h = is_nan_lem (of_bits binary64 n) (sym (nan_bits_is binary64 n) ∙ nan_bits_above binary64 n ∙ lt-ltb _ _ h)

pub not_above : (n : ℕ) → n % 9223372036854775808 ≤ 9218868437227405312 → T (not (nan_bits binary64 n))
not_above n h = subst (λ (b : Bool). T (not b)) (sym (nan_bits_above binary64 n ∙ le-ltb _ _ h)) tt

pub equals_itself : (x : Float) → ne x x ≡ false → T (not (is_nan x))
unfolding is_nan ne
equals_itself nan e = true≢false e
equals_itself (inf s) e = tt
equals_itself (fin s m e') e = tt
