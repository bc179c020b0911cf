-- A number of i digits is below 16 to the power i. Assumes nothing.
use Prim.Native.Nat.{ℕ, ◌+◌, ◌*◌, ◌^◌, ◌≤◌, ◌<◌}
use mathlib.Core.Path.{◌≡◌}
use native.Mathlib.Nat.{lt_of_lt_of_le, pow-le-pow_right, pow-suc}
use native.Mathlib.Numerals.{add-one}
use native.Mathlib.Omega.{arith}

-- with a digit more
module _ (n d i : ℕ) (h : n < 16 ^ i) (l : d < 16) where
  pub digit_more : n * 16 + d < 16 ^ (i + 1)
  digit_more = let e : 16 ^ (i + 1) ≡ 16 ^ i * 16 = rw (add-one i) (pow-suc 16 i) in omega (arith, e)

  -- 16 digits are 64 bits
  pub digit_fits : i < 16 → n * 16 + d < 2 ^ 64
  digit_fits k =
      let base : 0 < 16 = omega arith in
      let most : i + 1 ≤ 16 = omega arith in
      lt_of_lt_of_le digit_more (pow-le-pow_right base most)
