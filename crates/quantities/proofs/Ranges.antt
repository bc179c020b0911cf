-- The ranges of sums, differences and quotients of finite doubles that are not below zero: due times, sending times, sums of samples.
-- `Within x hi` says that x is in 0..hi. A bound of a result is an inequality of fractions (`Values`), or it is the result at the ends of the operands' ranges.
-- Assumes nothing.
use Rattle.std.proofs.Common.{◌≡◌, ℕ, suc, ◌+◌, ◌-◌, ◌*◌, ◌^◌, ◌<◌, ◌≤◌, true, false, T, pos, negsuc, sym, refl, ap, ◌∙◌, subst, le_of_eq, lt_of_lt_of_le, le-add_right, le_of_lt, add-le-add, mul-le-mul_right, mul_assoc, suc-mul, mul_comm, add-mul, mul-le-mul, one-mul, zero-mul, mul-one, mul_left_comm, sub-le, arith, lit<, lit≤, pow_mono, pow-add, shl_lt}
use native.Mathlib.Nat
use lib.Ieee.{Float, fin, Format, binary64, round, add, sub, mul, div, le, eq, of_int, fits}
use lib.Ieee.Fits.{and_i, and_l, and_r}
use lib.Ieee.Back.{round_whole}
use lib.Ieee.Scale.{finite}
use lib.Ieee.Positive.{num, den, den_pos}
use Rattle.quantities.specs.declared.time.Time.{Time}
use Rattle.quantities.specs.declared.time_span.TimeSpan.{TimeSpan}
use Rattle.quantities.specs.Doubles.{zero_f, power, least, largest, in_range}
use Rattle.quantities.specs.Units.{span_after}
use Rattle.quantities.specs.NewTime.{FineTime, Double}
use Rattle.quantities.proofs.Order
use Rattle.quantities.proofs.Values.{Is, Held, Rounds, own, le_is, value_is, zero_is, finite_between, finite_known, held_rounds, fits_rounds, rounds_exact, rounds_mono, rounds_eq, rounds_above, rounds_below, rounds_from_zero, add_rounds, sub_rounds, mul_rounds, div_rounds}

-- ---- in 0..hi

abbrev pub Within : Float → Float → Type 0
Within x hi = T (le zero_f x) × T (le x hi)

-- what the test of a range says where it passes
pub test→within : (hi x : Float) → in_range zero_f hi x ≡ true → Within x hi
test→within hi x e =
    let t : T (in_range zero_f hi x) = subst T (sym e) tt in
    (and_l (le zero_f x) (le x hi) t, and_r (le zero_f x) (le x hi) t)

pub within-finite : (x hi : Float) → Within x hi → T (finite hi) → T (finite x)
within-finite x hi w t = finite_between x hi w.0 w.1 t

pub within_wider : (x hi hi' : Float) → Within x hi → T (le hi hi') → Within x hi'
within_wider x hi hi' w l = (w.0, Order.le_trans x hi hi' w.1 l)

within_is : (x hi : Float) → Within x hi → T (finite hi) → Is x (num x) (den x)
within_is x hi w t = own x (within-finite x hi w t) w.0

-- the upper end as a fraction: it is finite, and not below zero where something is within it
end_is : (x hi : Float) → Within x hi → T (finite hi) → Is hi (num hi) (den hi)
end_is x hi w t = own hi t (Order.le_trans zero_f x hi w.0 w.1)

ends_order : (x hi : Float) (w : Within x hi) (t : T (finite hi)) → num x * den hi ≤ num hi * den x
ends_order x hi w t = le_is (within_is x hi w t) (end_is x hi w t) w.1

-- ---- the operations keep the order

-- a / c ≤ a' / c', each written with a larger denominator
widen : (a c a' c' d d' : ℕ) → a * c' ≤ a' * c → a * d * (c' * d') ≤ a' * d' * (c * d)
widen a c a' c' d d' h = simp (mul_assoc, mul_comm, mul_left_comm) (simp (mul_assoc, mul_comm) at (mul-le-mul_right (d * d') h))

-- a / c ≤ a' / c' and b / d ≤ b' / d', so their sums and their products are in that order
sum_order : (a c a' c' b d b' d' : ℕ) → a * c' ≤ a' * c → b * d' ≤ b' * d → (a * d + b * c) * (c' * d') ≤ (a' * d' + b' * c') * (c * d)
sum_order a c a' c' b d b' d' h k =
    let l : a * d * (c' * d') ≤ a' * d' * (c * d) = widen a c a' c' d d' h in
    let r : b * c * (c' * d') ≤ b' * c' * (c * d) = rw (mul_comm c' d', mul_comm c d) (widen b d b' d' c c' k) in
    rw (add-mul (a * d) (b * c) (c' * d'), add-mul (a' * d') (b' * c') (c * d)) (add-le-add l r)

pub add_mono : (f : Format) (x x' y y' : Float) → Within x x' → Within y y' → T (finite x') → T (finite y')
    → T (le (add f x y) (add f x' y'))
add_mono f x x' y y' v w s t =
    rounds_mono (add_rounds f (within_is x x' v s) (within_is y y' w t)) (add_rounds f (end_is x x' v s) (end_is y y' w t))
    (sum_order (num x) (den x) (num x') (den x') (num y) (den y) (num y') (den y') (ends_order x x' v s) (ends_order y y' w t))

-- ---- sums

pub add_from_zero : (f : Format) (x y : Float) → T (finite x) → T (le zero_f x) → T (finite y) → T (le zero_f y) → T (le zero_f (add f x y))
add_from_zero f x y s v t w = rounds_from_zero (add_rounds f (own x s v) (own y t w))

-- a sum is not below either part that fits
pub add_above : (f : Format) (x y : Float) → T (fits f x) → T (finite x) → T (le zero_f x) → T (finite y) → T (le zero_f y) → T (le x (add f x y))
add_above f x y h s v t w = rounds_above f h (own x s v) (add_rounds f (own x s v) (own y t w)) (go (num x) (den x) (num y) (den y))
  where
    go : (a c b d : ℕ) → a * (c * d) ≤ (a * d + b * c) * c
    go a c b d = rw (add-mul (a * d) (b * c) c, mul_assoc a d c, mul_comm d c) (le-add_right (a * (c * d)) (b * c * c))

pub add-zero_f : (f : Format) (x : Float) → T (fits f x) → T (finite x) → T (le zero_f x) → T (eq (add f x zero_f) x)
add-zero_f f x h s v = rounds_eq (add_rounds f (own x s v) zero_is) (fits_rounds f h (own x s v)) (go (num x) (den x))
  where
    go : (a c : ℕ) → (a * 1 + 0 * c) * c ≡ a * (c * 1)
    go a c = simp (zero-mul, mul-one, Nat.add-zero)

-- the range of a sum, from the sum of the ends
pub add_within : (f : Format) (x x' y y' hi : Float) → Within x x' → Within y y' → T (finite x') → T (finite y')
    → T (le (add f x' y') hi) → T (finite hi)
    → T (finite (add f x y)) × Within (add f x y) hi
add_within f x x' y y' hi v w s t l u =
    let r : Within (add f x y) hi = (
      add_from_zero f x y (within-finite x x' v s) v.0 (within-finite y y' w t) w.0,
      Order.le_trans (add f x y) (add f x' y') hi (add_mono f x x' y y' v w s t) l,
    ) in
    (within-finite (add f x y) hi r u, r)

-- ---- new times: a clock up to 2 ^ 40, and a span up to 2 ^ 40 after it

module _ (clock : Time) (span : TimeSpan) (v : Within clock.0.0 (power 40)) (w : Within span.0 (power 40)) where
  after-within : Within (span_after clock span).0.0 (power 41)
  after-within = (add_within binary64 clock.0.0 (power 40) span.0 (power 40) (power 41) v w tt tt (unfold add le in tt) tt).1

  pub sum_held : T (le (span_after clock span).0.0 (power 41))
  sum_held = after-within.1

  pub sum_fine : Double clock → FineTime clock (span_after clock span)
  sum_fine double =
      let c = clock.0.0 in
      let t = (span_after clock span).0.0 in
      record {
        finite = and_i (le least t) (le t largest) (Order.le_trans least zero_f t (unfold le in tt) after-within.0) (Order.le_trans t (power 41) largest sum_held (unfold le in tt));
        ahead = add_above binary64 c span.0 double (within-finite c (power 40) v tt) v.0 (within-finite span.0 (power 40) w tt) w.0;
      }

-- due times do not fall
pub due_order : (f : Format) (c c' d : Float) → Within c c' → T (finite c') → T (finite d) → T (le zero_f d) → T (le (add f c d) (add f c' d))
due_order f c c' d v s t w = add_mono f c c' d d v (w, Order.le_refl d (finite_known d t)) s t

-- ---- differences

pub sub_within : (f : Format) (x y : Float) → T (fits f x) → T (finite x) → Within y x → T (finite (sub f x y)) × Within (sub f x y) x
sub_within f x y h s w =
    let p : Is x (num x) (den x) = end_is y x w s in
    let d : Rounds f (sub f x y) (num x * den y - num y * den x) (den x * den y) = sub_rounds f p (within_is y x w s) w.1 in
    let r : Within (sub f x y) x = (rounds_from_zero d, rounds_below f h p d (go (num x) (den x) (num y) (den y))) in
    (within-finite (sub f x y) x r s, r)
  where
    go : (a c b d : ℕ) → (a * d - b * c) * c ≤ a * (c * d)
    go a c b d = Nat.le_trans (mul-le-mul_right c (sub-le (a * d) (b * c))) (le_of_eq (mul_assoc a d c ∙ ap (λ (z : ℕ). a * z) (mul_comm d c)))

-- ---- the sending time of n bits at the rate r

pub whole_is : (n : ℕ) → n ≤ 2 ^ 53 → Is (of_int binary64 (pos n)) n 1
unfolding of_int
whole_is n h = value_is (round binary64 false n 1) false (lit< tt) absurd (round_whole binary64 false n h)

pub power_is : (k : ℕ) → Is (power k) (2 ^ k) 1
power_is k = value_is (power k) false (lit< tt) absurd (refl, ap (λ (z : ℕ). z * 1) (one-mul (2 ^ k)))

pub sending : (n : ℕ) (r : Float) → 1 ≤ n → n ≤ 2 ^ 24 → T (le (power 0) r) → T (le r (power 50))
    → T (finite (div binary64 (of_int binary64 (pos n)) r))
    × T (le (fin false 1 (negsuc 49)) (div binary64 (of_int binary64 (pos n)) r))
    × T (le (div binary64 (of_int binary64 (pos n)) r) (power 24))
sending n r h k v w =
    let x = div binary64 (of_int binary64 (pos n)) r in
    let from : T (le zero_f r) = Order.le_trans zero_f (power 0) r (unfold le in tt) v in
    let q : Is r (num r) (den r) = own r (finite_between r (power 50) from w tt) from in
    let lo : den r ≤ num r = simp (one-mul, mul-one) at (le_is (power_is 0) q v) in
    let hi : num r ≤ 2 ^ 50 * den r = simp mul-one at (le_is q (power_is 50) w) in
    let d : Rounds binary64 x (n * den r) (num r * 1) = div_rounds binary64 (whole_is n (Nat.le_trans k (lit≤ tt))) q (lt_of_lt_of_le (den_pos r) lo) in
    let top : T (le x (power 24)) = rounds_below binary64 (unfold fits in tt) (power_is 24) d (simp mul-one (mul-le-mul k lo)) in (
      finite_between x (power 24) (rounds_from_zero d) top tt,
      rounds_above binary64 (unfold fits in tt) (own (fin false 1 (negsuc 49)) tt (unfold le in tt)) d (slow (num r) (den r) (2 ^ 50) hi),
      top,
    )
  where
    slow : (a c p : ℕ) → a ≤ p * c → 1 * (a * 1) ≤ n * c * p
    slow a c p l =
        let e : c * p ≤ n * c * p = rw (mul_assoc n c p) (rw one-mul at (mul-le-mul_right (c * p) h)) in
        simp (one-mul, mul-one) (Nat.le_trans l (rw (mul_comm p c) e))

-- ---- sums of n samples that are up to 2 ^ k each

-- n * 2 ^ k. For an n up to 2 ^ 52 it is a double, so this bound of a sum of n is not rounded
abbrev pub limit : ℕ → ℕ → Float
limit k n = mul binary64 (of_int binary64 (pos n)) (power k)

shifted : (n k l : ℕ) → n * 2 ^ k * 2 ^ l ≡ n * 2 ^ (k + l) * 1
shifted n k l = mul_assoc n (2 ^ k) (2 ^ l) ∙ ap (λ (z : ℕ). n * z) (sym (pow-add 2 k l)) ∙ sym (mul-one (n * 2 ^ (k + l)))

limit-held : (k n : ℕ) → k ≤ 971 → n ≤ 2 ^ 52 → Held binary64 (n * 2 ^ k) 1
limit-held k n h m =
    let s : n < 2 ^ 53 = omega arith in
    let places : 53 + (k + 1074) ≤ 1074 + 1024 = omega arith in
    record {
      digits = n;
      place = k + 1074;
      short = s;
      under = lt_of_lt_of_le (shl_lt 53 (k + 1074) s) (pow_mono places);
      same = shifted n k 1074;
    }

pub limit_is : (k n : ℕ) → k ≤ 971 → n ≤ 2 ^ 52 → Is (limit k n) (n * 2 ^ k) 1
limit_is k n h m = rounds_exact (mul_rounds binary64 (whole_is n (Nat.le_trans m (lit≤ tt))) (power_is k)) (limit-held k n h m)

pub sum_within : (k n : ℕ) (s r : Float) → k ≤ 971 → n < 2 ^ 52 → Within s (limit k n) → Within r (power k)
    → T (finite (add binary64 s r)) × Within (add binary64 s r) (limit k (suc n))
sum_within k n s r h m v w =
    let p : Is (limit k n) (n * 2 ^ k) 1 = limit_is k n h (le_of_lt m) in
    let p' : Is (limit k (suc n)) (suc n * 2 ^ k) 1 = limit_is k (suc n) h m in
    add_within binary64 s (limit k n) r (power k) (limit k (suc n)) v w p.bounded tt
    (rounds_mono (add_rounds binary64 p (power_is k)) (held_rounds (limit-held k (suc n) h m) p') (simp (mul-one, suc-mul) (Nat.le_refl (n * 2 ^ k + 2 ^ k))))
    p'.bounded
