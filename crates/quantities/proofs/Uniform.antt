-- The range of a uniform draw. A sample is k / 2 ^ 52 for a k below 2 ^ 52: finite, not below 0, below 1, and not rounded.
-- A draw is s * (hi - lo) + lo, each operation rounded. For an s in 0..1 and a hi up to 2 ^ 20 it is in 0..2 ^ 20. Assumes nothing.
use Rattle.std.proofs.Common.{◌≡◌, ℕ, suc, ◌+◌, ◌-◌, ◌*◌, ◌/◌, ◌%◌, ◌^◌, ◌<◌, ◌≤◌, false, not, T, ◌⊎◌, pos, sym, refl, ap, ◌∙◌, ap₂, inl, inr, le_of_eq, lt_of_lt_of_le, le-add_right, le_of_lt, add-le-add, mul-le-mul_right, mul_assoc, suc-mul, mul_comm, div-lt_iff_lt-mul, add-mul, eq-or-lt_of_le, mul-le-mul_left, mul-lt-mul_of_pos_right, one-mul, mul-one, sub-add_cancel, mul_right_comm, div-mul-le_self, le_of_mul-le-mul_right, mul_left_comm, sub-le, arith, lit≤, pow_pos, pow_mono, pow-add, shl_lt}
use Prim.Native.Nat.{compare}
use native.Mathlib.Nat
use lib.Dec.{not_T}
use lib.Ieee.{Float, Format, binary64, low, size, round, add, sub, mul, div, lt, le, eq, of_int, fits}
use lib.Ieee.Fits.{nearest-le, sub-fits}
use lib.Ieee.Digits.{size-le}
use lib.Ieee.Order.{drop, kept}
use lib.Ieee.Scale.{finite, grid, round_val, round_under}
use lib.Ieee.Positive.{num, den, den_pos}
use Rattle.quantities.specs.Doubles.{zero_f, power}
use Rattle.quantities.proofs.Order
use Rattle.quantities.proofs.Values.{Is, Held, Rounds, own, le_is, value_is, eq_value, finite_between, finite_known, rounds_exact, rounds_mono, rounds_below, rounds_from_zero, add_rounds, sub_rounds, mul_rounds, div_rounds}
use Rattle.quantities.proofs.Ranges.{Within, within-finite, add_within, whole_is, power_is}

-- ---- samples

abbrev pub sample : ℕ → Float
sample k = div binary64 (of_int binary64 (pos k)) (power 52)

pub sample_is : (k : ℕ) → k < 2 ^ 52 → Is (sample k) k (2 ^ 52)
sample_is k h =
    let s : k < 2 ^ 53 = omega arith in
    let held : Held binary64 (k * 1) (2 ^ 52) =
    record {
      digits = k;
      place = 1022;
      short = s;
      under = lt_of_lt_of_le (shl_lt 53 1022 s) (pow_mono (lit≤ {m = 53 + 1022} {n = 1074 + 1024} tt));
      same = whole 1022 52;
    } in
    rw (mul-one k) at (rounds_exact (div_rounds binary64 (whole_is k (le_of_lt s)) (power_is 52) (pow_pos 52)) held)
  where
    whole : (i j : ℕ) → k * 1 * 2 ^ (i + j) ≡ k * 2 ^ i * 2 ^ j
    whole i j = ap₂ ◌*◌ (mul-one k) (pow-add 2 i j) ∙ sym (mul_assoc k (2 ^ i) (2 ^ j))

pub sample-fine : (k : ℕ) → k < 2 ^ 52 → T (finite (sample k)) × T (le zero_f (sample k)) × T (lt (sample k) (power 0))
sample-fine k h =
    let p : Is (sample k) k (2 ^ 52) = sample_is k h in
    let less : T (not (le (power 0) (sample k))) = not_T (le (power 0) (sample k)) (λ l. full (le_is (power_is 0) p l)) in
    (p.bounded, p.from_zero, Order.not-le→lt (sample k) (power 0) (finite_known (sample k) p.bounded) (finite_known (power 0) tt) less)
  where
    full : 1 * 2 ^ 52 ≤ k * 1 → ⊥
    full l = omega arith

pub sample-within : (k : ℕ) → k < 2 ^ 52 → Within (sample k) (power 0)
sample-within k h = let s = sample-fine k h in (s.1, Order.lt→le (sample k) (power 0) s.2)

-- ---- a rounded fraction is near the fraction

-- a value that is rounded and finite, in smallest values
rounded_is : {f : Format} {w : Float} {a c : ℕ} → Rounds f w a c → T (finite w) → Is w (grid f a c) (2 ^ low f)
rounded_is {f} {w} {a} {c} r t =
    let x = round f false a c in
    let from : T (le zero_f x) = Order.le_trans zero_f w x (rounds_from_zero r) (Order.eq→le w x r.same) in
    let u : T (finite x) = finite_between x w from (Order.eq→ge w x r.same) t in
    eq_value r.same (value_is x false (pow_pos (low f)) absurd (round_val f a c (round_under f a c u)))

-- what is left of the whole part of n / l when digits are dropped as rounding drops them
abbrev cut : ℕ → ℕ → ℕ → ℕ
cut p n l = n / (l * 2 ^ drop p n l)

kept_le : (p n l : ℕ) → kept p n l ≤ suc (cut p n l)
kept_le p n l = let u = l * 2 ^ drop p n l in nearest-le (n / u) (compare (n % u * 2) u)

-- with at most p + e digits in the whole part of n / c, the unit that is kept is at most 2 ^ e
near : (p e n c : ℕ) → 0 < c → n < 2 ^ (p + e) * c → kept p n c * 2 ^ drop p n c * c ≤ n + c * 2 ^ e
near p e n c C h =
    let k = drop p n c in
    let u = c * 2 ^ k in
    let few : size (n / c) ≤ p + e = size-le (n / c) (p + e) ((div-lt_iff_lt-mul C).1 h) in
    let k_le : k ≤ e = omega arith in
    let x : kept p n c * u ≤ n / u * u + u = rw (← suc-mul) (mul-le-mul_right u (kept_le p n c)) in
    let y : n / u * u + u ≤ n + c * 2 ^ e = add-le-add (div-mul-le_self n u) (mul-le-mul_left c (pow_mono k_le)) in
    rw (mul_assoc (kept p n c) (2 ^ k) c, mul_comm (2 ^ k) c) (Nat.le_trans x y)

-- ---- draws

abbrev pub draw : Float → Float → Float → Float
draw s lo hi = add binary64 (mul binary64 s (sub binary64 hi lo)) lo

-- a part of w, for an s up to 1
pub part_within : (f : Format) (s w : Float) → Within s (power 0) → T (fits f w) → T (finite w) → T (le zero_f w)
    → T (finite (mul f s w)) × Within (mul f s w) w
part_within f s w v h t u =
    let q : Is s (num s) (den s) = own s (within-finite s (power 0) v tt) v.0 in
    let p : Is w (num w) (den w) = own w t u in
    let m : Rounds f (mul f s w) (num s * num w) (den s * den w) = mul_rounds f q p in
    let top : T (le (mul f s w) w) = rounds_below f h p m (go (num s) (den s) (num w) (den w) (le_is q (power_is 0) v.1)) in
    let r : Within (mul f s w) w = (rounds_from_zero m, top) in
    (within-finite (mul f s w) w r t, r)
  where
    go : (a c b d : ℕ) → a * 1 ≤ 1 * c → a * b * d ≤ b * (c * d)
    go a c b d l = rw (mul_assoc a b d, mul_left_comm b c d) (mul-le-mul_right (b * d) (simp (mul-one, one-mul) at l))

-- 2 ^ 20 and half a unit more is a tie, and rounds to the even 2 ^ 20
tie : Rounds binary64 (power 20) (2 ^ 53 + 1) (2 ^ 33)
tie = record { over = pow_pos 33; same = unfold round eq in tt }

-- a / c up to 2 ^ 20, rounded, is at most 2 ^ -33 above a / c: that is a unit below 2 ^ 20, and 2 ^ 20 itself is not rounded
near_top : {w : Float} {a c : ℕ} → Rounds binary64 w a c → a ≤ 2 ^ 20 * c → (b : ℕ) × (d : ℕ) × Is w b d × (b * c * 2 ^ 33 ≤ (a * 2 ^ 33 + c) * d)
near_top {w} {a} {c} r h = go (eq-or-lt_of_le h)
  where
    top : T (le w (power 20))
    top = rounds_below binary64 (unfold fits in tt) (power_is 20) r (rw mul-one h)

    t : T (finite w)
    t = finite_between w (power 20) (rounds_from_zero r) top tt

    p : Is w (num w) (den w)
    p = own w t (rounds_from_zero r)

    at_end : (n d u v : ℕ) → n * 1 ≤ v * d → a ≡ v * c → n * c * u ≤ (a * u + c) * d
    at_end n d u v l e =
        let x : n * (c * u) ≤ v * d * (c * u) = mul-le-mul_right (c * u) (rw (mul-one n) at l) in
        let y : v * d * (c * u) ≡ v * c * u * d = simp (mul_assoc, mul_comm, mul_left_comm) in
        rw (mul_assoc n c u, add-mul (a * u) c d, e) (Nat.le_trans x (Nat.le_trans (le_of_eq y) (le-add_right (v * c * u * d) (c * d))))

    in_units : (g u v l : ℕ) → v * u ≡ l → g * c ≤ a * l + c * v → g * c * u ≤ (a * u + c) * l
    in_units g u v l e k =
        Nat.le_trans (mul-le-mul_right u k)
        (le_of_eq (add-mul (a * l) (c * v) u ∙ ap₂ ◌+◌ (mul_right_comm a l u) (mul_assoc c v u ∙ ap (λ (z : ℕ). c * z) e) ∙ sym (add-mul (a * u) c l)))

    raise : (i j : ℕ) → a < 2 ^ i * c → a * 2 ^ j < 2 ^ (i + j) * c
    raise i j l = rw (pow-add, mul_right_comm (2 ^ i) (2 ^ j) c) (mul-lt-mul_of_pos_right l (pow_pos j))

    go : (a ≡ 2 ^ 20 * c) ⊎ (a < 2 ^ 20 * c) → (b : ℕ) × (d : ℕ) × Is w b d × (b * c * 2 ^ 33 ≤ (a * 2 ^ 33 + c) * d)
    go (inl e) = (num w, den w, p, at_end (num w) (den w) (2 ^ 33) (2 ^ 20) (le_is p (power_is 20) top) e)
    go (inr l) =
        let close : grid binary64 a c * c ≤ a * 2 ^ 1074 + c * 2 ^ 1041 = near 53 1041 (a * 2 ^ 1074) c r.over (raise 20 1074 l) in
        (grid binary64 a c, 2 ^ 1074, rounded_is r t, in_units (grid binary64 a c) (2 ^ 33) (2 ^ 1041) (2 ^ 1074) refl close)

-- hi is a / c and lo is b / d, and n / e is at most 2 ^ -33 above hi - lo: then lo and n / e sum up to no more than the tie
below_tie : (a c b d n e : ℕ) → 0 < c → b * c ≤ a * d → a ≤ 2 ^ 20 * c → n * (c * d) * 2 ^ 33 ≤ ((a * d - b * c) * 2 ^ 33 + c * d) * e
    → (n * d + b * e) * 2 ^ 33 ≤ (2 ^ 53 + 1) * (e * d)
below_tie a c b d n e C h k l =
    let g = a * d - b * c in
    let gap : g * e + b * c * e ≡ a * d * e = sym (add-mul g (b * c) e) ∙ ap (λ (z : ℕ). z * e) (sub-add_cancel h) in
    let top : a * d * e ≤ 2 ^ 20 * (c * d * e) = rw (mul_assoc a d e, mul_assoc c d e, ← mul_assoc (2 ^ 20) c (d * e)) (mul-le-mul_right (d * e) k) in
    let close : n * (c * d) * 2 ^ 33 ≤ g * e * 2 ^ 33 + c * d * e = rw (← mul_right_comm g (2 ^ 33) e, ← add-mul (g * 2 ^ 33) (c * d) e) l in
    let both : (n * d + b * e) * c ≡ n * (c * d) + b * c * e =
    add-mul (n * d) (b * e) c ∙ ap₂ ◌+◌ (mul_assoc n d c ∙ ap (λ (z : ℕ). n * z) (mul_comm d c)) (mul_right_comm b e c) in
    let left : (n * d + b * e) * 2 ^ 33 * c ≡ (n * (c * d) + b * c * e) * 2 ^ 33 =
    mul_right_comm (n * d + b * e) (2 ^ 33) c ∙ ap (λ (z : ℕ). z * 2 ^ 33) both in
    let right : (2 ^ 53 + 1) * (c * d * e) ≡ (2 ^ 53 + 1) * (e * d) * c = simp (mul_assoc, mul_comm, mul_left_comm) in
    le_of_mul-le-mul_right (rw (left, ← right) (linear (n * (c * d)) (b * c * e) (g * e) (a * d * e) (c * d * e) close gap top)) C
  where
    linear : (x y g z w : ℕ) → x * 2 ^ 33 ≤ g * 2 ^ 33 + w → g + y ≡ z → z ≤ 2 ^ 20 * w → (x + y) * 2 ^ 33 ≤ (2 ^ 53 + 1) * w
    linear x y g z w p q r = omega arith

pub draw-fine : (s lo hi : Float) → Within s (power 0) → Within lo hi → T (le hi (power 20))
    → T (finite (draw s lo hi)) × Within (draw s lo hi) (power 20)
draw-fine s lo hi v u l =
    let from : T (le zero_f hi) = Order.le_trans zero_f lo hi u.0 u.1 in
    let p : Is hi (num hi) (den hi) = own hi (finite_between hi (power 20) from l tt) from in
    let q : Is lo (num lo) (den lo) = own lo (within-finite lo hi u p.bounded) u.0 in
    let top : num hi ≤ 2 ^ 20 * den hi = rw (mul-one (num hi)) at (le_is p (power_is 20) l) in
    let w = sub binary64 hi lo in
    let x = near_top (sub_rounds binary64 p q u.1) (short (num hi) (den hi) (den lo) (num lo * den hi) top) in
    let y : Is w x.0 x.1 = x.2 in
    let m = part_within binary64 s w v (sub-fits binary64 hi lo) y.bounded y.from_zero in
    add_within binary64 (mul binary64 s w) w lo lo (power 20) m.1 (u.0, Order.le_refl lo (finite_known lo q.bounded)) y.bounded q.bounded
    (rounds_mono (add_rounds binary64 y q) tie
    (below_tie (num hi) (den hi) (num lo) (den lo) x.0 x.1 (den_pos hi) (le_is q p u.1) top x.3))
    tt
  where
    short : (a c d g : ℕ) → a ≤ 2 ^ 20 * c → a * d - g ≤ 2 ^ 20 * (c * d)
    short a c d g k = Nat.le_trans (sub-le (a * d) g) (rw (← mul_assoc (2 ^ 20) c d) (mul-le-mul_right d k))
