-- A finite value that is not below zero, as a fraction a / c of natural numbers: -0 is 0 / c. The order of such values is the fractions' order.
-- Addition, subtraction, multiplication and division round the exact fraction, rounding keeps the order, and a value of the format is its own rounding.
-- So a bound on a result is an inequality of fractions. Assumes nothing.
use Rattle.std.proofs.Common.{◌≡◌, ℕ, zero, suc, ◌+◌, ◌-◌, ◌*◌, ◌%◌, ◌^◌, ◌<◌, ◌≤◌, Bool, true, false, cond, not, ◌&&◌, ◌||◌, T, eqb, ltb, leb, ℤ, pos, negsuc, sym, refl, ap, ◌∙◌, subst, ap₂, inl, inr, zero-le, le_of_eq, lt_of_lt_of_le, le_of_suc-le-suc, le_of_lt, mul_assoc, mul_comm, add-mul, eq-zero-or-pos, le_antisymm, lt_of_mul-lt-mul_right, eq-or-lt_of_le, mul-lt-mul_of_pos_right, mul-pos, one-mul, lt_of_not-le, ne_of_gt, zero-mul, mul-one, sub-add_cancel, mul_right_comm, not-le_of_lt, mul_left_comm, le-add_left, arith, eqb→eq, ltb→lt, lt→ltb, leb→le, nltb→le, pow_pos, pow-add}
use native.Mathlib.Nat.{mul-mul-mul_comm, mul-sub, eq_of_mul-eq-mul_right}
use lib.Dec.{eqb_refl}
use lib.Pow.{pow-lt}
use lib.Ieee.{Float, nan, inf, fin, Format, prec, emax, low, up, down, unlike, below, level, odd, units, round, sum, add, sub, mul, div, le, eq, is_nan, fits}
use lib.Ieee.Fits.{down_pos, round_is, and_l, and_r}
use lib.Ieee.Exact.{HasValue, round_exact}
use lib.Ieee.Order.{transfer, round_mono}
use lib.Ieee.Scale.{finite, overflow, round_same}
use lib.Ieee.Positive.{num, den, den_pos, first_pos}
use Rattle.quantities.specs.Doubles.{zero_f}
use Rattle.quantities.proofs.Order

-- ---- the values

-- x is finite, not below zero, and a / c
pub record Is (x : Float) (a c : ℕ) : Type 0 where
  pub bounded : T (finite x)
  pub from_zero : T (le zero_f x)
  pub over : 0 < c
  pub same : num x * c ≡ a * den x

pub own : (x : Float) → T (finite x) → T (le zero_f x) → Is x (num x) (den x)
own x t h = record { bounded = t; from_zero = h; over = den_pos x; same = refl }

-- how such a value is written: where the sign is set the size is 0
data Plain : Float → Type 0 where
  plain : (s : Bool) (m : ℕ) (e : ℤ) → (T s → m * up e ≡ 0) → Plain (fin s m e)

sizeless : (s : Bool) (m : ℕ) (e : ℤ) → T (le zero_f (fin s m e)) → T s → m * up e ≡ 0
unfolding le
sizeless true m e h t =
    let same : 0 * down e ≡ m * up e * 1 = eqb→eq (0 * down e) (m * up e * 1) (and_l (eqb (0 * down e) (m * up e * 1)) (eqb (0 * down e) 0) h) in
    sym (mul-one (m * up e)) ∙ sym same ∙ zero-mul (down e)
sizeless false m e h t = absurd t

plain_of : (x : Float) → T (finite x) → T (le zero_f x) → Plain x
plain_of nan t h = absurd t
plain_of (inf s) t h = absurd t
plain_of (fin s m e) t h = plain s m e (sizeless s m e h)

plain_is : {x : Float} {a c : ℕ} → Is x a c → Plain x
plain_is {x} p = plain_of x p.bounded p.from_zero

pub finite_known : (x : Float) → T (finite x) → T (not (is_nan x))
unfolding is_nan
finite_known nan t = absurd t
finite_known (inf s) t = absurd t
finite_known (fin s m e) t = tt

pub finite_between : (x y : Float) → T (le zero_f x) → T (le x y) → T (finite y) → T (finite x)
unfolding le
finite_between nan y h l t = absurd h
finite_between (inf true) y h l t = absurd h
finite_between (inf false) nan h l t = absurd t
finite_between (inf false) (inf s) h l t = absurd t
finite_between (inf false) (fin s n d) h l t = absurd l
finite_between (fin s m e) y h l t = tt

-- ---- the order is the fractions' order

or_l : (a b : Bool) → T a → T (a || b)
or_l true b t = tt
or_l false b t = absurd t

or_r : (a b : Bool) → T b → T (a || b)
or_r true b t = tt
or_r false b t = t

-- ±a ≤ ±b as `le` tests it. Where a sign is set only on a 0, the test passes exactly if a ≤ b
at_most : Bool → ℕ → Bool → ℕ → Bool
at_most s a t b = below s a t b || level s a t b

test→le : (s : Bool) (a : ℕ) (t : Bool) (b : ℕ) → (T s → a ≡ 0) → T (at_most s a t b) → a ≤ b
unfolding at_most
test→le true a t b h l = let z : a ≡ 0 = h tt in omega arith
test→le false a false b h l = go (ltb a b) (ltb→lt a b) l
  where
    go : (p : Bool) → (T p → a < b) → T (p || (eqb a b && true)) → a ≤ b
    go true k q = le_of_lt (k tt)
    go false k q = le_of_eq (eqb→eq a b (and_l (eqb a b) true q))
test→le false a true b h l = le_of_eq (eqb→eq a b (and_l (eqb a b) (eqb a 0) l))

-- the test of -a ≤ b, where the two are not both 0
apart : (n : ℕ) (r : Bool) → 0 < n → T (ltb 0 n || r)
apart n r h = or_l (ltb 0 n) r (lt→ltb 0 n h)

le→test : (s : Bool) (a : ℕ) (t : Bool) (b : ℕ) → (T s → a ≡ 0) → (T t → b ≡ 0) → a ≤ b → T (at_most s a t b)
unfolding at_most
le→test false a false b h k l =
    elim (eq-or-lt_of_le l) [
      | inl e ↦ or_r (ltb a b) (eqb a b && true) (rw e (both (eqb b b) (eqb_refl b)))
      | inr u ↦ or_l (ltb a b) (eqb a b && true) (lt→ltb a b u)
    ]
  where
    both : (x : Bool) → T x → T (x && true)
    both true t = tt
    both false t = t
le→test false a true b h k l = let y : b ≡ 0 = k tt in let x : a ≡ 0 = omega arith in rw (x, y) tt
le→test true a false b h k l =
    let x : a ≡ 0 = h tt in
    elim (eq-zero-or-pos b) [ inl y ↦ rw (x, y) tt | inr y ↦ apart (a + b) (level true a false b) (lt_of_lt_of_le y (le-add_left b a)) ]
le→test true a true b h k l = rw (h tt, k tt) tt

-- 0 in any unit
scaled_zero : {n : ℕ} (k : ℕ) → n ≡ 0 → n * k ≡ 0
scaled_zero k z = rw z (zero-mul k)

own-le : {x y : Float} → Plain x → Plain y → T (le x y) → num x * den y ≤ num y * den x
unfolding le at_most
own-le (plain s m e h) (plain t n d k) l = test→le s (m * up e * down d) t (n * up d * down e) (λ u. scaled_zero (down d) (h u)) l

le_own : {x y : Float} → Plain x → Plain y → num x * den y ≤ num y * den x → T (le x y)
unfolding le at_most
le_own (plain s m e h) (plain t n d k) l =
    le→test s (m * up e * down d) t (n * up d * down e) (λ u. scaled_zero (down d) (h u)) (λ u. scaled_zero (down e) (k u)) l

pub le_is : {x y : Float} {a c b d : ℕ} → Is x a c → Is y b d → T (le x y) → a * d ≤ b * c
le_is {x} {y} {a} {c} {b} {d} p q l =
    transfer a b c d (num x) (num y) (den x) (den y) (den_pos x) (den_pos y) (sym p.same) (sym q.same) (own-le (plain_is p) (plain_is q) l)

pub is_le : {x y : Float} {a c b d : ℕ} → Is x a c → Is y b d → a * d ≤ b * c → T (le x y)
is_le {x} {y} {a} {c} {b} {d} p q l =
    le_own (plain_is p) (plain_is q) (transfer (num x) (num y) (den x) (den y) a b c d p.over q.over p.same q.same l)

pub is_eq : {x y : Float} {a c b d : ℕ} → Is x a c → Is y b d → a * d ≡ b * c → T (eq x y)
is_eq {x} {y} p q e = Order.le_antisym x y (is_le p q (le_of_eq e)) (is_le q p (le_of_eq (sym e)))

-- equal values are the same fractions
pub eq_value : {x y : Float} {a c : ℕ} → T (eq x y) → Is y a c → Is x a c
eq_value {x} {y} {a} {c} e q =
    let up_to : T (le x y) = Order.eq→le x y e in
    let above : T (le y x) = Order.eq→ge x y e in
    let from : T (le zero_f x) = Order.le_trans zero_f y x q.from_zero above in
    let t : T (finite x) = finite_between x y from up_to q.bounded in
    let p : Is x (num x) (den x) = own x t from in
    record { bounded = t; from_zero = from; over = q.over; same = le_antisymm (le_is p q up_to) (le_is q p above) }

-- a value as lib.Ieee states it; with the sign set it is 0
pub value_is : (x : Float) (s : Bool) {a c : ℕ} → 0 < c → (T s → a ≡ 0) → HasValue x s a c → Is x a c
unfolding le at_most
value_is nan s C h v = absurd v
value_is (inf t) s C h v = absurd v
value_is (fin t m e) s {a} {c} C h v = record { bounded = tt; from_zero = from; over = C; same = v.1 }
  where
    empty : T t → m * up e ≡ 0
    empty u = eq_of_mul-eq-mul_right c C (m * up e) 0 (v.1 ∙ scaled_zero (down e) (h (subst T v.0 u)) ∙ sym (zero-mul c))

    from : T (le zero_f (fin t m e))
    from = le→test false (0 * down e) t (m * up e * 1) absurd (λ u. scaled_zero 1 (empty u)) (rw zero-mul zero-le)

pub zero_is : Is zero_f 0 1
zero_is = own zero_f tt (unfold le in tt)

-- ---- what a format holds without rounding

-- a / c is digits * 2 ^ place of the format's smallest values, with no more digits than the format keeps, and it does not overflow
pub record Held (f : Format) (a c : ℕ) : Type 0 where
  pub digits : ℕ
  pub place : ℕ
  pub short : digits < 2 ^ prec f
  pub under : digits * 2 ^ place < overflow f
  pub same : a * 2 ^ low f ≡ digits * 2 ^ place * c

zero_held : (f : Format) (c : ℕ) → Held f 0 c
zero_held f c = record {
  digits = 0;
  place = 0;
  short = pow_pos (prec f);
  under = pow_pos (low f + suc (emax f));
  same = zero-mul (2 ^ low f) ∙ sym (zero-mul c);
}

-- 2 ^ e as a number of smallest values, where it is no less than one of them
steps : (l : ℕ) (e : ℤ) → down e ≤ 2 ^ l → (j : ℕ) × (2 ^ j * down e ≡ up e * 2 ^ l)
steps l (pos k) h = (k + l, mul-one (2 ^ (k + l)) ∙ pow-add 2 k l)
steps l (negsuc k) h =
    let deep : suc k ≤ l = le_of_suc-le-suc (lt_of_not-le (λ (g : suc l ≤ suc k). not-le_of_lt (pow-lt g) h)) in
    (l - suc k, sym (pow-add 2 (l - suc k) (suc k)) ∙ ap (λ (z : ℕ). 2 ^ z) (sub-add_cancel deep) ∙ sym (one-mul (2 ^ l)))

-- Where u / v is g / l: a bound t of m * (u / v), and a fraction a / c that m * (u / v) is, both in parts of which 1 has l
under_scaled : (m g u v l t : ℕ) → 0 < l → g * v ≡ u * l → m * u < t * v → m * g < l * t
under_scaled m g u v l t L e h =
    lt_of_mul-lt-mul_right v
    (subst (λ (z : ℕ). z < l * t * v) (mul_assoc m u l ∙ ap (λ (z : ℕ). m * z) (sym e) ∙ sym (mul_assoc m g v))
    (subst (λ (z : ℕ). m * u * l < z) (mul_comm (t * v) l ∙ sym (mul_assoc l t v)) (mul-lt-mul_of_pos_right h L)))

same_scaled : (m g u v l a c : ℕ) → 0 < v → g * v ≡ u * l → m * u * c ≡ a * v → a * l ≡ m * g * c
same_scaled m g u v l a c D e h =
    let x : m * c * (u * l) ≡ m * c * (g * v) = ap (λ (z : ℕ). m * c * z) (sym e) in
    let y : m * u * c * l ≡ m * g * c * v = simp (mul_assoc, mul_comm) (simp (mul_assoc, mul_comm, mul_left_comm) at x) in
    eq_of_mul-eq-mul_right v D (a * l) (m * g * c) (mul_right_comm a l v ∙ ap (λ (z : ℕ). z * l) (sym h) ∙ y)

-- what `fits` says of a value that is not 0
parts : (f : Format) (s : Bool) (m : ℕ) (e : ℤ) → T (fits f (fin s (suc m) e))
    → (suc m < 2 ^ prec f) × (down e ≤ 2 ^ low f) × (suc m * up e < 2 ^ suc (emax f) * down e)
unfolding fits
parts f s m e t =
    let a : Bool = eqb (suc m % 2) 1 in
    let b : Bool = ltb (suc m) (2 ^ prec f) in
    let c : Bool = leb (down e) (2 ^ low f) in
    let d : Bool = ltb (suc m * up e) (2 ^ suc (emax f) * down e) in (
      ltb→lt (suc m) (2 ^ prec f) (and_r a b (and_l (a && b) c (and_l (a && b && c) d t))),
      leb→le (down e) (2 ^ low f) (and_r (a && b) c (and_l (a && b && c) d t)),
      ltb→lt (suc m * up e) (2 ^ suc (emax f) * down e) (and_r (a && b && c) d t),
    )

pub fits-held : (f : Format) {x : Float} {a c : ℕ} → T (fits f x) → Is x a c → Held f a c
fits-held f {x} {a} {c} t p = go x t p.bounded p.same
  where
    go : (x : Float) → T (fits f x) → T (finite x) → num x * c ≡ a * den x → Held f a c
    go nan t b r = absurd b
    go (inf s) t b r = absurd b
    go (fin s zero e) t b r =
        let z : a ≡ 0 = eq_of_mul-eq-mul_right (down e) (down_pos e) a 0 (sym r ∙ scaled_zero c (zero-mul (up e)) ∙ sym (zero-mul (down e))) in
        rw z (zero_held f c)
    go (fin s (suc m) e) t b r =
        let k = parts f s m e t in
        let h = steps (low f) e k.1 in
        let g = 2 ^ h.0 in
        let bound : suc m * g < 2 ^ low f * 2 ^ suc (emax f) =
        under_scaled (suc m) g (up e) (down e) (2 ^ low f) (2 ^ suc (emax f)) (pow_pos (low f)) h.1 k.2 in
        record {
          digits = suc m;
          place = h.0;
          short = k.0;
          under = rw pow-add bound;
          same = same_scaled (suc m) g (up e) (down e) (2 ^ low f) a c (down_pos e) h.1 r;
        }

-- ---- rounding

-- what is held rounds to itself
pub exact_is : {f : Format} (s : Bool) {a c : ℕ} → 0 < c → (T s → a ≡ 0) → Held f a c → Is (round f s a c) a c
exact_is {f} s {a} {c} C z h =
    value_is (round f s a c) s C z
    (round_exact f s a c h.digits h.place C h.short h.under h.same)

units_known : (f : Format) (s : Bool) (q k : ℕ) → T (not (is_nan (units f s q k)))
unfolding units is_nan odd
units_known f s q k = go (ltb (q * 2 ^ k) (overflow f)) q
  where
    go : (b : Bool) (q : ℕ) → T (not (is_nan (cond b (odd (suc (prec f)) s q k (low f)) (inf s))))
    go true zero = tt
    go true (suc q) = tt
    go false q = tt

-- a rounded fraction is never NaN
pub round_known : (f : Format) (s : Bool) (a c : ℕ) → T (not (is_nan (round f s a c)))
round_known f s a c = rw round_is (units_known f s _ _)

-- z is the value of the format that is nearest to a / c. Only a zero's sign is left open
pub record Rounds (f : Format) (z : Float) (a c : ℕ) : Type 0 where
  pub over : 0 < c
  pub same : T (eq z (round f false a c))

-- the sign of a fraction that is 0 does not matter
signed : (f : Format) (s : Bool) {a c : ℕ} → 0 < c → (T s → a ≡ 0) → Rounds f (round f s a c) a c
signed f false {a} {c} C z = record { over = C; same = Order.eq_refl (round f false a c) (round_known f false a c) }
signed f true {a} {c} C z = record { over = C; same = is_eq (exact_is true C z held) (exact_is false C absurd held) refl }
  where
    held : Held f a c
    held = rw (z tt) (zero_held f c)

-- another fraction of the same size
pub refit : {f : Format} {z : Float} {a c b d : ℕ} → Rounds f z a c → 0 < d → a * d ≡ b * c → Rounds f z b d
refit {f} {z} {a} {c} {b} {d} r D e =
    record { over = D; same = subst (λ (w : Float). T (eq z w)) (round_same f false a c b d r.over D e) r.same }

pub rounds_mono : {f : Format} {z w : Float} {a c b d : ℕ} → Rounds f z a c → Rounds f w b d → a * d ≤ b * c → T (le z w)
rounds_mono {f} {z} {w} {a} {c} {b} {d} r q l =
    let x = round f false a c in
    let y = round f false b d in
    Order.le_trans z x w (Order.eq→le z x r.same)
    (Order.le_trans x y w (round_mono f a c b d r.over q.over l) (Order.eq→ge w y q.same))

pub rounds_eq : {f : Format} {z w : Float} {a c b d : ℕ} → Rounds f z a c → Rounds f w b d → a * d ≡ b * c → T (eq z w)
rounds_eq {z} {w} r q e = Order.le_antisym z w (rounds_mono r q (le_of_eq e)) (rounds_mono q r (le_of_eq (sym e)))

-- what is held is its own rounding, so a value that fits is
pub held_rounds : {f : Format} {x : Float} {a c : ℕ} → Held f a c → Is x a c → Rounds f x a c
held_rounds h p = record { over = p.over; same = is_eq p (exact_is false p.over absurd h) refl }

pub fits_rounds : (f : Format) {x : Float} {a c : ℕ} → T (fits f x) → Is x a c → Rounds f x a c
fits_rounds f t p = held_rounds (fits-held f t p) p

pub rounds_exact : {f : Format} {z : Float} {a c : ℕ} → Rounds f z a c → Held f a c → Is z a c
rounds_exact r h = eq_value r.same (exact_is false r.over absurd h)

-- a bound that fits holds of the rounded fraction as it does of the exact one
pub rounds_above : (f : Format) {x z : Float} {a c b d : ℕ} → T (fits f x) → Is x a c → Rounds f z b d → a * d ≤ b * c → T (le x z)
rounds_above f t p r l = rounds_mono (fits_rounds f t p) r l

pub rounds_below : (f : Format) {x z : Float} {a c b d : ℕ} → T (fits f x) → Is x a c → Rounds f z b d → b * c ≤ a * d → T (le z x)
rounds_below f t p r l = rounds_mono r (fits_rounds f t p) l

pub rounds_from_zero : {f : Format} {z : Float} {a c : ℕ} → Rounds f z a c → T (le zero_f z)
rounds_from_zero {f} {z} {a} {c} r = rounds_mono (held_rounds (zero_held f 1) zero_is) r (rw zero-mul zero-le)

-- ---- the operations round the exact fraction

-- where one sign is set, and the size that has it is not the larger, the sum is the difference of the sizes
negative_second : (f : Format) {a b : ℕ} (c : ℕ) → b ≤ a → sum f false a true b c ≡ round f false (a - b) c
unfolding sum
negative_second f {a} {b} c h = go (ltb a b) (ltb→lt a b)
  where
    go : (t : Bool) → (T t → a < b) → cond t (round f true (b - a) c) (round f false (a - b) c) ≡ round f false (a - b) c
    go true k = absurd (not-le_of_lt (k tt) h)
    go false k = refl

negative-first : (f : Format) {a b : ℕ} (c : ℕ) → a ≤ b → sum f true a false b c ≡ round f false (b - a) c
unfolding sum
negative-first f {a} {b} c h = go (ltb a b) (ltb b a) (nltb→le a b) (ltb→lt b a)
  where
    level_off : b ≤ a → a - b ≡ b - a
    level_off k = omega arith

    go : (t u : Bool) → (T (not t) → b ≤ a) → (T u → b < a) → cond t (round f false (b - a) c) (round f u (a - b) c) ≡ round f false (b - a) c
    go true u k l = refl
    go false true k l = absurd (not-le_of_lt (l tt) h)
    go false false k l = rw (level_off (k tt)) refl

sum_plus : (f : Format) (s : Bool) {a : ℕ} (t : Bool) {b c : ℕ} → 0 < c → (T s → a ≡ 0) → (T t → b ≡ 0) → Rounds f (sum f s a t b c) (a + b) c
unfolding sum
sum_plus f false false C h k = signed f false C absurd
sum_plus f false {a} true {b} {c} C h k =
    let y : b ≡ 0 = k tt in
    let l : b ≤ a = omega arith in
    let e : a - b ≡ a + b = omega arith in
    rw (negative_second f c l, e) (signed f false C absurd)
sum_plus f true {a} false {b} {c} C h k =
    let y : a ≡ 0 = h tt in
    let l : a ≤ b = omega arith in
    let e : b - a ≡ a + b = omega arith in
    rw (negative-first f c l, e) (signed f false C absurd)
sum_plus f true {a} true {b} C h k =
    let x : a ≡ 0 = h tt in
    let y : b ≡ 0 = k tt in
    let z : a + b ≡ 0 = omega arith in
    signed f true C (λ u. z)

sum_minus : (f : Format) (s : Bool) {a : ℕ} (t : Bool) {b c : ℕ} → 0 < c → (T s → a ≡ 0) → (T t → b ≡ 0) → b ≤ a
    → Rounds f (sum f s a (not t) b c) (a - b) c
unfolding sum
sum_minus f false false {b} {c} C h k l = rw (negative_second f c l) (signed f false C absurd)
sum_minus f false {a} true {b} {c} C h k l =
    let y : b ≡ 0 = k tt in
    let e : a + b ≡ a - b = omega arith in
    rw e (signed f false C absurd)
sum_minus f true {a} false {b} {c} C h k l =
    let x : a ≡ 0 = h tt in
    let e : a + b ≡ a - b = omega arith in
    let z : a - b ≡ 0 = omega arith in
    rw e (signed f true C (λ u. z))
sum_minus f true {a} true {b} {c} C h k l =
    let x : a ≡ 0 = h tt in
    let y : b ≡ 0 = k tt in
    let m : a ≤ b = omega arith in
    let e : b - a ≡ a - b = omega arith in
    rw (negative-first f c m, e) (signed f false C absurd)

-- of two factors the one whose sign differs is 0
unlike_zero : (s t : Bool) {a b : ℕ} → (T s → a ≡ 0) → (T t → b ≡ 0) → T (unlike s t) → a * b ≡ 0
unlike_zero true true h k u = absurd u
unlike_zero true false {b} h k u = scaled_zero b (h tt)
unlike_zero false true {a} {b} h k u = mul_comm a b ∙ scaled_zero a (k tt)
unlike_zero false false h k u = absurd u

add_own : (f : Format) {x y : Float} → Plain x → Plain y → Rounds f (add f x y) (num x * den y + num y * den x) (den x * den y)
unfolding add
add_own f (plain s m e h) (plain t n d k) =
    sum_plus f s t (mul-pos (down_pos e) (down_pos d)) (λ u. scaled_zero (down d) (h u)) (λ u. scaled_zero (down e) (k u))

sub_own : (f : Format) {x y : Float} → Plain x → Plain y → num y * den x ≤ num x * den y
    → Rounds f (sub f x y) (num x * den y - num y * den x) (den x * den y)
unfolding sub
sub_own f (plain s m e h) (plain t n d k) l =
    sum_minus f s t (mul-pos (down_pos e) (down_pos d)) (λ u. scaled_zero (down d) (h u)) (λ u. scaled_zero (down e) (k u)) l

mul_own : (f : Format) {x y : Float} → Plain x → Plain y → Rounds f (mul f x y) (num x * num y) (den x * den y)
unfolding mul
mul_own f (plain s m e h) (plain t n d k) = signed f (unlike s t) (mul-pos (down_pos e) (down_pos d)) (unlike_zero s t h k)

div_own : (f : Format) {x y : Float} → Plain x → Plain y → 0 < num y → Rounds f (div f x y) (num x * den y) (num y * den x)
unfolding div
div_own f (plain s m e h) (plain t n d k) l = go (eqb n 0) (eqb→eq n 0)
  where
    size_zero : T (unlike s t) → m * up e ≡ 0
    size_zero u = eq_of_mul-eq-mul_right (n * up d) l (m * up e) 0 (unlike_zero s t h k u ∙ sym (zero-mul (n * up d)))

    go : (b : Bool) → (T b → n ≡ 0)
        → Rounds f (cond b (cond (eqb m 0) nan (inf (unlike s t))) (round f (unlike s t) (m * up e * down d) (n * up d * down e)))
        (m * up e * down d) (n * up d * down e)
    go true z = absurd (ne_of_gt l (scaled_zero (up d) (z tt)))
    go false z = signed f (unlike s t) (mul-pos l (down_pos e)) (λ u. scaled_zero (down d) (size_zero u))

-- the same for any fractions of the operands: where n / p is a / c and m / q is b / d
cross_product : (n p m q a c b d : ℕ) → n * c ≡ a * p → m * d ≡ b * q → n * m * (c * d) ≡ a * b * (p * q)
cross_product n p m q a c b d e g = mul-mul-mul_comm n m c d ∙ ap₂ ◌*◌ e g ∙ mul-mul-mul_comm a p b q

cross_left : (n p q a c d : ℕ) → n * c ≡ a * p → n * q * (c * d) ≡ a * d * (p * q)
cross_left n p q a c d e = cross_product n p q q a c d d e (mul_comm q d)

cross_right : (m p q b c d : ℕ) → m * d ≡ b * q → m * p * (c * d) ≡ b * c * (p * q)
cross_right m p q b c d e = ap (λ (z : ℕ). m * p * z) (mul_comm c d) ∙ cross_left m q p b d c e ∙ ap (λ (z : ℕ). b * c * z) (mul_comm q p)

pub sub_mul : (n m k : ℕ) → (n - m) * k ≡ n * k - m * k
sub_mul n m k = mul_comm (n - m) k ∙ mul-sub k n m ∙ ap₂ ◌-◌ (mul_comm k n) (mul_comm k m)

pub add_rounds : (f : Format) {x y : Float} {a c b d : ℕ} → Is x a c → Is y b d → Rounds f (add f x y) (a * d + b * c) (c * d)
add_rounds f {x} {y} {a} {c} {b} {d} p q =
    refit (add_own f (plain_is p) (plain_is q)) (mul-pos p.over q.over)
    (add-mul (num x * den y) (num y * den x) (c * d)
    ∙ ap₂ ◌+◌ (cross_left (num x) (den x) (den y) a c d p.same) (cross_right (num y) (den x) (den y) b c d q.same)
    ∙ sym (add-mul (a * d) (b * c) (den x * den y)))

pub sub_rounds : (f : Format) {x y : Float} {a c b d : ℕ} → Is x a c → Is y b d → T (le y x) → Rounds f (sub f x y) (a * d - b * c) (c * d)
sub_rounds f {x} {y} {a} {c} {b} {d} p q l =
    refit (sub_own f (plain_is p) (plain_is q) (own-le (plain_is q) (plain_is p) l)) (mul-pos p.over q.over)
    (sub_mul (num x * den y) (num y * den x) (c * d)
    ∙ ap₂ ◌-◌ (cross_left (num x) (den x) (den y) a c d p.same) (cross_right (num y) (den x) (den y) b c d q.same)
    ∙ sym (sub_mul (a * d) (b * c) (den x * den y)))

pub mul_rounds : (f : Format) {x y : Float} {a c b d : ℕ} → Is x a c → Is y b d → Rounds f (mul f x y) (a * b) (c * d)
mul_rounds f {x} {y} {a} {c} {b} {d} p q =
    refit (mul_own f (plain_is p) (plain_is q)) (mul-pos p.over q.over) (cross_product (num x) (den x) (num y) (den y) a c b d p.same q.same)

pub div_rounds : (f : Format) {x y : Float} {a c b d : ℕ} → Is x a c → Is y b d → 0 < b → Rounds f (div f x y) (a * d) (b * c)
div_rounds f {x} {y} {a} {c} {b} {d} p q l =
    let some : 0 < num y = first_pos (num y) d (rw q.same (mul-pos l (den_pos y))) in
    let turned : den y * b ≡ d * num y = mul_comm (den y) b ∙ sym q.same ∙ mul_comm (num y) d in
    refit (div_own f (plain_is p) (plain_is q) some) (mul-pos l p.over)
    (rw (mul_comm b c, mul_comm (num y) (den x)) (cross_product (num x) (den x) (den y) (num y) a c d b p.same turned))
