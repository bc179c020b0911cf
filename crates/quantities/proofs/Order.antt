-- The order of all doubles, the infinities and both zeros included, NaN apart.
-- `le` is reflexive, transitive and total. `lt x y` is `not (le y x)`, and `eq x y` is `le x y` and `le y x`.
-- `later` is the least double that is at or above both of its arguments, and `earlier` the greatest that is at or below both.
-- Two doubles that are `eq` and have the same sign are the same datum, and only the two zeros are `eq` with different signs. Assumes nothing.
use Rattle.std.proofs.Common.{◌≡◌, ℕ, zero, suc, ◌+◌, ◌-◌, ◌*◌, ◌/◌, ◌^◌, ◌≤◌, Bool, true, false, cond, not, ◌&&◌, ◌||◌, T, eqb, ltb, leb, ◌⊎◌, sym, refl, ap, ◌∙◌, subst, ap₂, inl, inr, ⊎_elim, add-zero, mul-le-mul_right, mul_assoc, mul_comm, add-mul, add_comm, suc-add, zero-add, zero-mul, mul_right_comm, le_of_mul-le-mul_right, mul_left_comm, arith, le→leb, eqb→eq, leb→le, T_not}
use mathlib.Core.Bool.{beq, not-not, and-true, and-false, and_comm}
use lib.Dec.{leb-zero, leb-suc-zero, leb-suc-suc, eqb-zero-suc, eqb-suc-zero, eqb-suc-suc, not_T}
use lib.Ieee.{Float, nan, inf, fin, Format, prec, low, up, down, size, hid, top, lt, le, eq, fits, is_nan, to_bits, of_bits}
use lib.Ieee.Fits.{down_pos, and_i, and_l, and_r}
use lib.Ieee.Bits.{of_bits-to_bits}
use lib.Ieee.Nearest.{div_same}
use lib.Ieee.Scale.{finite}
use lib.Ieee.Positive.{num, den, den_pos}
use Rattle.quantities.specs.Doubles.{later, earlier, negative}

-- ---- tests of Bools and of natural numbers

or_l : (a b : Bool) → T a → T (a || b)
or_l true b t = tt
or_l false b t = absurd t

-- `leb` by the other two tests, and each of them by `leb`
leb_is : (m n : ℕ) → (ltb m n || eqb m n) ≡ leb m n
leb_is zero zero = refl
leb_is zero (suc n) = simp (leb-suc-suc 0 n, leb-zero)
leb_is (suc m) zero = simp (leb-suc-zero, eqb-suc-zero)
leb_is (suc m) (suc n) = simp (leb-suc-suc, eqb-suc-suc) (leb_is m n)

ltb_is : (m n : ℕ) → ltb m n ≡ not (leb n m)
ltb_is zero zero = refl
ltb_is zero (suc n) = simp (leb-suc-suc 0 n, leb-zero, leb-suc-zero)
ltb_is (suc m) zero = simp (leb-suc-zero, leb-zero)
ltb_is (suc m) (suc n) = simp leb-suc-suc (ltb_is m n)

eqb_is : (m n : ℕ) → eqb m n ≡ (leb m n && leb n m)
eqb_is zero zero = refl
eqb_is zero (suc n) = simp (eqb-zero-suc, leb-zero, leb-suc-zero)
eqb_is (suc m) zero = simp (eqb-suc-zero, leb-suc-zero)
eqb_is (suc m) (suc n) = simp (eqb-suc-suc, leb-suc-suc) (eqb_is m n)

eqb_sym : (m n : ℕ) → eqb m n ≡ eqb n m
eqb_sym m n = eqb_is m n ∙ and_comm (leb m n) (leb n m) ∙ sym (eqb_is n m)

-- two numbers are both 0 where their sum is
both_zero : (m n : ℕ) → (eqb m n && eqb m 0) ≡ eqb (m + n) 0
both_zero zero n = simp (and-true, zero-add) (eqb_sym 0 n)
both_zero (suc m) n = simp (suc-add, eqb-suc-zero, and-false)

-- ---- finite doubles

-- A finite x is (plus x - less x) / den x. So x is at most y where plus x * den y + less y * den x ≤ plus y * den x + less x * den y,
-- which has no difference and no quotient in it. The left side is `side x y` and the right one `side y x`.
abbrev plus : Float → ℕ
plus x = cond (negative x) 0 (num x)

abbrev less : Float → ℕ
less x = cond (negative x) (num x) 0

abbrev side : Float → Float → ℕ
side x y = plus x * den y + less y * den x

-- each test of two finite doubles is the same test of the two sides
finite_tests : (x y : Float) → T (finite x) → T (finite y) → (lt x y ≡ ltb (side x y) (side y x)) × (eq x y ≡ eqb (side x y) (side y x))
unfolding lt eq
finite_tests nan y p q = absurd p
finite_tests (inf s) y p q = absurd p
finite_tests (fin s m e) nan p q = absurd q
finite_tests (fin s m e) (inf t) p q = absurd q
finite_tests (fin false m e) (fin false n d) p q = (simp (zero-mul, add-zero), simp (zero-mul, add-zero, and-true))
finite_tests (fin false m e) (fin true n d) p q = (simp (zero-mul, leb-suc-zero), simp zero-mul (both_zero (m * up e * down d) (n * up d * down e)))
finite_tests (fin true m e) (fin false n d) p q =
    let a = m * up e * down d in
    let b = n * up d * down e in
    (simp (zero-mul, add_comm), simp zero-mul (both_zero a b ∙ eqb_sym (a + b) 0 ∙ ap (eqb 0) (add_comm a b)))
finite_tests (fin true m e) (fin true n d) p q = (simp (zero-mul, zero-add), simp (zero-mul, zero-add, and-true) (eqb_sym (m * up e * down d) (n * up d * down e)))

finite_le : (x y : Float) → T (finite x) → T (finite y) → le x y ≡ leb (side x y) (side y x)
unfolding le
finite_le x y p q = ap₂ ◌||◌ (finite_tests x y p q).0 (finite_tests x y p q).1 ∙ leb_is (side x y) (side y x)

finite_lt_is : (x y : Float) → T (finite x) → T (finite y) → lt x y ≡ not (le y x)
finite_lt_is x y p q = (finite_tests x y p q).0 ∙ ltb_is (side x y) (side y x) ∙ ap not (sym (finite_le y x q p))

finite_eq_is : (x y : Float) → T (finite x) → T (finite y) → eq x y ≡ (le x y && le y x)
finite_eq_is x y p q = (finite_tests x y p q).1 ∙ eqb_is (side x y) (side y x) ∙ sym (ap₂ ◌&&◌ (finite_le x y p q) (finite_le y x q p))

ruleset products = (add-mul, mul_assoc, mul_comm, mul_left_comm)

-- The first premise times den z and the second times den x add up to the conclusion times den y.
side_trans : (x y z : Float) → side x y ≤ side y x → side y z ≤ side z y → side x z ≤ side z x
side_trans x y z h k =
    le_of_mul-le-mul_right (simp products (omega (arith, simp products at (mul-le-mul_right (den z) h), simp products at (mul-le-mul_right (den x) k)))) (den_pos y)

finite_le_trans : (x y z : Float) → T (finite x) → T (finite y) → T (finite z) → T (le x y) → T (le y z) → T (le x z)
finite_le_trans x y z p q r h k =
    rw (finite_le x z p r)
    (le→leb (side x z) (side z x)
    (side_trans x y z (leb→le (side x y) (side y x) (rw (finite_le x y p q) at h)) (leb→le (side y z) (side z y) (rw (finite_le y z q r) at k))))

-- ---- what compares is no NaN

pub le_known_l : (x y : Float) → T (le x y) → T (not (is_nan x))
unfolding le is_nan
le_known_l nan y h = h
le_known_l (inf s) y h = tt
le_known_l (fin s m e) y h = tt

pub le_known_r : (x y : Float) → T (le x y) → T (not (is_nan y))
unfolding le is_nan
le_known_r nan nan h = h
le_known_r (inf s) nan h = h
le_known_r (fin s m e) nan h = h
le_known_r x (inf t) h = tt
le_known_r x (fin t n d) h = tt

pub lt→le : (x y : Float) → T (lt x y) → T (le x y)
unfolding le
lt→le x y h = or_l (lt x y) (eq x y) h

pub lt_known_l : (x y : Float) → T (lt x y) → T (not (is_nan x))
lt_known_l x y h = le_known_l x y (lt→le x y h)

pub lt_known_r : (x y : Float) → T (lt x y) → T (not (is_nan y))
lt_known_r x y h = le_known_r x y (lt→le x y h)

-- ---- `lt` and `eq` by `le`: the sides for two finite doubles, and by computation elsewhere

pub lt_is : (x y : Float) → T (not (is_nan x)) → T (not (is_nan y)) → lt x y ≡ not (le y x)
unfolding le is_nan
lt_is nan y p q = absurd p
lt_is (inf s) nan p q = absurd q
lt_is (inf true) (inf true) p q = refl
lt_is (inf true) (inf false) p q = refl
lt_is (inf false) (inf true) p q = refl
lt_is (inf false) (inf false) p q = refl
lt_is (inf true) (fin t n d) p q = refl
lt_is (inf false) (fin t n d) p q = refl
lt_is (fin s m e) nan p q = absurd q
lt_is (fin s m e) (inf true) p q = refl
lt_is (fin s m e) (inf false) p q = refl
lt_is (fin s m e) (fin t n d) p q = finite_lt_is (fin s m e) (fin t n d) tt tt

pub eq_is : (x y : Float) → eq x y ≡ (le x y && le y x)
unfolding le
eq_is nan y = refl
eq_is (inf s) nan = refl
eq_is (inf true) (inf true) = refl
eq_is (inf true) (inf false) = refl
eq_is (inf false) (inf true) = refl
eq_is (inf false) (inf false) = refl
eq_is (inf true) (fin t n d) = refl
eq_is (inf false) (fin t n d) = refl
eq_is (fin s m e) nan = refl
eq_is (fin s m e) (inf true) = refl
eq_is (fin s m e) (inf false) = refl
eq_is (fin s m e) (fin t n d) = finite_eq_is (fin s m e) (fin t n d) tt tt

-- ---- the order

-- the infinities are the two ends
lowest : (y : Float) → T (not (is_nan y)) → T (le (inf true) y)
unfolding le is_nan
lowest nan q = absurd q
lowest (inf true) q = tt
lowest (inf false) q = tt
lowest (fin t n d) q = tt

highest : (y : Float) → T (le (inf false) y) → inf false ≡ y
unfolding le
highest nan h = absurd h
highest (inf true) h = absurd h
highest (inf false) h = refl
highest (fin t n d) h = absurd h

pub le_trans : (x y z : Float) → T (le x y) → T (le y z) → T (le x z)
unfolding le
le_trans nan y z h k = absurd h
le_trans (inf true) y z h k = lowest z (le_known_r y z k)
le_trans (inf false) y z h k = rw (highest y h) k
le_trans (fin s m e) nan z h k = absurd h
le_trans (fin s m e) (inf true) z h k = absurd h
le_trans (fin s m e) (inf false) z h k = subst (λ (w : Float). T (le (fin s m e) w)) (highest z k) h
le_trans (fin s m e) (fin t n d) nan h k = absurd k
le_trans (fin s m e) (fin t n d) (inf true) h k = absurd k
le_trans (fin s m e) (fin t n d) (inf false) h k = tt
le_trans (fin s m e) (fin t n d) (fin r o c) h k = finite_le_trans (fin s m e) (fin t n d) (fin r o c) tt tt tt h k

pub lt→not-le : (x y : Float) → T (lt x y) → T (not (le y x))
lt→not-le x y h = rw (lt_is x y (lt_known_l x y h) (lt_known_r x y h)) at h

pub not-le→lt : (x y : Float) → T (not (is_nan x)) → T (not (is_nan y)) → T (not (le y x)) → T (lt x y)
not-le→lt x y p q h = rw (lt_is x y p q) h

-- where `le y x` fails, `lt x y` holds
pub le_total : (x y : Float) → T (not (is_nan x)) → T (not (is_nan y)) → T (le x y) ⊎ T (le y x)
le_total x y p q = go (le y x) (not-le→lt x y p q)
  where
    go : (b : Bool) → (T (not b) → T (lt x y)) → T (le x y) ⊎ T b
    go true h = inr tt
    go false h = inl (lt→le x y (h tt))

pub le_refl : (x : Float) → T (not (is_nan x)) → T (le x x)
le_refl x p = ⊎_elim (λ h. h) (λ h. h) (le_total x x p p)

pub not-lt→le : (x y : Float) → T (not (is_nan x)) → T (not (is_nan y)) → T (not (lt x y)) → T (le y x)
not-lt→le x y p q h = rw (lt_is x y p q, not-not) at h

-- ---- the strict order

pub lt_le_trans : (x y z : Float) → T (lt x y) → T (le y z) → T (lt x z)
lt_le_trans x y z h k =
    not-le→lt x z (lt_known_l x y h) (le_known_r y z k)
    (not_T (le z x) (λ (l : T (le z x)). T_not (le y x) (lt→not-le x y h) (le_trans y z x k l)))

pub lt_trans : (x y z : Float) → T (lt x y) → T (lt y z) → T (lt x z)
lt_trans x y z h k = lt_le_trans x y z h (lt→le y z k)

pub lt_irrefl : (x : Float) → T (lt x x) → ⊥
lt_irrefl x h = T_not (le x x) (lt→not-le x x h) (lt→le x x h)

-- ---- equal as numbers

pub le_antisym : (x y : Float) → T (le x y) → T (le y x) → T (eq x y)
le_antisym x y h k = rw (eq_is x y) (and_i (le x y) (le y x) h k)

pub eq→le : (x y : Float) → T (eq x y) → T (le x y)
eq→le x y h = and_l (le x y) (le y x) (rw (eq_is x y) at h)

pub eq→ge : (x y : Float) → T (eq x y) → T (le y x)
eq→ge x y h = and_r (le x y) (le y x) (rw (eq_is x y) at h)

pub eq_refl : (x : Float) → T (not (is_nan x)) → T (eq x x)
eq_refl x p = le_antisym x x (le_refl x p) (le_refl x p)

pub eq_trans : (x y z : Float) → T (eq x y) → T (eq y z) → T (eq x z)
eq_trans x y z h k = le_antisym x z (le_trans x y z (eq→le x y h) (eq→le y z k)) (le_trans z y x (eq→ge y z k) (eq→ge x y h))

-- ---- equal as data

-- The bits are computed from the sign and the size alone, so equal doubles of the same sign have the same bits.
-- A double that fits is what its bits read back as, so it is then the same datum.
same_bits : (f : Format) (x y : Float) → T (eq x y) → negative x ≡ negative y → to_bits f x ≡ to_bits f y
unfolding eq to_bits
same_bits f nan y h i = absurd h
same_bits f (inf s) nan h i = absurd h
same_bits f (inf s) (inf t) h i = rw i
same_bits f (inf s) (fin t n d) h i = absurd h
same_bits f (fin s m e) nan h i = absurd h
same_bits f (fin s m e) (inf t) h i = absurd h
same_bits f (fin s m e) (fin t n d) h i =
    let a = m * up e in
    let b = n * up d in
    let l = 2 ^ low f in
    let equal : a * down d ≡ b * down e =
    eqb→eq (a * down d) (b * down e) (and_l (eqb (a * down d) (b * down e)) (beq s t || eqb (a * down d) 0) h) in
    let units : a * l / down e ≡ b * l / down d =
    div_same (a * l) (down e) (b * l) (down d) (down_pos e) (down_pos d) (mul_right_comm a l (down d) ∙ ap (λ (k : ℕ). k * l) equal ∙ mul_right_comm b (down e) l) in
    ap₂ (λ (r : Bool) (k : ℕ). cond r (top f) 0 + (size k - prec f) * hid f + k / 2 ^ (size k - prec f)) i units

pub eq→same : (f : Format) (x y : Float) → T (fits f x) → T (fits f y) → T (eq x y) → negative x ≡ negative y → x ≡ y
eq→same f x y p q h i = sym (of_bits-to_bits f x p) ∙ ap (of_bits f) (same_bits f x y h i) ∙ of_bits-to_bits f y q

-- ---- the later and the earlier of two

-- what holds of `cond b y x`, by the two cases of b
picked : (P : Float → Type 0) (b : Bool) (x y : Float) → (T b → P y) → (T (not b) → P x) → P (cond b y x)
picked P true x y f g = f tt
picked P false x y f g = g tt

pub later-left : (x y : Float) → T (not (is_nan x)) → T (not (is_nan y)) → T (le x (later x y))
later-left x y p q = picked (λ (w : Float). T (le x w)) (lt x y) x y (lt→le x y) (λ h. le_refl x p)

pub later_right : (x y : Float) → T (not (is_nan x)) → T (not (is_nan y)) → T (le y (later x y))
later_right x y p q = picked (λ (w : Float). T (le y w)) (lt x y) x y (λ h. le_refl y q) (not-lt→le x y p q)

pub later-least : (x y z : Float) → T (le x z) → T (le y z) → T (le (later x y) z)
later-least x y z h k = picked (λ (w : Float). T (le w z)) (lt x y) x y (λ l. k) (λ l. h)

pub earlier-left : (x y : Float) → T (not (is_nan x)) → T (not (is_nan y)) → T (le (earlier x y) x)
earlier-left x y p q = picked (λ (w : Float). T (le w x)) (lt y x) x y (lt→le y x) (λ h. le_refl x p)

pub earlier_right : (x y : Float) → T (not (is_nan x)) → T (not (is_nan y)) → T (le (earlier x y) y)
earlier_right x y p q = picked (λ (w : Float). T (le w y)) (lt y x) x y (λ h. le_refl y q) (not-lt→le y x q p)

pub earlier-most : (x y z : Float) → T (le z x) → T (le z y) → T (le z (earlier x y))
earlier-most x y z h k = picked (λ (w : Float). T (le z w)) (lt y x) x y (λ l. k) (λ l. h)
