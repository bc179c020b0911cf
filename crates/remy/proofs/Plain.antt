-- Times that are doubles without a minus sign. A tick's times are such, so two that are equal as doubles are the same datum. Assumes nothing.
use mathlib.Core.Path.{◌≡◌, refl, sym, ap, subst, ◌∙◌}
use mathlib.Core.Logic.{◌⊎◌, inl, inr}
use mathlib.Core.Bool.{Bool, true, false, cond, true≢false}
use Prim.Native.Nat.{ℕ, zero, suc, ◌+◌, ◌-◌, ◌*◌, ◌^◌, zero-le}
use native.Mathlib.Nat.{zero-mul, mul-one}
use borrow.Author.Tests.{le-ltb}
use lib.IntN.{ℤ}
use lib.Dec.{T, ltb, eqb, eqb→eq}
use lib.Ieee.{Float, nan, inf, fin, Format, binary64, prec, emax, low, up, down, odd, units, round, sum, add, lt, le, eq, fits}
use lib.Ieee.Fits.{add-fits, nan-fits, round_is, and_l}
use Rattle.quantities.specs.declared.time.Time.{Time}
use Rattle.quantities.specs.declared.time_span.TimeSpan.{TimeSpan}
use Rattle.quantities.specs.Doubles.{zero_f, least, negative}
use Rattle.quantities.specs.Units.{time_of, latest_of, span_after}
use Rattle.quantities.specs.NewTime.{Double}
use Rattle.quantities.proofs.Order.{eq→same}
use Rattle.remy.specs.HeldTimes.{Kinds}

-- a double of the format, without a minus sign
pub record Plain (t : Time) : Type 0 where
  pub double : Double t
  pub sign : negative t.0.0 ≡ false

-- ---- the sign of a rounded value is the sign asked for

odd_sign : (d : ℕ) (s : Bool) (q k l : ℕ) → negative (odd d s q k l) ≡ s
unfolding odd
odd_sign d s zero k l = refl
odd_sign d s (suc q) k l = refl

units_sign : (f : Format) (s : Bool) (q k : ℕ) → negative (units f s q k) ≡ s
unfolding units
units_sign f s q k = by (ltb (q * 2 ^ k) (2 ^ (low f + suc (emax f))))
  where
    by : (b : Bool) → negative (cond b (odd (suc (prec f)) s q k (low f)) (inf s)) ≡ s
    by true = odd_sign (suc (prec f)) s q k (low f)
    by false = refl

round_sign : (f : Format) (s : Bool) (a c : ℕ) → negative (round f s a c) ≡ s
round_sign f s a c = ap negative (round_is f s a c) ∙ units_sign f s _ _

-- ---- a sum with no minus sign on the left and not below zero on the right

-- a negative finite value that is not below zero is a zero
not_below : (n : ℕ) (d : ℤ) → T (le zero_f (fin true n d)) → n * up d ≡ 0
unfolding le lt eq
not_below n d h =
    sym (mul-one (n * up d))
    ∙ sym (eqb→eq (0 * down d) (n * up d * 1) (and_l (eqb (0 * down d) (n * up d * 1)) (eqb (0 * down d) 0) h))
    ∙ zero-mul (down d)

sum_sign : (f : Format) (a n : ℕ) (d e : ℤ) (c : ℕ) → n * up d ≡ 0 → negative (sum f false a true (n * up d * down e) c) ≡ false
unfolding sum
sum_sign f a n d e c z =
    let none : n * up d * down e ≡ 0 = ap (λ k. k * down e) z ∙ zero-mul (down e) in
    rw (none, le-ltb a 0 zero-le) (round_sign f false (a - 0) c)

add_sign : (f : Format) (x y : Float) → negative x ≡ false → T (le zero_f y) → negative (add f x y) ≡ false
unfolding add
add_sign f nan y s h = refl
add_sign f (inf true) y s h = absurd (true≢false s)
add_sign f (inf false) nan s h = refl
add_sign f (inf false) (inf true) s h = refl
add_sign f (inf false) (inf false) s h = refl
add_sign f (inf false) (fin t n d) s h = refl
add_sign f (fin true m e) y s h = absurd (true≢false s)
add_sign f (fin false m e) nan s h = refl
add_sign f (fin false m e) (inf true) s h = absurd (unfold le lt eq in h)
add_sign f (fin false m e) (inf false) s h = refl
add_sign f (fin false m e) (fin false n d) s h = unfold sum in round_sign f false (m * up e * down d + n * up d * down e) (down e * down d)
add_sign f (fin false m e) (fin true n d) s h = sum_sign f (m * up e * down d) n d e (down e * down d) (not_below n d h)

-- ---- the times of a tick

pub plain-after : {t : Time} (d : TimeSpan) → Plain t → T (le zero_f d.0) → Plain (span_after t d)
plain-after {t} d p h = record { double = add-fits binary64 t.0.0 d.0; sign = add_sign binary64 t.0.0 d.0 p.sign h }

-- two that are equal as doubles are the same
pub plain-same : {t u : Time} → Plain t → Plain u → eq t.0.0 u.0.0 ≡ true → t ≡ u
plain-same {t} {u} p q e = ap time_of (eq→same binary64 t.0.0 u.0.0 p.double q.double (subst T (sym e) tt) (p.sign ∙ sym q.sign))

-- nothing without a minus sign is below -MAX
not_least : (x : Float) → negative x ≡ false → lt x least ≡ false
unfolding lt
not_least nan s = refl
not_least (inf true) s = absurd (true≢false s)
not_least (inf false) s = refl
not_least (fin true m e) s = absurd (true≢false s)
not_least (fin false m e) s = refl

-- an earliest start is plain, or it is the first, -MAX
abbrev pub PlainOrLeast : Time → Type 0
PlainOrLeast t = Plain t ⊎ (t ≡ time_of least)

pub plain_latest : {t u : Time} → Plain t → PlainOrLeast u → Plain (latest_of t u)
plain_latest {t} {u} p (inl q) = by (lt t.0.0 u.0.0)
  where
    by : (b : Bool) → Plain (time_of (cond b u.0.0 t.0.0))
    by true = q
    by false = p
plain_latest {t} {u} p (inr e) = rw (e, not_least t.0.0 p.sign) p

pub plain_nan : Plain (time_of nan)
plain_nan = record { double = nan-fits binary64; sign = refl }

pub zero_plain : Plain (time_of zero_f)
zero_plain = record { double = unfold fits in tt; sign = refl }

-- such times, by kind
abbrev pub plain : Kinds
plain = record { free = λ l. PlainOrLeast; due = λ l. Plain; timer = λ i. Plain; toggle = λ i. Plain; queued = Plain }
