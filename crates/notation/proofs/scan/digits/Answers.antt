-- `notation::scan::digits` meets its contract. The invariant: what was passed is a run of digits with the value so far. A digit more is another such run, or shows that the value passes `most`; a byte that is no digit ends the run.
-- Assumes nothing.
use mathlib.Core.Path.{◌≡◌, refl}
use Prim.Native.Nat.{ℕ, ◌+◌, ◌*◌, ◌/◌, ◌≤◌, ◌<◌, ◌-◌}
use native.Mathlib.Nat.{div-lt_iff_lt-mul, le-div_iff_mul-le}
use native.Mathlib.Omega.{arith}
use Rattle.std.specs.Prelude.{Option, Some, None}
use Rattle.std.specs.Option.{unwrap_or}
use Rattle.notation.proofs.Digits.{some_none, some_more, some_over}
use Rattle.notation.specs.InPlace.{InPlace}
use Rattle.notation.proofs.scan.digits.Code as code
use Rattle.notation.proofs.scan.digits.Goals as goal
use Rattle.notation.proofs.scan.digits.Goals.{then-most-d-via-then-most-d, then-most-d-via-else-most-d+then-most-d-2}

-- a number below the base is a digit's
digit_below : (o : Option ℕ) (base d : ℕ) → d ≡ unwrap_or o base → d < base → o ≡ Some d
digit_below None base d e h = let no : ⊥ = omega (arith, e) in absurd no
digit_below (Some x) base d e h = rw e refl

-- the test of the code says whether the next value is at most most
above : (v b d most : ℕ) → 0 < b → d ≤ most → (most - d) / b < v → most < v * b + d
above v b d most p h l = let z = (div-lt_iff_lt-mul p).0 l in omega arith

within : (v b d most : ℕ) → 0 < b → d ≤ most → v ≤ (most - d) / b → v * b + d ≤ most
within v b d most p h l = let z = (le-div_iff_mul-le p).0 l in omega arith

pub loop-next-init : goal.loop-next-init
loop-next-init c = some_none _ _ _ _

pub returns-then-most-d : goal.returns-then-most-d
returns-then-most-d c =
    let low : c.unwrap_or-d.result < c.args.base = omega (arith, c.if-base-d.false) in
    let d = (c.digit.ensures c.unwrap_or-d.result).0 (digit_below c.digit.result c.args.base _ c.unwrap_or-d.ensures low) in
    let over : c.args.most < c.loop-next.value * c.args.base + c.unwrap_or-d.result = elim c.then-most-d.branch [
      | then-most-d-via-then-most-d w ↦ omega (arith, w.if-most-d.true)
      | then-most-d-via-else-most-d+then-most-d-2 w ↦ above _ _ _ _ c.requires.0 w.if-most-d.false w.if-most-d-2.true
    ] in
    some_over _ _ _ _ c.loop-next.invariant c.loop-next-test.true _ d.1 low c.requires.0 c.requires.1 over

pub loop-next-preserved : goal.loop-next-preserved
loop-next-preserved c =
    let low : c.unwrap_or-d.result < c.args.base = omega (arith, c.if-base-d.false) in
    let d = (c.digit.ensures c.unwrap_or-d.result).0 (digit_below c.digit.result c.args.base _ c.unwrap_or-d.ensures low) in
    some_more _ _ _ _ c.loop-next.invariant c.loop-next-test.true _ d.1 low (within _ _ _ _ c.requires.0 c.if-most-d.false c.if-most-d-2.false)

in_place : InPlace code.function
in_place = refl
