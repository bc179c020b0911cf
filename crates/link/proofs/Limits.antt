-- Tests of the link in terms of numbers. Assumes nothing.
use mathlib.Core.Path.{◌≡◌, refl, sym, subst}
use mathlib.Core.Bool.{Bool, true, false}
use Prim.Native.Nat.{ℕ, ◌+◌, ◌-◌, ◌≤◌, ◌<◌}
use native.Mathlib.Omega.{arith}
use borrow.Author.Tests.{le-leb, lt-leb, leb-true, leb-false}
use lib.Dec.{T, leb, leb→le}
use lib.Ieee.{le, eq}
use lib.Ieee.Fits.{and_l, and_r}
use Rattle.quantities.specs.declared.time.Time.{Time}
use Rattle.link.specs.declared.packet.Transit.{Transit}
use Rattle.link.specs.declared.link.Line.{Line}
use Rattle.link.specs.Link.{is_due, is_free}

-- ---- a limit, compared without a sum that could wrap

pub above_limit : (waiting bits most : ℕ) → most < bits → leb (waiting + bits) most ≡ false
above_limit waiting bits most h = lt-leb (waiting + bits) most (omega arith)

pub below-limit : (waiting bits most : ℕ) → bits ≤ most → leb (waiting + bits) most ≡ leb waiting (most - bits)
below-limit waiting bits most h = cases (leb waiting (most - bits)) (leb-true waiting (most - bits)) (leb-false waiting (most - bits))
  where
    cases : (b : Bool) → (b ≡ true → waiting ≤ most - bits) → (b ≡ false → most - bits < waiting) → leb (waiting + bits) most ≡ b
    cases true f g = let fits = f refl in le-leb (waiting + bits) most (omega arith)
    cases false f g = let above = g refl in lt-leb (waiting + bits) most (omega arith)

-- ---- a packet that leaves or starts is there

pub due_count : (l : Line) (clock : Time) (front : Transit) → is_due l clock front ≡ true → 1 ≤ l.on_line.count
unfolding is_due
due_count l clock front e =
    leb→le 1 l.on_line.count (and_l (leb 1 l.on_line.count) (eq front.due.0.0 clock.0.0) (subst T (sym e) tt))

pub free_count : (l : Line) (clock : Time) → is_free l clock ≡ true → 1 ≤ l.waiting.count
unfolding is_free
free_count l clock e =
    leb→le 1 l.waiting.count (and_r (le l.earliest_transmit.0.0 clock.0.0) (leb 1 l.waiting.count) (subst T (sym e) tt))
