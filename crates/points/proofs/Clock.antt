-- The sums, and the new times of ticks, computed; and for each clause of what is said of the clock something that it refuses, by that clause alone. Assumes nothing.
use Rattle.std.proofs.Common.{Option, Some, None}
use mathlib.Core.Path.{◌≡◌, refl, sym, ap, ◌∙◌}
use mathlib.Core.Logic.{◌⊎◌, inl, inr}
use mathlib.Core.Bool.{Bool, true, false, true≢false}
use mathlib.Core.List.{List, Memᴰ}
use native.Mathlib.Omega.{arith}
use lib.Ieee.{Float, eq, fits, is_nan}
use Rattle.quantities.specs.Doubles.{power}
use Rattle.quantities.specs.declared.time.Time.{Time}
use Rattle.remy.specs.NewTimes.{new_times}
use Rattle.remy.specs.History.{ticks}
use Rattle.remy.proofs.Lists.{All, all_member}
use Rattle.remy.proofs.Opened.{ticking}
use Rattle.points.specs.Points.{Hold}
use Rattle.points.specs.Unfit.{odd, busy, returning}
use Rattle.points.specs.Clock.{new_times_of, seconds, four, sent_one, its_tick, its_return, clock}
use Rattle.points.proofs.Claims.{◌and◌}

-- a time is no member of a list where a test tells it from each member
not_in : (f : Float → Bool) (t : Time) (ts : List Time) → f t.0.0 ≡ true → All (λ u. f u.0.0 ≡ false) ts → Memᴰ t ts → ⊥
not_in f t ts here there m = true≢false (sym here ∙ all_member (λ u. f u.0.0 ≡ false) ts there t m)

either : {A B : Type 0} → (A → ⊥) → (B → ⊥) → A ⊎ B → ⊥
either f g x = elim x [
  | inl a ↦ f a
  | inr b ↦ g b
]

is_seven : Float → Bool
is_seven = eq (odd 7)

is_four : Float → Bool
is_four = eq (power 2)

timer_is_seven : Option Time → Bool
timer_is_seven None = false
timer_is_seven (Some t) = is_seven t.0.0

-- a line for each comment of the list
pub clock_holds : Hold clock
unfolding ticking new_times new_times_of sent_one its_tick its_return busy returning fits is_seven is_four timer_is_seven is_nan
clock_holds =
    refl and refl
    and refl
    and refl
    and refl
    and refl
    and refl
    and (λ f. f.finite) and (λ f. f.ahead)
    and (λ d. d)
    and either (λ e. omega (arith, e)) (λ b. let low = b.0 in omega (arith, low)) and either (λ e. omega (arith, e)) (λ b. let high = b.1 in omega (arith, high))
    and (λ h. either (λ e. true≢false (ap (λ t. is_seven t.0.0) e)) (not_in is_seven (seconds 7) _ refl (refl, (refl, tt))) (h.free 0 (omega arith)))
    and (λ h. either (not_in is_seven (seconds 7) _ refl (refl, tt)) (not_in is_seven (seconds 7) _ refl (refl, (refl, tt))) (h.due 0 (omega arith) (seconds 7) (Memᴰ.head refl)))
    and (λ h. either (λ e. true≢false (sym (ap timer_is_seven e))) (not_in is_seven (seconds 7) _ refl (refl, (refl, tt))) (h.timer 0 (omega arith)))
    and (λ h. either (λ e. true≢false (sym (ap (λ t. is_seven t.0.0) e))) (not_in is_seven (seconds 7) _ refl (refl, (refl, tt))) (h.toggle 0 (omega arith)))
    and (λ h. either (λ e. true≢false (ap (λ t. is_four t.0.0) e)) (not_in is_four four _ refl (refl, (refl, tt))) (h.free 1 (omega arith)))
    and (λ h. either (not_in is_seven (seconds 7) _ refl (refl, tt)) (not_in is_seven (seconds 7) _ refl (refl, (refl, tt))) (h.due 1 (omega arith) (seconds 7) (Memᴰ.head refl)))
    and (λ o. (o.fine _ (Memᴰ.tail (Memᴰ.head refl))).ahead) and (λ o. o.clock refl)
    and (λ o. either (not_in is_nan _ _ refl tt) (not_in is_nan _ _ refl (refl, (refl, tt))) (o.held.due 0 (omega arith) _ (Memᴰ.head refl)))
    and (λ r. r.0) and (λ r. r.1.0)
    and (λ b. (b (ticks 2)).1.1.0)
    and tt
