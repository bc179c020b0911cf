-- Times at an early clock: new times, timers, and spans since a past time. Assumes nothing.
use Rattle.std.proofs.Common.{Option, Some, None}
use mathlib.Core.Path.{◌≡◌, refl}
use mathlib.Core.Bool.{true}
use Prim.Native.Nat.{ℕ, ◌-◌, ◌*◌, ◌≤◌}
use native.Mathlib.Nat.{mul_assoc, mul-le-mul_right, sub-le}
use native.Mathlib.Nat
use lib.Dec.{T}
use lib.Ieee.{Float, Format, binary64, add, sub, le, fits}
use lib.Ieee.Scale.{finite}
use lib.Ieee.Positive.{num, den}
use Rattle.quantities.specs.declared.time.Time.{Time}
use Rattle.quantities.specs.declared.time_span.TimeSpan.{TimeSpan}
use Rattle.quantities.specs.Doubles.{zero_f, power, largest}
use Rattle.quantities.specs.Units.{span_of, since, span_sum, span_after}
use Rattle.quantities.specs.NewTime.{Double}
use Rattle.quantities.proofs.Order.{le_trans, le_refl, le_known_r}
use Rattle.quantities.proofs.Values.{Is, Rounds, own, le_is, rounds_below, rounds_from_zero, sub_rounds}
use Rattle.quantities.proofs.Ranges.{Within, within-finite, test→within, add_within, sum_held, sum_fine}
use Rattle.meters.specs.Meter.{total_fit}
use Rattle.sender.specs.declared.lossy.Policy.{Policy}
use Rattle.sender.specs.Sender.{timer_in, timer_sent}
use Rattle.remy.specs.Network.{policy_fit}
use Rattle.remy.proofs.Facts.{range_i}
use Rattle.remy.proofs.Networks.{gap_within}
use Rattle.steady.proofs.Facts.{NotAfter, Held, Past, TimerOk, TimerIfAny}

-- a clock that stop 10 lets pass, and that is a double
pub record Early (clock : Time) : Type 0 where
  pub low : T (le zero_f clock.0.0)
  pub high : T (le clock.0.0 (power 40))
  pub double : Double clock

pub now_past : (clock : Time) → Early clock → Past clock clock
now_past clock c = record { low = c.low; high = le_refl clock.0.0 (le_known_r zero_f clock.0.0 c.low) }

-- ---- new times

pub new_held : (clock : Time) (span : TimeSpan) → Early clock → Within span.0 (power 40) → Held (span_after clock span)
new_held clock span c w = sum_held clock span (c.low, c.high) w

pub new_ahead : (clock : Time) (span : TimeSpan) → Early clock → Within span.0 (power 40) → NotAfter clock (span_after clock span)
new_ahead clock span c w = (sum_fine clock span (c.low, c.high) w c.double).ahead

-- ---- timers

pub timer_in_ok : (most : ℕ) (gap : Float) (clock : Time) → policy_fit (Policy.Timed most gap) ≡ true → Early clock
    → TimerOk (Policy.Timed most gap) clock (timer_in clock gap)
timer_in_ok most gap clock f c =
    record { timed = refl; held = new_held clock (span_of gap) c (gap_within most gap f); ahead = new_ahead clock (span_of gap) c (gap_within most gap f) }

pub timer_sent_ok : (policy : Policy) (timer : Option Time) (clock : Time) → policy_fit policy ≡ true → Early clock → TimerIfAny policy clock timer
    → TimerIfAny policy clock (timer_sent policy timer clock)
unfolding timer_sent
timer_sent_ok (Policy.Held w) timer clock f c k = k
timer_sent_ok (Policy.Grown first most) timer clock f c k = k
timer_sent_ok (Policy.Timed most gap) (Some t) clock f c k = k
timer_sent_ok (Policy.Timed most gap) None clock f c k = timer_in_ok most gap clock f c

-- ---- spans since a past time

-- a difference of two that are in order is at most a double of the format that the first is at most
sub_below : (f : Format) (x y hi : Float) → T (fits f hi) → T (finite hi) → Within y x → T (le x hi) → Within (sub f x y) hi
sub_below f x y hi fine t w l =
    let from : T (le zero_f x) = le_trans zero_f y x w.0 w.1 in
    let s : T (finite x) = within-finite x hi (from, l) t in
    let p : Is x (num x) (den x) = own x s from in
    let q : Is y (num y) (den y) = own y (within-finite y x w s) w.0 in
    let top : Is hi (num hi) (den hi) = own hi t (le_trans zero_f x hi from l) in
    let r : Rounds f (sub f x y) (num x * den y - num y * den x) (den x * den y) = sub_rounds f p q w.1 in
    (rounds_from_zero r, rounds_below f fine top r (go (num x) (den x) (num y) (den y) (num hi) (den hi) (le_is p top l)))
  where
    go : (a c b d m n : ℕ) → a * n ≤ m * c → (a * d - b * c) * n ≤ m * (c * d)
    go a c b d m n h =
        let less : (a * d - b * c) * n ≤ a * d * n = mul-le-mul_right n (sub-le (a * d) (b * c)) in
        let order : a * n * d ≤ m * c * d = mul-le-mul_right d h in
        let left : a * d * n ≡ a * n * d = Nat.mul_right_comm a d n in
        let right : m * c * d ≡ m * (c * d) = mul_assoc m c d in
        Nat.le_trans less (rw (left, ← right) order)

since-within : (clock t : Time) → Early clock → Past clock t → Within (since clock t).0 (power 41)
since-within clock t c p =
    sub_below binary64 clock.0.0 t.0.0 (power 41) (unfold fits in tt) tt (p.low, p.high)
    (le_trans clock.0.0 (power 40) (power 41) c.high (unfold le in tt))

-- a total takes in such a span
pub total_grows : (total : TimeSpan) (clock t : Time) → total_fit total ≡ true → Early clock → Past clock t → total_fit (span_sum total (since clock t)) ≡ true
total_grows total clock t f c p =
    let r = add_within binary64 total.0 largest (since clock t).0 (power 41) largest (test→within largest total.0 f) (since-within clock t c p) tt tt (unfold add le in tt) tt in
    range_i zero_f largest (span_sum total (since clock t)).0 r.1.0 r.1.1
