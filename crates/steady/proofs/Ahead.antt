-- Times that may be there: held, not before another time, and the same as another. Assumes nothing.
use Rattle.std.proofs.Common.{Option, Some, None}
use mathlib.Core.Path.{◌≡◌, refl}
use mathlib.Core.Bool.{true, not, false≢true}
use lib.Dec.{T}
use lib.Ieee.{Float, le, eq, is_nan}
use lib.Ieee.Bits.{is_true}
use Rattle.quantities.specs.declared.time.Time.{Time}
use Rattle.quantities.specs.Doubles.{power, earlier}
use Rattle.quantities.specs.Units.{latest_of, earliest_of, earliest_opt_of}
use Rattle.quantities.proofs.Order.{le_known_l, le_refl, le_trans, le_antisym, eq_refl, eq_trans, eq→le, eq→ge, later-left, later-least, earlier-left, earlier_right, earlier-most}
use Rattle.remy.specs.declared.simulation.Simulation.{Simulation}
use Rattle.remy.specs.Fit.{held, held_queued, same_time}
use Rattle.remy.specs.HeldTimes.{IfAny}
use Rattle.remy.proofs.Facts.{both_l, both_r, both_i, holds}
use Rattle.steady.proofs.Facts.{NotAfter, Held}

abbrev pub HeldIfAny : Option Time → Type 0
HeldIfAny x = IfAny Held x

-- not before t
abbrev pub FromIfAny : Time → Option Time → Type 0
FromIfAny t x = IfAny (NotAfter t) x

-- held, from the clock on
pub record Ahead (clock : Time) (x : Option Time) : Type 0 where
  pub held : HeldIfAny x
  pub from : FromIfAny clock x

-- a held time is no NaN
pub held_known : (t : Time) → Held t → T (not (is_nan t.0.0))
held_known t h = le_known_l t.0.0 (power 41) h

-- ---- the queue's test of a time

pub queued_ahead : (s : Simulation) (x : Option Time) → held_queued s x ≡ true → Ahead s.head.clock x
queued_ahead s None e = record { held = tt; from = tt }
queued_ahead s (Some t) e =
    let late = le s.head.clock.0.0 t.0.0 in
    record { held = holds (held t) (both_l (held t) late e); from = holds late (both_r (held t) late e) }

pub ahead-queued : (s : Simulation) (x : Option Time) → Ahead s.head.clock x → held_queued s x ≡ true
ahead-queued s None a = refl
ahead-queued s (Some t) a =
    let late = le s.head.clock.0.0 t.0.0 in
    both_i (held t) late (is_true (held t) a.held) (is_true late a.from)

-- ---- the same time

-- a held time is the same as itself
pub same_self : (x : Option Time) → HeldIfAny x → same_time x x ≡ true
same_self None h = refl
same_self (Some t) h = is_true (eq t.0.0 t.0.0) (eq_refl t.0.0 (held_known t h))

pub same_trans : (x y z : Option Time) → same_time x y ≡ true → same_time y z ≡ true → same_time x z ≡ true
same_trans None None z h k = k
same_trans None (Some u) z h k = absurd (false≢true h)
same_trans (Some t) None z h k = absurd (false≢true h)
same_trans (Some t) (Some u) None h k = absurd (false≢true k)
same_trans (Some t) (Some u) (Some v) h k =
    is_true (eq t.0.0 v.0.0) (eq_trans t.0.0 u.0.0 v.0.0 (holds (eq t.0.0 u.0.0) h) (holds (eq u.0.0 v.0.0) k))

pub from_same : (t : Time) (x y : Option Time) → same_time x y ≡ true → FromIfAny t x → FromIfAny t y
from_same t None None e h = tt
from_same t None (Some v) e h = absurd (false≢true e)
from_same t (Some u) None e h = tt
from_same t (Some u) (Some v) e h = le_trans t.0.0 u.0.0 v.0.0 h (eq→le u.0.0 v.0.0 (holds (eq u.0.0 v.0.0) e))

-- ---- the clock, and the later of the clock and a held time

module _ (clock : Time) (h : Held clock) where
  pub ahead_now : Ahead clock (Some clock)
  ahead_now = record { held = h; from = le_refl clock.0.0 (held_known clock h) }

  pub ahead_latest : (t : Time) → Held t → Ahead clock (Some (latest_of clock t))
  ahead_latest t k =
      record { held = later-least clock.0.0 t.0.0 (power 41) h k; from = later-left clock.0.0 t.0.0 (held_known clock h) (held_known t k) }

-- ---- the earlier of two

pub ahead_earliest : (clock : Time) (a b : Option Time) → Ahead clock a → Ahead clock b → Ahead clock (earliest_opt_of a b)
ahead_earliest clock None b p q = q
ahead_earliest clock (Some t) None p q = p
ahead_earliest clock (Some t) (Some u) p q =
    record {
      held = le_trans (earliest_of t u).0.0 t.0.0 (power 41) (earlier-left t.0.0 u.0.0 (held_known t p.held) (held_known u q.held)) p.held;
      from = earlier-most t.0.0 u.0.0 clock.0.0 p.from q.from;
    }

-- where it is not before t, neither of the two is
pub from_left : (t : Time) (a b : Option Time) → HeldIfAny a → HeldIfAny b → FromIfAny t (earliest_opt_of a b) → FromIfAny t a
from_left t None b p q h = tt
from_left t (Some u) None p q h = h
from_left t (Some u) (Some v) p q h = le_trans t.0.0 (earliest_of u v).0.0 u.0.0 h (earlier-left u.0.0 v.0.0 (held_known u p) (held_known v q))

pub from_right : (t : Time) (a b : Option Time) → HeldIfAny a → HeldIfAny b → FromIfAny t (earliest_opt_of a b) → FromIfAny t b
from_right t None b p q h = h
from_right t (Some u) None p q h = tt
from_right t (Some u) (Some v) p q h = le_trans t.0.0 (earliest_of u v).0.0 v.0.0 h (earlier_right u.0.0 v.0.0 (held_known u p) (held_known v q))

earlier-le : (x x' y : Float) → T (le x x') → T (not (is_nan y)) → T (le (earlier x y) (earlier x' y))
earlier-le x x' y h k =
    let known = le_known_l x x' h in
    earlier-most x' y (earlier x y) (le_trans (earlier x y) x x' (earlier-left x y known k) h) (earlier_right x y known k)

pub same_earliest : (a a' b : Option Time) → HeldIfAny b → same_time a a' ≡ true → same_time (earliest_opt_of a b) (earliest_opt_of a' b) ≡ true
same_earliest None None b p e = same_self b p
same_earliest None (Some u) b p e = absurd (false≢true e)
same_earliest (Some t) None b p e = absurd (false≢true e)
same_earliest (Some t) (Some u) None p e = e
same_earliest (Some t) (Some u) (Some v) p e =
    let h = holds (eq t.0.0 u.0.0) e in
    is_true (eq (earliest_of t v).0.0 (earliest_of u v).0.0)
    (le_antisym (earliest_of t v).0.0 (earliest_of u v).0.0
    (earlier-le t.0.0 u.0.0 v.0.0 (eq→le t.0.0 u.0.0 h) (held_known v p))
    (earlier-le u.0.0 t.0.0 v.0.0 (eq→ge t.0.0 u.0.0 h) (held_known v p)))
