-- The one switch gives what the two switches of the Rust gave, at true and at false. Assumes nothing.
use Rattle.std.proofs.Common.{Option, Some, None}
use mathlib.Core.Path.{◌≡◌, refl}
use mathlib.Core.Bool.{Bool, true, false, not, ◌&&◌, beq, cond}
use lib.Ieee.{le}
use Rattle.quantities.specs.declared.time.Time.{Time}
use Rattle.meters.specs.declared.meter.AverageFlowMeter.{AverageFlowMeter}
use Rattle.meters.specs.Meter.{Metered, not_before, within_limits, ready, taken, unchanged, is_on, turned, switched_of}
use Rattle.meters.specs.Switches.{Timer, timer_enable, timer_disable, answered, SwitchedOn, SwitchedOff}

module _ (m : AverageFlowMeter) (t : Time) where
  -- the one switch and one of the two, at any start, whether meter and time are within their limits or not
  abbrev switched : Bool → Bool → Option Time → Metered
  switched on pass start = cond (pass && not_before start t && not (beq on (is_on start))) (taken (turned m start t)) (unchanged m)

  abbrev before : Bool → Option Timer → Metered
  before pass call = answered m (cond pass call None)

  asked_again : (late : Bool) (x : Metered) → cond (late && false) x (unchanged m) ≡ unchanged m
  asked_again true x = refl
  asked_again false x = refl

  on : (pass : Bool) (start : Option Time) → switched true pass start ≡ before pass (timer_enable m.total_time start t)
  on false start = refl
  on true None = refl
  on true (Some s) = asked_again (le s.0.0 t.0.0) _

  ended : (late : Bool) (timer : Timer) → cond (late && true) (answered m (Some timer)) (unchanged m) ≡ answered m (cond late (Some timer) None)
  ended true timer = refl
  ended false timer = refl

  off : (pass : Bool) (start : Option Time) → switched false pass start ≡ before pass (timer_disable m.total_time start t)
  off false start = refl
  off true None = refl
  off true (Some s) = ended (le s.0.0 t.0.0) _

pub on_as_before : SwitchedOn
unfolding switched_of ready
on_as_before m t = on m t (within_limits m t) m.current_start

pub off_as_before : SwitchedOff
unfolding switched_of ready
off_as_before m t = off m t (within_limits m t) m.current_start
