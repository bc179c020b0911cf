-- Each new time that a tick works out is finite and not below the clock, where the clock is a double: a clock that 10 lets pass, with a span that the network's ranges
-- allow. Assumes nothing.
use Rattle.std.proofs.Common.{Option, Some, None}
use mathlib.Core.Path.{◌≡◌, refl, subst}
use mathlib.Core.Bool.{true, false, not, cond}
use mathlib.Core.List.{List, []}
use Prim.Native.Nat.{ℕ, ◌<◌}
use lib.Dec.{leb, eqb}
use lib.Ieee.{Float, lt}
use Rattle.quantities.specs.declared.time.Time.{Time}
use Rattle.quantities.specs.declared.time_span.TimeSpan.{TimeSpan}
use Rattle.quantities.specs.declared.information.Information.{Information}
use Rattle.quantities.specs.declared.information_rate.InformationRate.{InformationRate}
use Rattle.quantities.specs.Doubles.{power}
use Rattle.quantities.specs.Units.{span_of, rate_of, amount_over_rate}
use Rattle.quantities.specs.NewTime.{FineTime, Double}
use Rattle.quantities.proofs.Ranges.{Within}
use Rattle.draws.specs.declared.distribution.ContinuousDistribution.{ContinuousDistribution}
use Rattle.draws.specs.Draws.{unit_of}
use Rattle.link.specs.declared.link.Line.{Line}
use Rattle.link.specs.declared.link.Delivered.{Delivered}
use Rattle.sender.specs.declared.lossy.Policy.{Policy}
use Rattle.sender.specs.declared.lossy.Policy.TheVariants.{Held, Grown, Timed}
use Rattle.sender.specs.declared.lossy.SenderState.{SenderState}
use Rattle.sender.specs.declared.lossy.SenderState.TheVariants as State
use Rattle.link.specs.Ring.{places}
use Rattle.link.specs.Link.{departed, is_due, try_deliver, is_free, next_start, due_time}
use Rattle.sender.specs.Sender.{timer_due, timer_in}
use Rattle.toggler.specs.Toggler.{next_toggle_of, toggle_draw}
use Rattle.link.proofs.NewTimes.{next-start-fine, due_time_fine}
use Rattle.link.proofs.Limits.{free_count}
use Rattle.sender.proofs.NewTimes.{timer_in_fine}
use Rattle.toggler.proofs.NewTimes.{next-toggle-fine}
use Rattle.remy.specs.declared.simulation.Simulation.{Simulation}
use Rattle.remy.specs.Network.{times_fit, policy_fit}
use Rattle.remy.specs.State.{line_count, values_of, Role, link, bouncer, sender, toggler, nobody, line_at, sender_at, toggler_at, first_of, front_of}
use Rattle.remy.specs.Fit.{fit}
use Rattle.remy.specs.NewTimes.{start_times, link_times, gap_times, first_times, sender_times, toggler_times, part_times, times_next, new_times, NewTimesFine}
use Rattle.remy.proofs.Facts.{both_l, both_r, FitState, fit-state}
use Rattle.remy.proofs.Networks.{FitNetwork, far, delay_within, gap_within}
use Rattle.remy.proofs.Front.{accepted, from_zero, clock_bounded, first-within}
use Rattle.remy.proofs.Lists.{All, all_member}
use Rattle.remy.proofs.Fresh.{redraw-within}
use Rattle.remy.proofs.Roles.{Real, role_at}
use Rattle.remy.proofs.Steps.{cond_elim}

-- ---- the new times of a part of an accepted network

module _ (s : Simulation) (f : FitState s) (P : Time → Type 0)
    (start : (bits : Information) (rate : InformationRate) → Within (amount_over_rate bits rate).0 (power 40) → P (next_start s.head.clock bits rate))
    (due : (delay : TimeSpan) → Within delay.0 (power 40) → P (due_time s.head.clock delay))
    (timer : (gap : Float) → Within gap (power 40) → P (timer_in s.head.clock gap))
    (toggle : (draw : Float) → Within draw (power 40) → P (next_toggle_of s.head.clock draw)) where
  n : FitNetwork s.network
  n = accepted s f

  module _ (l : ℕ) (there : l < line_count s.network) where
    -- on the line x with the packets that wait
    start_has : (x : Line) → x.waiting ≡ (line_at s l).waiting → All P (start_times s l x)
    start_has x same =
        let v = values_of s.network l in
        cond_elim (All P) (is_free x s.head.clock) _ []
        (λ e.
        let some : 0 < (line_at s l).waiting.count = subst (λ w. 0 < w.count) same (free_count x s.head.clock e) in
        cond_elim (All P) (leb places x.on_line.count) [] _ (λ full. tt)
        (λ room. (start (first_of s l).bits (rate_of v.rate) (first-within s f l there some), (due (span_of v.delay) (delay_within n l), tt))))
        (λ e. tt)

    -- a packet that leaves does not change what waits
    link_has : All P (link_times s l)
    unfolding try_deliver
    link_has =
        let x = line_at s l in
        let G : Delivered → Type 0 = λ d. All P (start_times s l d.line) in
        cond_elim G (is_due x s.head.clock (front_of s l)) _ _
        (λ e. cond_elim G (lt (unit_of x.rng).value (values_of s.network l).loss) _ _ (λ lost. start_has (departed x) refl) (λ out. start_has (departed x) refl))
        (λ e. start_has x refl)

  gap_has : (policy : Policy) → policy_fit policy ≡ true → All P (gap_times policy s.head.clock)
  gap_has (Held w) f = tt
  gap_has (Grown first most) f = tt
  gap_has (Timed most gap) f = (timer gap (gap_within most gap f), tt)

  first_has : (held : Option Time) → All P (first_times s.network.policy held s.head.clock)
  first_has None = gap_has s.network.policy n.policy
  first_has (Some t) = tt

  sender_has : (i : ℕ) (x : SenderState) → All P (sender_times s i x)
  sender_has i State.WaitingForEnable = tt
  sender_has i (State.Enabled e) =
      cond_elim (All P) (timer_due e s.head.clock) _ _
      (λ now. gap_has s.network.policy n.policy)
      (λ now. cond_elim (All P) (leb 16777216 (sender_at s i).packets_sent) [] _ (λ spent. tt) (λ room. first_has e.timer))

  toggler_has : (i : ℕ) → All P (toggler_times s i)
  toggler_has i =
      let t = toggler_at s i in
      let on = s.network.on in
      let off = s.network.off in
      let law = cond (not t.enabled) on off in
      let d = toggle_draw t on off in
      let fine : times_fit law ≡ true =
      cond_elim (λ (x : ContinuousDistribution). times_fit x ≡ true) (not t.enabled) on off (λ e. both_l (times_fit on) (times_fit off) n.times) (λ e. both_r (times_fit on) (times_fit off) n.times) in
      cond_elim (All P) (eqb d.number 0) _ [] (λ drawn. (toggle d.value (far d.value (redraw-within 8 law fine t.rng)), tt)) (λ spent. tt)

  pub part_has : (role : Role) → Real s.network role → All P (part_times s role)
  part_has (link l) r = link_has l r
  part_has bouncer r = tt
  part_has (sender i) r = sender_has i (sender_at s i).state
  part_has (toggler i) r = toggler_has i
  part_has nobody r = tt

-- ---- at a clock up to 2^40 that is a double, they are fine

abbrev pub Fine : Simulation → List Time → Type 0
Fine s ts = All (FineTime s.head.clock) ts

pub part_fine : (s : Simulation) → Double s.head.clock → FitState s → lt (power 40) s.head.clock.0.0 ≡ false → (role : Role) → Real s.network role → Fine s (part_times s role)
part_fine s double f early =
    let clock = s.head.clock in
    let c : Within clock.0.0 (power 40) = (from_zero s f, clock_bounded s f early) in
    part_has s f (FineTime clock) (next-start-fine clock c double) (due_time_fine clock c double) (timer_in_fine clock c double) (next-toggle-fine clock c double)

-- ---- every state

pub new_times_fine : (s : Simulation) → Double s.head.clock → NewTimesFine s
unfolding new_times
new_times_fine s double =
    all_member (FineTime s.head.clock) (new_times s) (cond_elim (Fine s) (fit s) (times_next s s.head.next) [] (λ e. with_next_lem e s.head.next) (λ e. tt))
  where
    with_next_lem : fit s ≡ true → (x : Option ℕ) → Fine s (times_next s x)
    with_next_lem e None = tt
    with_next_lem e (Some k) =
        let f = fit-state s e in
        cond_elim (Fine s) (lt (power 40) s.head.clock.0.0) [] _ (λ late. tt)
        (λ early. role_at (λ (role : Role). Fine s (part_times s role)) s.network k (λ role r e. part_fine s double f early role r) tt)
