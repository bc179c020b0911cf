-- Every tick keeps plain times plain. Assumes nothing.
use mathlib.Core.Path.{refl}
use mathlib.Core.Logic.{inl}
use lib.Dec.{T}
use lib.Ieee.{Float, fits, le}
use Rattle.quantities.specs.declared.time.Time.{Time}
use Rattle.quantities.specs.Doubles.{zero_f}
use Rattle.quantities.specs.Units.{span_of, span_after}
use Rattle.remy.specs.declared.simulation.Simulation.{Simulation}
use Rattle.remy.specs.State.{Role}
use Rattle.remy.specs.Tick.{tick_of}
use Rattle.remy.specs.NewTimes.{part_times}
use Rattle.remy.specs.HeldTimes.{Has}
use Rattle.remy.proofs.Lists.{All, all_map}
use Rattle.remy.proofs.Facts.{FitState}
use Rattle.remy.proofs.Plain.{Plain, plain, plain-after, plain_latest}
use Rattle.remy.proofs.NewTimes.{part_has}
use Rattle.remy.proofs.Roles.{Real}
use Rattle.remy.proofs.HeldTimes.{Every, Closed, tick_has}

pub plain_closed : (c : Time) → Plain c → Closed plain c
plain_closed c p =
    record { now = p; last = record { double = unfold fits in tt; sign = refl }; freed = λ l t q. plain_latest p q; left = λ l t q. q; fired = λ i t q. q; turned = λ i t q. q }

new_plain : (s : Simulation) → Plain s.head.clock → FitState s → (role : Role) → Real s.network role → All (Every plain) (part_times s role)
new_plain s p f role real =
    all_map Plain (Every plain) (λ t q. record { free = λ l. inl q; due = λ l. q; timer = λ i. q; toggle = λ i. q }) (part_times s role)
    (part_has s f Plain (λ bits rate w. sum _ w.0) (λ delay w. sum _ w.0) (λ gap w. sum gap w.0) (λ draw w. sum draw w.0) role real)
  where
    sum : (span : Float) → T (le zero_f span) → Plain (span_after s.head.clock (span_of span))
    sum span h = plain-after (span_of span) p h

pub tick_plain : (s : Simulation) → Has plain s → Has plain (tick_of s).simulation
tick_plain = tick_has plain plain_closed new_plain
