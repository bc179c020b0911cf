-- The times that a start works out are fine, at a clock up to 2^40 that is a double. Assumes nothing.
use Prim.Native.Nat.{◌≤◌, ◌^◌}
use mathlib.Core.Bool.{false}
use lib.Dec.{T}
use lib.IntN.{negsuc}
use lib.Ieee.{fin, le}
use Rattle.quantities.specs.declared.time.Time.{Time}
use Rattle.quantities.specs.declared.time_span.TimeSpan.{TimeSpan}
use Rattle.quantities.specs.declared.information.Information.{Information}
use Rattle.quantities.specs.declared.information_rate.InformationRate.{InformationRate}
use Rattle.quantities.specs.Doubles.{zero_f, power}
use Rattle.quantities.specs.Units.{amount_over_rate}
use Rattle.quantities.specs.NewTime.{FineTime, Double}
use Rattle.quantities.proofs.Order.{le_trans}
use Rattle.quantities.proofs.Ranges.{Within, sending, sum_fine}
use Rattle.link.specs.Link.{next_start, due_time}

-- the time that a packet takes to start: of 1 to 2^24 bits, at a rate of 1 to 2^50
pub start-within : (bits : Information) (rate : InformationRate) → 1 ≤ bits.0 → bits.0 ≤ 2 ^ 24 → T (le (power 0) rate.0) → T (le rate.0 (power 50))
    → Within (amount_over_rate bits rate).0 (power 40)
start-within bits rate h k v w =
    let r = sending bits.0 rate.0 h k v w in
    let x = (amount_over_rate bits rate).0 in
    (le_trans zero_f (fin false 1 (negsuc 49)) x (unfold le in tt) r.1, le_trans x (power 24) (power 40) r.2 (unfold le in tt))

module _ (clock : Time) (c : Within clock.0.0 (power 40)) (double : Double clock) where
  pub next-start-fine : (bits : Information) (rate : InformationRate) → Within (amount_over_rate bits rate).0 (power 40) → FineTime clock (next_start clock bits rate)
  next-start-fine bits rate w = sum_fine clock (amount_over_rate bits rate) c w double

  pub due_time_fine : (delay : TimeSpan) → Within delay.0 (power 40) → FineTime clock (due_time clock delay)
  due_time_fine delay w = sum_fine clock delay c w double
