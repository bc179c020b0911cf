-- What an accepted network has: each range by name. Assumes nothing.
use Rattle.std.proofs.Common.{Option, Some, None}
use mathlib.Core.Path.{◌≡◌, refl}
use mathlib.Core.Bool.{Bool, true, false, ◌&&◌, cond}
use Prim.Native.Nat.{ℕ, zero, suc, ◌≤◌, ◌<◌}
use native.Mathlib.Omega.{arith}
use borrow.Author.Tests.{leb-true}
use lib.Dec.{leb}
use lib.ListN.{get_or}
use lib.IntN.{negsuc}
use lib.Ieee.{Float, fin, le}
use Rattle.quantities.specs.Doubles.{zero_f, power}
use Rattle.quantities.specs.Units.{rate_of, amount_over_rate}
use Rattle.quantities.proofs.Order.{le_trans}
use Rattle.quantities.proofs.Ranges.{Within, within_wider, test→within}
use Rattle.link.specs.declared.link.LineValues.{LineValues}
use Rattle.link.proofs.NewTimes as Link
use Rattle.sender.specs.declared.lossy.Policy.TheVariants.{Timed}
use Rattle.remy.specs.declared.network.RemyNetwork.{RemyNetwork}
use Rattle.remy.specs.Network.{up_to, between, window_fit, gap_fit, delay_fit, rate_fit, loss_fit, limit_fit, sizes_fit, times_fit, policy_fit, values_fit, back_fit, network_stop}
use Rattle.remy.specs.State.{back_values, values_of, sender_bits}
use Rattle.remy.proofs.Facts.{both_l, both_r, both_i, range_low, range_high, between_low, between_high, up_to-at}

pub record FitNetwork (n : RemyNetwork) : Type 0 where
  pub line : values_fit n.line ≡ true
  pub sizes : sizes_fit n.bits n.senders ≡ true
  pub times : (times_fit n.on && times_fit n.off) ≡ true
  pub policy : policy_fit n.policy ≡ true
  pub back : back_fit n.back ≡ true

-- a test that failed would have given its number
passed : (b : Bool) (rest k : ℕ) → cond b rest (suc k) ≡ 0 → b ≡ true
passed true rest k e = refl
passed false rest k e = let no : ⊥ = omega arith in absurd no

next : (b : Bool) (rest k : ℕ) → cond b rest (suc k) ≡ 0 → rest ≡ 0
next true rest k e = e
next false rest k e = let no : ⊥ = omega arith in absurd no

pub fit-network : (n : RemyNetwork) → network_stop n ≡ 0 → FitNetwork n
unfolding network_stop
fit-network n e1 =
    let v = n.line in
    let e2 = next (delay_fit v.delay) _ 0 e1 in
    let e3 = next (rate_fit v.rate) _ 1 e2 in
    let e4 = next (loss_fit v.loss) _ 2 e3 in
    let e5 = next (limit_fit v.limit) _ 3 e4 in
    let e6 = next (sizes_fit n.bits n.senders) _ 4 e5 in
    let e7 = next (times_fit n.on && times_fit n.off) _ 5 e6 in
    let e8 = next (policy_fit n.policy) _ 6 e7 in
    record {
      line =
          both_i (delay_fit v.delay && rate_fit v.rate && loss_fit v.loss) (limit_fit v.limit)
          (both_i (delay_fit v.delay && rate_fit v.rate) (loss_fit v.loss)
          (both_i (delay_fit v.delay) (rate_fit v.rate) (passed (delay_fit v.delay) _ 0 e1) (passed (rate_fit v.rate) _ 1 e2))
          (passed (loss_fit v.loss) _ 2 e3))
          (passed (limit_fit v.limit) _ 3 e4);
      sizes = passed (sizes_fit n.bits n.senders) _ 4 e5;
      times = passed (times_fit n.on && times_fit n.off) _ 5 e6;
      policy = passed (policy_fit n.policy) _ 6 e7;
      back = passed (back_fit n.back) _ 19 e8;
    }

-- ---- the ranges of a line

back_fit_lem : (first : LineValues) (back : Option LineValues) → values_fit first ≡ true → back_fit back ≡ true → values_fit (back_values first back) ≡ true
back_fit_lem first None f b = f
back_fit_lem first (Some v) f b = b

module _ {n : RemyNetwork} (f : FitNetwork n) where
  -- each line's values; where there is no second line, its values are the first's
  pub line-fit : (l : ℕ) → values_fit (values_of n l) ≡ true
  line-fit zero = f.line
  line-fit (suc l) = back_fit_lem n.line n.back f.line f.back

  module _ (l : ℕ) where
    delay_and_rate : (delay_fit (values_of n l).delay && rate_fit (values_of n l).rate) ≡ true
    delay_and_rate =
        let v = values_of n l in
        let two = delay_fit v.delay && rate_fit v.rate in
        both_l two (loss_fit v.loss) (both_l (two && loss_fit v.loss) (limit_fit v.limit) (line-fit l))

    delay_fit_lem : delay_fit (values_of n l).delay ≡ true
    delay_fit_lem = both_l (delay_fit (values_of n l).delay) (rate_fit (values_of n l).rate) delay_and_rate

    rate_fit_lem : rate_fit (values_of n l).rate ≡ true
    rate_fit_lem = both_r (delay_fit (values_of n l).delay) (rate_fit (values_of n l).rate) delay_and_rate

-- a delay, a gap and a draw are at most 2^20
pub far : (x : Float) → Within x (power 20) → Within x (power 40)
far x w = within_wider x (power 20) (power 40) w (unfold le in tt)

module _ {n : RemyNetwork} (f : FitNetwork n) where
  pub few_senders : n.senders ≤ 16
  few_senders = leb-true n.senders 16 (both_l (leb n.senders 16) (up_to n.senders (λ i. between 1 16777216 (get_or n.bits i 0))) f.sizes)

  module _ (i : ℕ) (h : i < n.senders) where
    bits_between : between 1 16777216 (sender_bits n i).0 ≡ true
    bits_between =
        let each : ℕ → Bool = λ j. between 1 16777216 (get_or n.bits j 0) in
        up_to-at n.senders each (both_r (leb n.senders 16) (up_to n.senders each) f.sizes) i h

    pub some_bits : 1 ≤ (sender_bits n i).0
    some_bits = between_low 1 16777216 (sender_bits n i).0 bits_between

    pub few_bits : (sender_bits n i).0 ≤ 16777216
    few_bits = between_high 1 16777216 (sender_bits n i).0 bits_between

  -- ---- the spans that a tick adds to the clock
  pub delay_within : (l : ℕ) → Within (values_of n l).delay (power 40)
  delay_within l = far (values_of n l).delay (test→within (power 20) (values_of n l).delay (delay_fit_lem f l))

  pub sending-within : (l i : ℕ) → i < n.senders → Within (amount_over_rate (sender_bits n i) (rate_of (values_of n l).rate)).0 (power 40)
  sending-within l i h =
      let rate = (values_of n l).rate in
      Link.start-within (sender_bits n i) (rate_of rate) (some_bits i h) (few_bits i h) (range_low (power 0) (power 50) rate (rate_fit_lem f l)) (range_high (power 0) (power 50) rate (rate_fit_lem f l))

pub gap_within : (most : ℕ) (gap : Float) → policy_fit (Timed most gap) ≡ true → Within gap (power 40)
gap_within most gap f =
    let least = fin false 1 (negsuc 19) in
    let fine = both_r (window_fit most) (gap_fit gap) f in
    far gap (le_trans zero_f least gap (unfold le in tt) (range_low least (power 20) gap fine), range_high least (power 20) gap fine)
