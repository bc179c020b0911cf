-- What a meter keeps through a record and through a switch. Assumes nothing.
use Rattle.std.proofs.Common.{Option, Some, None}
use mathlib.Core.Path.{◌≡◌, refl, sym, ap, subst}
use mathlib.Core.Bool.{Bool, true, false, not, ◌&&◌, beq}
use Prim.Native.Nat.{ℕ, suc, ◌+◌, ◌^◌, ◌≤◌, ◌<◌}
use native.Mathlib.Nat.{add-mul, one-mul, le_of_eq}
use native.Mathlib.Omega.{arith}
use borrow.Author.Tests.{eqb-true, ltb-true}
use lib.Dec.{leb, ltb, eqb}
use lib.Ieee.{Float, binary64, add, mul, of_int, le}
use Rattle.quantities.specs.declared.time.Time.{Time}
use Rattle.quantities.specs.declared.time_span.TimeSpan.{TimeSpan}
use Rattle.quantities.specs.Doubles.{zero_f, power, in_range}
use Rattle.quantities.specs.Units.{amount_of}
use Rattle.quantities.proofs.Ranges.{Within, within_wider, test→within, limit, sum_within}
use Rattle.meters.specs.declared.meter.AverageFlowMeter.{AverageFlowMeter}
use Rattle.flows.specs.Sums.{summed_of}
use Rattle.meters.specs.Meter.{Metered, is_on, ready, taken, unchanged, turned, counted_of, switched_of, recorded_of}
use Rattle.remy.proofs.Facts.{both_l, both_r, range_i}
use Rattle.remy.proofs.Steps.{cond_elim}
use Rattle.remy.proofs.Parts.{turned-records}
use Rattle.remy.proofs.Taken.{MeterFacts, switch_taken}
use Rattle.steady.proofs.Facts.{Past, PastIfAny, MeterOk}
use Rattle.steady.proofs.Times.{Early, now_past, total_grows}

-- ---- a record

-- a sum of n round trips, with one more; the first stands alone
summed-within : (n : ℕ) (sum rtt : Float) → n < 16777216 → Within sum (limit 41 n) → Within rtt (power 41) → Within (summed_of n sum rtt) (limit 41 (n + 1))
unfolding summed_of
summed-within n sum rtt few v w =
    cond_elim (λ (x : Float). Within x (limit 41 (n + 1))) (eqb n 0) rtt (add binary64 sum rtt)
    (λ e. subst (λ (k : ℕ). Within rtt (limit 41 (k + 1))) (sym (eqb-true n 0 e)) (within_wider rtt (power 41) (limit 41 1) w (unfold mul of_int le in tt)))
    (λ e. let next : suc n ≡ n + 1 = omega arith in
    let small : n < 2 ^ 52 = omega (arith, few) in
    subst (λ (k : ℕ). Within (add binary64 sum rtt) (limit 41 k)) next (sum_within 41 n sum rtt (omega arith) small v w).1)

-- what a record leaves: at most one more counted
pub record Recorded (size : ℕ) (clock : Time) (m m' : AverageFlowMeter) : Type 0 where
  pub same : m'.current_start ≡ m.current_start
  pub one : m'.records ≤ m.records + 1
  pub kept : MeterOk size clock m'

pub recorded_ok : (size : ℕ) (clock : Time) (m : AverageFlowMeter) (rtt : TimeSpan) → MeterOk size clock m → Recorded size clock m (recorded_of m (amount_of size) rtt clock).meter
unfolding recorded_of
recorded_ok size clock m rtt k =
    let in-range = in_range zero_f (power 41) rtt.0 in
    let some = leb 1 size in
    let small = leb size 16777216 in
    let room = ltb m.records 16777216 in
    cond_elim (λ (x : Metered). Recorded size clock m x.meter) (ready m clock && in-range && some && small && room) (taken (counted_of m (amount_of size) rtt)) (unchanged m)
    (λ fine.
    let few : m.records < 16777216 = ltb-true m.records 16777216 (both_r (ready m clock && in-range && some && small) room fine) in
    let to-range = both_l (ready m clock && in-range) some (both_l (ready m clock && in-range && some) small (both_l (ready m clock && in-range && some && small) room fine)) in
    let sum = summed-within m.records m.rtt_sum.0 rtt.0 few (test→within (limit 41 m.records) m.rtt_sum.0 k.sum) (test→within (power 41) rtt.0 (both_r (ready m clock) in-range to-range)) in
    record {
      same = refl;
      one = le_of_eq refl;
      kept = record {
        start = k.start;
        total = k.total;
        sum = range_i zero_f (limit 41 (m.records + 1)) (summed_of m.records m.rtt_sum.0 rtt.0) sum.0 sum.1;
        bits = rw (add-mul m.records 1 size, one-mul size) (ap (λ (b : ℕ). b + size) k.bits);
      };
    })
    (λ refused. record { same = refl; one = omega arith; kept = k })

-- ---- a switch

-- on from the clock, or off with the time since its start in its total
turned_ok : (size : ℕ) (clock : Time) (m : AverageFlowMeter) (o : Option Time) → m.current_start ≡ o → Early clock → MeterOk size clock m → MeterOk size clock (turned m o clock)
turned_ok size clock m None e c k = record { start = now_past clock c; total = k.total; sum = k.sum; bits = k.bits }
turned_ok size clock m (Some t) e c k =
    record { start = tt; total = total_grows m.total_time clock t k.total c (subst (PastIfAny clock) e k.start); sum = k.sum; bits = k.bits }

turned_on : (m : AverageFlowMeter) (o : Option Time) (t : Time) → is_on (turned m o t).current_start ≡ not (is_on o)
turned_on m None t = refl
turned_on m (Some u) t = refl

pub record Switched (size : ℕ) (clock : Time) (m m' : AverageFlowMeter) : Type 0 where
  pub other : is_on m'.current_start ≡ not (is_on m.current_start)
  pub same : m'.records ≡ m.records
  pub kept : MeterOk size clock m'

-- a start that is past is in range
start-past : (clock : Time) (o : Option Time) → PastIfAny clock o → (t : Time) → o ≡ Some t → in_range zero_f clock.0.0 t.0.0 ≡ true
start-past clock o k t e = let p : Past clock t = subst (PastIfAny clock) e k in range_i zero_f clock.0.0 t.0.0 p.low p.high

other-state : (on : Bool) → not (beq (not on) on) ≡ true
other-state true = refl
other-state false = refl

-- it is taken: the meter is fit
pub switched_ok : (size : ℕ) (clock : Time) (m : AverageFlowMeter) (on : Bool) → Early clock → size ≤ 16777216 → m.records ≤ 16777216 → on ≡ not (is_on m.current_start)
    → MeterOk size clock m → Switched size clock m (switched_of m on clock).meter
switched_ok size clock m on c small few differs k =
    let facts : MeterFacts m clock size =
    record {
      few = few;
      bits = k.bits;
      small = small;
      start = start-past clock m.current_start k.start;
      total = k.total;
      sum = k.sum;
      from_zero = c.low;
      bounded = c.high;
    } in
    let unlike : not (beq on (is_on m.current_start)) ≡ true = rw differs (other-state (is_on m.current_start)) in
    subst (λ (x : Metered). Switched size clock m x.meter) (sym (switch_taken facts on unlike))
    (record {
      other = turned_on m m.current_start clock;
      same = turned-records m m.current_start clock;
      kept = turned_ok size clock m m.current_start refl c k;
    })
