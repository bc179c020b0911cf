-- What the fit test says where it passes: each clause by name, and at each sender and line; how many lines there are. Assumes nothing.
use mathlib.Core.Path.{◌≡◌, refl, sym, subst}
use mathlib.Core.Bool.{Bool, true, false, not, ◌&&◌, cond, false≢true}
use mathlib.Core.List.{List, ◌∷◌}
use Prim.Native.Nat.{ℕ, zero, suc, ◌+◌, ◌≤◌, ◌<◌}
use native.Mathlib.Nat.{not-suc-le-zero, eq-or-lt_of_le, le_of_suc-le-suc}
use native.Mathlib.Omega.{arith}
use mathlib.Core.Logic.{inl, inr}
use borrow.Author.Tests.{leb-true}
use lib.Dec.{T, leb}
use lib.Ieee.{Float, le}
use lib.Ieee.Bits.{is_true}
use Rattle.quantities.specs.Doubles.{in_range}
use Rattle.draws.specs.Generator.{all_zero}
use Rattle.remy.specs.declared.simulation.Simulation.{Simulation}
use Rattle.remy.specs.Network.{up_to, between}
use Rattle.remy.specs.State.{line_at, sender_at, toggler_at}
use Rattle.remy.specs.Fit.{every, each_sender, each_line, sum_to, network_fit, rings_fit, packets_fit, bits_fit, clock_fit, held_times_fit, past_fit, totals_fit, sums_fit, records_fit, due_fit, counts_fit, windows_fit, timers_fit, togglers_agree, meters_agree, meter_bits_fit, queue_fit, carried_fit, words_fit, fit}

-- ---- conjunctions

pub both_l : (a b : Bool) → (a && b) ≡ true → a ≡ true
both_l true b e = refl
both_l false b e = e

pub both_r : (a b : Bool) → (a && b) ≡ true → b ≡ true
both_r true b e = e
both_r false b e = absurd (false≢true e)

pub both_i : (a b : Bool) → a ≡ true → b ≡ true → (a && b) ≡ true
both_i a b e f = rw (e, f)

-- a test that gave true passed
pub holds : (b : Bool) → b ≡ true → T b
holds b e = subst T (sym e) tt

-- ---- ranges

module _ (lo hi x : Float) where
  pub range_low : in_range lo hi x ≡ true → T (le lo x)
  range_low e = holds (le lo x) (both_l (le lo x) (le x hi) e)

  pub range_high : in_range lo hi x ≡ true → T (le x hi)
  range_high e = holds (le x hi) (both_r (le lo x) (le x hi) e)

  pub range_i : T (le lo x) → T (le x hi) → in_range lo hi x ≡ true
  range_i a b = both_i (le lo x) (le x hi) (is_true (le lo x) a) (is_true (le x hi) b)

module _ (lo hi n : ℕ) where
  pub between_low : between lo hi n ≡ true → lo ≤ n
  between_low e = leb-true lo n (both_l (leb lo n) (leb n hi) e)

  pub between_high : between lo hi n ≡ true → n ≤ hi
  between_high e = leb-true n hi (both_r (leb lo n) (leb n hi) e)

-- ---- every number below n, and every member of a list

pub up_to-at : (n : ℕ) (f : ℕ → Bool) → up_to n f ≡ true → (i : ℕ) → i < n → f i ≡ true
up_to-at zero f e i h = absurd (not-suc-le-zero h)
up_to-at (suc n) f e i h = elim (eq-or-lt_of_le (le_of_suc-le-suc h)) [
  | inl same ↦ subst (λ (j : ℕ). f j ≡ true) (sym same) (both_r (up_to n f) (f n) e)
  | inr below ↦ up_to-at n f (both_l (up_to n f) (f n) e) i below
]

-- one of the numbers that are summed
pub sum_to-at : (n : ℕ) (f : ℕ → ℕ) (l : ℕ) → l < n → f l ≤ sum_to n f
sum_to-at zero f l h = absurd (not-suc-le-zero h)
sum_to-at (suc n) f l h = elim (eq-or-lt_of_le (le_of_suc-le-suc h)) [
  | inl same ↦ subst (λ (j : ℕ). f j ≤ sum_to n f + f n) (sym same) (omega arith)
  | inr below ↦ (let less = sum_to-at n f l below in omega (arith, less))
]

pub every_first : {A : Type 0} (f : A → Bool) (x : A) (xs : List A) → every f (x ∷ xs) ≡ true → f x ≡ true
every_first f x xs e = both_l (f x) (every f xs) e

-- ---- one line, and with a return line a second

pub first-there : (back : Bool) → 0 < cond back 2 1
first-there true = omega arith
first-there false = omega arith

pub second_there : (back : Bool) → back ≡ true → 1 < cond back 2 1
second_there back e = rw e (omega arith)

pub lines_few : (back : Bool) → cond back 2 1 ≤ 2
lines_few true = omega arith
lines_few false = omega arith

pub at_second : (back : Bool) (l : ℕ) → suc l < cond back 2 1 → (l ≡ 0) × (back ≡ true)
at_second true l h = (omega arith, refl)
at_second false l h = let no : ⊥ = omega arith in absurd no

-- ---- the clauses

pub record FitState (s : Simulation) : Type 0 where
  pub network : network_fit s ≡ true
  pub rings : rings_fit s ≡ true
  pub packets : packets_fit s ≡ true
  pub bits : bits_fit s ≡ true
  pub clock : clock_fit s ≡ true
  pub held : held_times_fit s ≡ true
  pub past : past_fit s ≡ true
  pub totals : totals_fit s ≡ true
  pub sums : sums_fit s ≡ true
  pub records : records_fit s ≡ true
  pub due : due_fit s ≡ true
  pub counts : counts_fit s ≡ true
  pub windows : windows_fit s ≡ true
  pub timers : timers_fit s ≡ true
  pub togglers : togglers_agree s ≡ true
  pub meters : meters_agree s ≡ true
  pub meter-bits : meter_bits_fit s ≡ true
  pub queue : queue_fit s ≡ true
  pub carried : carried_fit s ≡ true
  pub words : words_fit s ≡ true

pub fit-state : (s : Simulation) → fit s ≡ true → FitState s
unfolding fit
fit-state s all =
    let to_rings = network_fit s && rings_fit s in
    let to_packets = to_rings && packets_fit s in
    let to_bits = to_packets && bits_fit s in
    let to-clock = to_bits && clock_fit s in
    let to_held = to-clock && held_times_fit s in
    let to_past = to_held && past_fit s in
    let to-totals = to_past && totals_fit s in
    let to-sums = to-totals && sums_fit s in
    let to-records = to-sums && records_fit s in
    let to-due = to-records && due_fit s in
    let to-counts = to-due && counts_fit s in
    let to-windows = to-counts && windows_fit s in
    let to-timers = to-windows && timers_fit s in
    let to-togglers = to-timers && togglers_agree s in
    let to-meters = to-togglers && meters_agree s in
    let to-meter-bits = to-meters && meter_bits_fit s in
    let to_queue = to-meter-bits && queue_fit s in
    let to-carried = to_queue && carried_fit s in
    let by-carried = both_l to-carried (words_fit s) all in
    let by-queue = both_l to_queue (carried_fit s) by-carried in
    let by-meter-bits = both_l to-meter-bits (queue_fit s) by-queue in
    let by-meters = both_l to-meters (meter_bits_fit s) by-meter-bits in
    let by-togglers = both_l to-togglers (meters_agree s) by-meters in
    let by-timers = both_l to-timers (togglers_agree s) by-togglers in
    let by-windows = both_l to-windows (timers_fit s) by-timers in
    let by_counts = both_l to-counts (windows_fit s) by-windows in
    let by-due = both_l to-due (counts_fit s) by_counts in
    let by-records = both_l to-records (due_fit s) by-due in
    let by-sums = both_l to-sums (records_fit s) by-records in
    let by-totals = both_l to-totals (sums_fit s) by-sums in
    let by-past = both_l to_past (totals_fit s) by-totals in
    let by-held = both_l to_held (past_fit s) by-past in
    let by-clock = both_l to-clock (held_times_fit s) by-held in
    let by_bits = both_l to_bits (clock_fit s) by-clock in
    let by-packets = both_l to_packets (bits_fit s) by_bits in
    let by-rings = both_l to_rings (packets_fit s) by-packets in
    record {
      network = both_l (network_fit s) (rings_fit s) by-rings;
      rings = both_r (network_fit s) (rings_fit s) by-rings;
      packets = both_r to_rings (packets_fit s) by-packets;
      bits = both_r to_packets (bits_fit s) by_bits;
      clock = both_r to_bits (clock_fit s) by-clock;
      held = both_r to-clock (held_times_fit s) by-held;
      past = both_r to_held (past_fit s) by-past;
      totals = both_r to_past (totals_fit s) by-totals;
      sums = both_r to-totals (sums_fit s) by-sums;
      records = both_r to-sums (records_fit s) by-records;
      due = both_r to-records (due_fit s) by-due;
      counts = both_r to-due (counts_fit s) by_counts;
      windows = both_r to-counts (windows_fit s) by-windows;
      timers = both_r to-windows (timers_fit s) by-timers;
      togglers = both_r to-timers (togglers_agree s) by-togglers;
      meters = both_r to-togglers (meters_agree s) by-meters;
      meter-bits = both_r to-meters (meter_bits_fit s) by-meter-bits;
      queue = both_r to-meter-bits (queue_fit s) by-queue;
      carried = both_r to_queue (carried_fit s) by-carried;
      words = both_r to-carried (words_fit s) all;
    }

-- ---- the clause on words, taken apart and joined

pub record FitWords (s : Simulation) : Type 0 where
  pub link : each_line s (λ l. not (all_zero (line_at s l).rng)) ≡ true
  pub senders : each_sender s (λ i. not (all_zero (sender_at s i).rng)) ≡ true
  pub togglers : each_sender s (λ i. not (all_zero (toggler_at s i).rng)) ≡ true

module _ (s : Simulation) where
  pub words_apart : words_fit s ≡ true → FitWords s
  unfolding words_fit
  words_apart e =
      let link = each_line s (λ l. not (all_zero (line_at s l).rng)) in
      let senders = each_sender s (λ i. not (all_zero (sender_at s i).rng)) in
      let togglers = each_sender s (λ i. not (all_zero (toggler_at s i).rng)) in
      let to_senders = both_l (link && senders) togglers e in
      record { link = both_l link senders to_senders; senders = both_r link senders to_senders; togglers = both_r (link && senders) togglers e }

  pub words-joined : FitWords s → words_fit s ≡ true
  unfolding words_fit
  words-joined w = both_i _ _ (both_i _ _ w.link w.senders) w.togglers
