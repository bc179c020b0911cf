-- The aggregator's fold over a list of flow records gives the mean of the list. Assumes nothing.
use Rattle.std.proofs.Common.{Result, Ok, Err}
use mathlib.Core.Path.{◌≡◌, refl, ap, ap₂, ◌∙◌}
use mathlib.Core.Bool.{Bool, true, false, ◌&&◌, cond, and-true, and-false, and_assoc}
use mathlib.Core.List.{List, [], ◌∷◌}
use Prim.Native.Nat.{ℕ, suc, ◌+◌, ◌≤◌, ◌<◌}
use native.Mathlib.Nat.{zero-add, add-zero}
use native.Mathlib.Omega.{arith}
use borrow.Author.Tests.{le-leb, lt-leb, ne_eqb, ltb-true, ltb-false}
use lib.ListN.{length}
use lib.Dec.{leb, ltb, eqb}
use lib.Ieee.{Float, binary64, add}
use Rattle.quantities.specs.declared.time_span.TimeSpan.{TimeSpan}
use Rattle.quantities.specs.Doubles.{zero_f}
use Rattle.quantities.specs.Units.{span_of, rate_of, rate_over}
use Rattle.flows.specs.declared.flow.FlowProperties.{FlowProperties}
use Rattle.flows.specs.declared.flow.NoPacketsAcked.{NoPacketsAcked}
use Rattle.flows.specs.declared.sums.FlowSum.{FlowSum}
use Rattle.flows.specs.declared.sums.NoMean.{NoMean}
use Rattle.flows.specs.Sums.{summed_of, average_rtt, FlowAnswer, refusal}
use Rattle.flows.specs.Average.{member_fit, members_fit, rates, with_rtt, rtts, sum_from, sum_of, average_of, start_of, rtt_count_of, rtt_sum_of, added_of, mean_of}

-- the aggregator over a list, from sums so far or from their refusal
abbrev pub Sums : Type 0
Sums = Result FlowSum NoMean

abbrev refused : Sums
refused = Err (record {})

abbrev pub folded_on : Sums → List FlowProperties → Sums
folded_on s [] = s
folded_on (Ok s) (f ∷ fs) = folded_on (added_of s f) fs
folded_on (Err e) (f ∷ fs) = Err e

abbrev pub folded : FlowSum → List FlowProperties → Sums
folded s fs = folded_on (Ok s) fs

-- its mean
abbrev pub mean_on : Sums → FlowAnswer
mean_on (Ok s) = mean_of s
mean_on (Err e) = refusal 17

-- ---- a sum of n values that goes on with a list
abbrev go_on : ℕ → Float → List Float → Float
go_on n sum [] = sum
go_on n sum (x ∷ xs) = go_on (n + 1) (summed_of n sum x) xs

go_on-later : (n : ℕ) (sum : Float) (xs : List Float) → 0 < n → go_on n sum xs ≡ sum_from sum xs
unfolding summed_of
go_on-later n sum [] h = refl
go_on-later n sum (x ∷ xs) h =
    let more : eqb n 0 ≡ false = ne_eqb n 0 (λ (e : n ≡ 0). omega arith) in
    rw more (go_on-later (n + 1) (add binary64 sum x) xs (omega arith))

go_on-first : (xs : List Float) → go_on 0 zero_f xs ≡ sum_of xs
unfolding summed_of
go_on-first [] = refl
go_on-first (x ∷ xs) = go_on-later 1 x xs (omega arith)

-- ---- a fold that was refused stays refused
pub stays_refused : (e : NoMean) (fs : List FlowProperties) → folded_on (Err e) fs ≡ Err e
stays_refused e [] = refl
stays_refused e (f ∷ fs) = refl

-- ---- a fold that was not refused: its counts and sums go on

-- a sum of n rates and of k RTTs
abbrev sums : ℕ → ℕ → Float → Float → FlowSum
sums n k rate rtt = record { count = n; throughput = rate_of rate; rtt_count = k; rtt = span_of rtt }

-- it goes on with L members, of these rates and RTTs
abbrev with_lists : ℕ → ℕ → Float → Float → ℕ → List Float → List Float → Sums
with_lists n k rate rtt L xs ys = Ok (sums (n + L) (k + length ys) (go_on n rate xs) (go_on k rtt ys))

-- one RTT more, or none
one-rtt : (n k L : ℕ) (rate rtt x : Float) (xs ys : List Float) (r : Result TimeSpan NoPacketsAcked)
    → with_lists (n + 1) (rtt_count_of k r) (summed_of n rate x) (rtt_sum_of k (span_of rtt) r).0 L xs ys ≡ with_lists n k rate rtt (suc L) (x ∷ xs) (with_rtt r ys)
one-rtt n k L rate rtt x xs ys (Err e) =
    let count : n + 1 + L ≡ n + suc L = omega arith in
    ap (λ (z : ℕ). Ok (sums z (k + length ys) (go_on n rate (x ∷ xs)) (go_on k rtt ys))) count
one-rtt n k L rate rtt x xs ys (Ok t) =
    let count : n + 1 + L ≡ n + suc L = omega arith in
    let known : k + 1 + length ys ≡ k + suc (length ys) = omega arith in
    ap₂ (λ (z w : ℕ). Ok (sums z w (go_on n rate (x ∷ xs)) (go_on k rtt (t.0 ∷ ys)))) count known

rtt_count_le : (k n : ℕ) (r : Result TimeSpan NoPacketsAcked) → k ≤ n → rtt_count_of k r ≤ n + 1
rtt_count_le k n (Err e) h = omega arith
rtt_count_le k n (Ok t) h = omega arith

-- one turn of the fold, by whether there is room and the member is fit
step : (n k : ℕ) (rate rtt : Float) (f : FlowProperties) (fs : List FlowProperties) → k ≤ n → n ≤ 65536
    → (room : Bool) → ltb n 65536 ≡ room → (fit : Bool) → member_fit f ≡ fit
    → (n + 1 ≤ 65536
    → folded (sums (n + 1) (rtt_count_of k f.rtt) (summed_of n rate f.throughput.0) (rtt_sum_of k (span_of rtt) f.rtt).0) fs
    ≡ cond (leb (n + 1 + length fs) 65536 && members_fit fs)
    (with_lists (n + 1) (rtt_count_of k f.rtt) (summed_of n rate f.throughput.0) (rtt_sum_of k (span_of rtt) f.rtt).0 (length fs) (rates fs) (rtts fs))
    refused)
    → folded (sums n k rate rtt) (f ∷ fs)
    ≡ cond (leb (n + suc (length fs)) 65536 && (member_fit f && members_fit fs)) (with_lists n k rate rtt (suc (length fs)) (rates (f ∷ fs)) (rtts (f ∷ fs))) refused
unfolding added_of
step n k rate rtt f fs h m false e fit g next =
    let above : 65536 ≤ n = ltb-false n 65536 e in
    let full : leb (n + suc (length fs)) 65536 ≡ false = lt-leb (n + suc (length fs)) 65536 (omega arith) in
    rw (e, full) (stays_refused (record {}) fs)
step n k rate rtt f fs h m true e false g next =
    rw (e, le-leb k n h, g, and-false (leb (n + suc (length fs)) 65536)) (stays_refused (record {}) fs)
step n k rate rtt f fs h m true e true g next =
    let below : n < 65536 = ltb-true n 65536 e in
    let count : n + 1 + length fs ≡ n + suc (length fs) = omega arith in
    rw (e, le-leb k n h, g)
    (next (omega arith)
    ∙ ap₂ (λ (z : ℕ) (s : Sums). cond (leb z 65536 && members_fit fs) s refused) count
    (one-rtt n k (length fs) rate rtt f.throughput.0 (rates fs) (rtts fs) f.rtt))

-- the tests of the fold are the tests of the list
fold_is : (n k : ℕ) (rate rtt : Float) (fs : List FlowProperties) → k ≤ n → n ≤ 65536
    → folded (sums n k rate rtt) fs ≡ cond (leb (n + length fs) 65536 && members_fit fs) (with_lists n k rate rtt (length fs) (rates fs) (rtts fs)) refused
fold_is n k rate rtt [] h m =
    let none : n + 0 ≡ n = add-zero n in
    let nothing : k + 0 ≡ k = add-zero k in
    rw (none, nothing, le-leb n 65536 m)
fold_is n k rate rtt (f ∷ fs) h m =
    step n k rate rtt f fs h m (ltb n 65536) refl (member_fit f) refl
    (fold_is (n + 1) (rtt_count_of k f.rtt) (summed_of n rate f.throughput.0) (rtt_sum_of k (span_of rtt) f.rtt).0 fs (rtt_count_le k n f.rtt h))

-- ---- the mean
finish : (some fits : Bool) (L K : ℕ) (rate rtt : Float) → ltb 0 L ≡ some
    → mean_on (cond fits (Ok (sums L K rate rtt)) refused)
    ≡ cond (some && fits) (record { number = 0; throughput = rate_over (rate_of rate) L; rtt = average_rtt K (span_of rtt) }) (refusal 17)
unfolding mean_of
finish some true L K rate rtt e = rw (e, and-true)
finish some false L K rate rtt e = rw and-false

pub fold_mean : (fs : List FlowProperties) → mean_on (folded start_of fs) ≡ average_of fs
unfolding average_of
fold_mean fs =
    let L = length fs in
    let K = length (rtts fs) in
    ap mean_on (fold_is 0 0 zero_f zero_f fs (omega arith) (omega arith))
    ∙ rw (zero-add L, zero-add K, go_on-first (rates fs), go_on-first (rtts fs))
    (finish (ltb 0 L) (leb L 65536 && members_fit fs) L K (sum_of (rates fs)) (sum_of (rtts fs)) refl
    ∙ rw (and_assoc (ltb 0 L) (leb L 65536) (members_fit fs)))
