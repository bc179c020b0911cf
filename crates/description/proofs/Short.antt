-- A description's text has at most 789 bytes. Assumes nothing.
use mathlib.Core.Logic.{inl, inr}
use mathlib.Core.Path.{◌≡◌, sym, subst}
use mathlib.Core.List.{List, [], ◌∷◌, ◌++◌, append_assoc}
use Prim.Native.Nat.{ℕ, suc, ◌+◌, ◌*◌, ◌≤◌, ◌<◌, ◌^◌}
use native.Mathlib.Omega.{arith}
use lib.ListN.{length, length-append}
use Rattle.std.specs.Prelude.{Option, Some, None}
use Rattle.notation.specs.Notation.{lf, colon, hex_of, decimal_of}
use Rattle.description.specs.Words.{delay_key, rate_key, loss_key, limit_key, bits_key, senders_key, on_key, off_key, policy_key, seed_key, ticks_key, always_key, uniform_key, held_key, grown_key, timed_key}
use Rattle.description.specs.declared.Distribution.{Distribution}
use Rattle.description.specs.declared.Distribution.TheVariants.{Always, Uniform}
use Rattle.description.specs.declared.Policy.{Policy}
use Rattle.description.specs.declared.Policy.TheVariants.{Held, Grown, Timed}
use Rattle.description.specs.Text.{Written, double_text, whole_text, limit_text, comma, joined, bits_text, distribution_text, policy_text, text_of, LimitInWidth, BitsInWidth, PolicyInWidth, Counted, InWidth}
use Rattle.notation.proofs.Written.{hex_length, decimal_fair, decimal-length_le}

-- ---- the parts of a line

both : (a b : List ℕ) (m n : ℕ) → length a ≤ m → length b ≤ n → length (a ++ b) ≤ m + n
both a b m n h k = let e : length (a ++ b) ≡ length a + length b = length-append a b in omega (arith, e, h, k)

-- two that are known together, after others
both-after : (a b c : List ℕ) (m n : ℕ) → length a ≤ m → length (b ++ c) ≤ n → length ((a ++ b) ++ c) ≤ m + n
both-after a b c m n h k = subst (λ (s : List ℕ). length s ≤ m + n) (sym (append_assoc a b c)) (both a (b ++ c) m n h k)

hex_ended : (v end : ℕ) → length (hex_of v ++ (end ∷ [])) ≤ 17
hex_ended v end = both (hex_of v) (end ∷ []) 16 1 (let e = hex_length v in omega (arith, e)) (omega arith)

decimal-ended : (k v end : ℕ) → v < 10 ^ suc k → length (decimal_of v ++ (end ∷ [])) ≤ suc k + 1
decimal-ended k v end h = both (decimal_of v) (end ∷ []) (suc k) 1 (decimal-length_le k v h) (omega arith)

hex_line : (key : List ℕ) (v k : ℕ) → length key ≤ k → length (double_text key v lf) ≤ k + 17
hex_line key v k h = both key (hex_of v ++ (lf ∷ [])) k 17 h (hex_ended v lf)

-- numbers of 32 and of 64 bits have at most 10 and 20 digits
ended_32 : (v end : ℕ) → v < 2 ^ 32 → length (decimal_of v ++ (end ∷ [])) ≤ 11
ended_32 v end h = decimal-ended 9 v end (omega (arith, h))

ended_64 : (v end : ℕ) → v < 2 ^ 64 → length (decimal_of v ++ (end ∷ [])) ≤ 21
ended_64 v end h = decimal-ended 19 v end (omega (arith, h))

-- ---- the lines that have cases

limit-short : (l : Option ℕ) → LimitInWidth l → length (limit_text l) ≤ 21
limit-short None w = omega arith
limit-short (Some n) w = ended_64 n lf w

distribution_short : (d : Distribution) → length (distribution_text d) ≤ 42
distribution_short (Always v) = let h = both always_key (hex_of v ++ (lf ∷ [])) 7 17 (omega arith) (hex_ended v lf) in omega (arith, h)
distribution_short (Uniform a b) =
    both (double_text uniform_key a colon) (hex_of b ++ (lf ∷ [])) 25 17 (both uniform_key (hex_of a ++ (colon ∷ [])) 8 17 (omega arith) (hex_ended a colon)) (hex_ended b lf)

policy_short : (p : Policy) → PolicyInWidth p → length (policy_text p) ≤ 34
policy_short (Held w) h = let k = both held_key (decimal_of w ++ (lf ∷ [])) 5 11 (omega arith) (ended_32 w lf h) in omega (arith, k)
policy_short (Grown f m) h =
    let k = both (whole_text grown_key f colon) (decimal_of m ++ (lf ∷ [])) 17 11 (both grown_key (decimal_of f ++ (colon ∷ [])) 6 11 (omega arith) (ended_32 f colon h.0)) (ended_32 m lf h.1) in
    omega (arith, k)
policy_short (Timed m g) h = both (whole_text timed_key m colon) (hex_of g ++ (lf ∷ [])) 17 17 (both timed_key (decimal_of m ++ (colon ∷ [])) 6 11 (omega arith) (ended_32 m colon h.0)) (hex_ended g lf)

-- ---- the values of `bits`: each has a digit, and a comma stands between two

values_long : (vs : List ℕ) → 0 < length vs → 2 * length vs ≤ length (joined vs) + 1
values_long [] h = absurd (omega arith)
values_long (v ∷ []) h = let d = (decimal_fair v).0 in omega (arith, d)
values_long (v ∷ (w ∷ vs)) h =
    let d = (decimal_fair v).0 in
    let e = length-append (decimal_of v) (comma ∷ joined (w ∷ vs)) in
    let k = values_long (w ∷ vs) (omega arith) in
    omega (arith, d, e, k)

-- one value is short, and beside several the number of senders is below 1,000
bits_short : (vs : List ℕ) (senders : ℕ) → BitsInWidth vs → Counted (length vs) senders → length (bits_text vs) ≤ 512 → senders < 2 ^ 32
    → length ((bits_text vs ++ (lf ∷ [])) ++ whole_text senders_key senders lf) ≤ 525
bits_short [] senders w c l s = absurd (none c)
  where
    none : Counted 0 senders → ⊥
    none (inl e) = omega arith
    none (inr e) = omega arith
bits_short (v ∷ []) senders w c l s =
    let k = both (bits_text (v ∷ []) ++ (lf ∷ [])) (whole_text senders_key senders lf) 26 19
    (both bits_key (decimal_of v ++ (lf ∷ [])) 5 21 (omega arith) (ended_64 v lf w.0)) (both senders_key (decimal_of senders ++ (lf ∷ [])) 8 11 (omega arith) (ended_32 senders lf s)) in
    omega (arith, k)
bits_short (v ∷ (u ∷ vs)) senders w c l s =
    let many = values_long (v ∷ (u ∷ vs)) (omega arith) in
    let few : senders < 1000 = each c (omega (arith, many, l, length-append bits_key (joined (v ∷ (u ∷ vs))))) in
    both (bits_text (v ∷ (u ∷ vs)) ++ (lf ∷ [])) (whole_text senders_key senders lf) 513 12
    (both (bits_text (v ∷ (u ∷ vs))) (lf ∷ []) 512 1 l (omega arith)) (both senders_key (decimal_of senders ++ (lf ∷ [])) 8 4 (omega arith) (decimal-ended 2 senders lf few))
  where
    each : Counted (length (v ∷ (u ∷ vs))) senders → length (v ∷ (u ∷ vs)) < 1000 → senders < 1000
    each (inl e) h = absurd (omega arith)
    each (inr e) h = omega (arith, e.1, h)

-- ---- the text

pub text_short : (w : Written) → InWidth w → length (text_of w) ≤ 789
unfolding text_of
text_short w h =
    let to-rate = double_text delay_key w.delay lf ++ double_text rate_key w.rate lf in
    let to-loss = to-rate ++ double_text loss_key w.loss lf in
    let to-limit = to-loss ++ (limit_key ++ limit_text w.limit) in
    let bits = bits_text w.bits ++ (lf ∷ []) in
    let to_senders = (to-limit ++ bits) ++ whole_text senders_key w.senders lf in
    let to-on = to_senders ++ (on_key ++ distribution_text w.on) in
    let to-off = to-on ++ (off_key ++ distribution_text w.off) in
    let to-policy = to-off ++ (policy_key ++ policy_text w.policy) in
    let to-seed = to-policy ++ whole_text seed_key w.seed lf in
    let rate : length to-rate ≤ 45 = both (double_text delay_key w.delay lf) (double_text rate_key w.rate lf) 23 22 (hex_line delay_key w.delay 6 (omega arith)) (hex_line rate_key w.rate 5 (omega arith)) in
    let loss : length to-loss ≤ 67 = both to-rate (double_text loss_key w.loss lf) 45 22 rate (hex_line loss_key w.loss 5 (omega arith)) in
    let limit : length to-limit ≤ 94 = both to-loss (limit_key ++ limit_text w.limit) 67 27 loss (both limit_key (limit_text w.limit) 6 21 (omega arith) (limit-short w.limit h.limit)) in
    let senders : length to_senders ≤ 619 = both-after to-limit bits (whole_text senders_key w.senders lf) 94 525 limit (bits_short w.bits w.senders h.bits h.count h.line h.senders) in
    let on : length to-on ≤ 664 = both to_senders (on_key ++ distribution_text w.on) 619 45 senders (both on_key (distribution_text w.on) 3 42 (omega arith) (distribution_short w.on)) in
    let off : length to-off ≤ 710 = both to-on (off_key ++ distribution_text w.off) 664 46 on (both off_key (distribution_text w.off) 4 42 (omega arith) (distribution_short w.off)) in
    let policy : length to-policy ≤ 751 = both to-off (policy_key ++ policy_text w.policy) 710 41 off (both policy_key (policy_text w.policy) 7 34 (omega arith) (policy_short w.policy h.policy)) in
    let seed : length to-seed ≤ 777 = both to-policy (whole_text seed_key w.seed lf) 751 26 policy (both seed_key (decimal_of w.seed ++ (lf ∷ [])) 5 21 (omega arith) (ended_64 w.seed lf h.seed)) in
    both to-seed (whole_text ticks_key w.ticks lf) 777 12 seed
    (both ticks_key (decimal_of w.ticks ++ (lf ∷ [])) 6 6 (omega arith) (decimal-ended 4 w.ticks lf (let k = h.ticks in omega (arith, k))))
