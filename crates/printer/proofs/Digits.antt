-- Digits by a table, and decimals in pieces. Assumes nothing.
use Prim.Native.Nat.{ℕ, zero, suc, ◌+◌, ◌*◌, ◌/◌, ◌%◌, ◌^◌, ◌≤◌, ◌<◌}
use mathlib.Core.List.{List, [], ◌∷◌, ◌++◌, append_assoc}
use mathlib.Core.Path.{◌≡◌, sym, ap, ◌∙◌}
use native.Mathlib.Nat.{pow-suc, add-zero, zero-add, not-suc-le-zero, le_of_suc-le-suc}
use native.Mathlib.Omega.{arith}
use lib.ListN.{get_or}
use Rattle.notation.specs.Notation.{digit_byte, digits_of, decimal_of}
use Rattle.notation.proofs.Digits.{low_digit}
use Rattle.notation.proofs.Written.{decimal_low, decimal_high}

-- f of each number from i on, n of them
abbrev pub counted : (ℕ → ℕ) → ℕ → ℕ → List ℕ
counted f i zero = []
counted f i (suc n) = f i ∷ counted f (suc i) n

counted-at : (f : ℕ → ℕ) (n i k : ℕ) → k < n → get_or (counted f i n) k 0 ≡ f (i + k)
counted-at f zero i k h = absurd (not-suc-le-zero h)
counted-at f (suc n) i zero h = ap f (sym (add-zero i))
counted-at f (suc n) i (suc k) h = let e : suc i + k ≡ i + suc k = omega arith in counted-at f n (suc i) k (le_of_suc-le-suc h) ∙ ap f e

-- a table of the digits, which a proof compares with the code's by computing it
pub digit_at : (d : ℕ) → d < 16 → get_or (counted digit_byte 0 16) d 0 ≡ digit_byte d
digit_at d h = counted-at digit_byte 16 0 d h ∙ ap digit_byte (zero-add d)

-- one digit, and two
pub one-digit : (n : ℕ) → n < 10 → (48 + n) ∷ [] ≡ decimal_of n
one-digit n h = sym (decimal_low n h ∙ ap (λ (x : ℕ). x ∷ []) (low_digit n h))

pub two_digits : (n : ℕ) → n < 100 → (48 + n / 10) ∷ (48 + n % 10) ∷ [] ≡ digits_of 10 2 n
unfolding digits_of
two_digits n h =
    let e : n / 10 % 10 ≡ n / 10 = omega arith in
    sym (rw (e, low_digit (n / 10) (omega arith), low_digit (n % 10) (omega arith)))

-- the decimal of the hundreds, and the two digits of the rest
pub decimal_hundreds : {s : List ℕ} (n : ℕ) → 100 ≤ n → s ≡ decimal_of (n / 100) → s ++ digits_of 10 2 (n % 100) ≡ decimal_of n
unfolding digits_of
decimal_hundreds n h e =
    let high : n / 100 ≡ n / 10 / 10 = omega arith in
    let tens : n % 100 / 10 % 10 ≡ n / 10 % 10 = omega arith in
    let ones : n % 100 % 10 ≡ n % 10 = omega arith in
    rw (e, high, tens, ones)
    (sym
    (decimal_high n (omega arith)
    ∙ ap (λ (s : List ℕ). s ++ (digit_byte (n % 10) ∷ [])) (decimal_high (n / 10) (omega arith))
    ∙ append_assoc (decimal_of (n / 10 / 10)) (digit_byte (n / 10 % 10) ∷ []) (digit_byte (n % 10) ∷ [])))

-- as many digits as the highest power of ten in a number tells
pub decimal_power : (k n : ℕ) → 10 ^ k ≤ n → n < 10 * 10 ^ k → digits_of 10 (suc k) n ≡ decimal_of n
unfolding digits_of
decimal_power zero n h l =
    let small : n < 10 = omega (arith, l) in
    let e : n % 10 ≡ n = omega arith in
    rw e (sym (decimal_low n small))
decimal_power (suc k) n h l =
    let more : 10 ^ k * 10 ≤ n = rw pow-suc at h in
    let less : n < 10 * (10 ^ k * 10) = rw pow-suc at l in
    ap (λ (s : List ℕ). s ++ (digit_byte (n % 10) ∷ [])) (decimal_power k (n / 10) (omega (arith, more)) (omega (arith, less)))
    ∙ sym (decimal_high n (omega (arith, more, less)))
