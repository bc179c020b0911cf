-- A double and a whole number as they are written are runs of digits, and a run of that shape is how its value is written. Assumes nothing.
use Prim.Native.Nat.{ℕ, zero, suc, ◌+◌, ◌*◌, ◌/◌, ◌%◌, ◌^◌, ◌≤◌, ◌<◌}
use mathlib.Core.Bool.{Bool, true, false, cond}
use mathlib.Core.List.{List, [], ◌∷◌, ◌++◌, append_assoc, append-nil, cons-eq-cons}
use mathlib.Core.Logic.{◌⊎◌, inl, inr, ⊎_elim}
use mathlib.Core.Path.{◌≡◌, refl, sym, ap, ◌∙◌, subst}
use native.Mathlib.Nat.{mod-lt, div-add-mod', div-lt_iff_lt-mul, zero-add, pow-zero, pow-suc, eq-zero-or-pos}
use native.Mathlib.Omega.{arith}
use lib.Arith.{digits_div, digits_mod, lt-one}
use lib.Dec.{ltb, eqb, lit<}
use lib.ListN.{length, get_or, length-append}
use native.Mathlib.Numerals.{add-one}
use borrow.Author.Tests.{ltb-true, ltb-false, lt-ltb, le-ltb, ne_eqb, eqb-false}
use Rattle.notation.specs.Notation.{digit_byte, digits_of, hex_of, decimal_within, decimal_of}
use Rattle.notation.specs.Reading.{Run, ends, digit, led_by_zero}
use Rattle.notation.proofs.Digits.{run_snoc, low_digit}

module _ (b : ℕ) (some : 0 < b) where
  -- the k digits of a number that has no more
  pub digits_run : (k n : ℕ) → n < b ^ k → Run b 0 (digits_of b k n) n
  unfolding digits_of
  digits_run zero n h = subst (Run b 0 []) (sym (lt-one (rw pow-zero at h))) ends
  digits_run (suc k) n h =
      subst (Run b 0 (digits_of b k (n / b) ++ (digit_byte (n % b) ∷ []))) (div-add-mod' n b)
      (run_snoc b (n % b) (mod-lt n some) (digits_run k (n / b) ((div-lt_iff_lt-mul some).1 (rw pow-suc at h))))

  -- one digit more
  digits_next : (k n d : ℕ) → d < b → digits_of b (suc k) (n * b + d) ≡ digits_of b k n ++ (digit_byte d ∷ [])
  unfolding digits_of
  digits_next k n d h = rw (digits_div n h, digits_mod n h)

  -- a run after a number is that number's digits and its own
  pub run_digits : {n v : ℕ} {s : List ℕ} (k : ℕ) → Run b n s v → digits_of b (length s + k) v ≡ digits_of b k n ++ s
  run_digits {n} k ends = rw zero-add (sym (append-nil (digits_of b k n)))
  run_digits {n} {v} k (digit {s = s} d h r) =
      let e : suc (length s) + k ≡ length s + suc k = omega arith in
      ap (λ (m : ℕ). digits_of b m v) e
      ∙ run_digits (suc k) r
      ∙ ap (λ (x : List ℕ). x ++ s) (digits_next k n d h)
      ∙ append_assoc (digits_of b k n) (digit_byte d ∷ []) s

pub digits_length : (b k n : ℕ) → length (digits_of b k n) ≡ k
unfolding digits_of
digits_length b zero n = refl
digits_length b (suc k) n = length-append (digits_of b k (n / b)) (digit_byte (n % b) ∷ []) ∙ rw (digits_length b k (n / b)) (add-one k)

-- a double of 64 bits
pub hex_run : (n : ℕ) → n < 2 ^ 64 → Run 16 0 (hex_of n) n
unfolding hex_of
hex_run n h = digits_run 16 (lit< tt) 16 n h

pub run_hex : {v : ℕ} {s : List ℕ} → Run 16 0 s v → length s ≡ 16 → s ≡ hex_of v
unfolding hex_of digits_of
run_hex {v} {s} r e = sym (run_digits 16 (lit< tt) 0 r) ∙ ap (λ (m : ℕ). digits_of 16 m v) (let k : length s + 0 ≡ 16 = omega arith in k)

pub hex_length : (n : ℕ) → length (hex_of n) ≡ 16
unfolding hex_of
hex_length n = digits_length 16 16 n

-- decimal: below 10 one digit, else the decimal of the tenth and the last digit, whatever bounds the divisions
low_or_high : (n : ℕ) → (n < 10) ⊎ (10 ≤ n)
low_or_high n = cases (ltb n 10) refl
  where
    cases : (t : Bool) → ltb n 10 ≡ t → (n < 10) ⊎ (10 ≤ n)
    cases true e = inl (ltb-true n 10 e)
    cases false e = inr (ltb-false n 10 e)

within_low : (k n : ℕ) → n < 10 → decimal_within k n ≡ digit_byte n ∷ []
unfolding decimal_within
within_low zero n h = refl
within_low (suc k) n h = rw (lt-ltb n 10 h)

within_high : (k n : ℕ) → 10 ≤ n → decimal_within (suc k) n ≡ decimal_within k (n / 10) ++ (digit_byte (n % 10) ∷ [])
unfolding decimal_within
within_high k n h = rw (le-ltb n 10 h)

enough : (k j n : ℕ) → n ≤ k → n ≤ j → decimal_within k n ≡ decimal_within j n
enough zero j n h g = within_low zero n (omega arith) ∙ sym (within_low j n (omega arith))
enough (suc k) zero n h g = within_low (suc k) n (omega arith) ∙ sym (within_low zero n (omega arith))
enough (suc k) (suc j) n h g =
    ⊎_elim
    (λ l. within_low (suc k) n l ∙ sym (within_low (suc j) n l))
    (λ l. within_high k n l ∙ ap (λ (s : List ℕ). s ++ (digit_byte (n % 10) ∷ [])) (enough k j (n / 10) (omega arith) (omega arith)) ∙ sym (within_high j n l))
    (low_or_high n)

pub decimal_low : (n : ℕ) → n < 10 → decimal_of n ≡ digit_byte n ∷ []
unfolding decimal_of
decimal_low n h = within_low n n h

pub decimal_high : (n : ℕ) → 10 ≤ n → decimal_of n ≡ decimal_of (n / 10) ++ (digit_byte (n % 10) ∷ [])
unfolding decimal_of
decimal_high zero h = absurd (omega arith)
decimal_high (suc m) h =
    within_high m (suc m) h ∙ ap (λ (s : List ℕ). s ++ (digit_byte (suc m % 10) ∷ [])) (enough m (suc m / 10) (suc m / 10) (omega arith) (omega arith))

-- what holds of each number below 10, and of a number where it holds of its tenth, holds of every number
pub by_tenths : (P : ℕ → Type 0) → ((n : ℕ) → n < 10 → P n) → ((n : ℕ) → 10 ≤ n → P (n / 10) → P n) → (n : ℕ) → P n
by_tenths P low high n = within n n (omega arith)
  where
    within : (k m : ℕ) → m ≤ k → P m
    within zero m h = low m (omega arith)
    within (suc k) m h = ⊎_elim (λ l. low m l) (λ l. high m l (within k (m / 10) (omega arith))) (low_or_high m)

zero_start : (d : ℕ) → 0 * 10 + d ≡ d
zero_start d = omega arith

pub decimal-run : (n : ℕ) → Run 10 0 (decimal_of n) n
decimal-run =
    by_tenths (λ n. Run 10 0 (decimal_of n) n)
    (λ n h. rw (decimal_low n h) (subst (Run 10 0 (digit_byte n ∷ [])) (zero_start n) (digit n h ends)))
    (λ n h r. rw (decimal_high n h) (subst (Run 10 0 (decimal_of (n / 10) ++ (digit_byte (n % 10) ∷ []))) (div-add-mod' n 10) (run_snoc 10 (n % 10) (omega arith) r)))

-- one digit more after a number above 0
decimal-next : (n d : ℕ) → 0 < n → d < 10 → decimal_of (n * 10 + d) ≡ decimal_of n ++ (digit_byte d ∷ [])
decimal-next n d p h = decimal_high (n * 10 + d) (omega arith) ∙ rw (digits_div n h, digits_mod n h)

-- a run after a number above 0 is that number's decimal and its own digits
run_decimal : {n v : ℕ} {s : List ℕ} → 0 < n → Run 10 n s v → decimal_of v ≡ decimal_of n ++ s
run_decimal {n} p ends = sym (append-nil (decimal_of n))
run_decimal {n} p (digit {s = s} d h r) =
    run_decimal (omega arith) r
    ∙ ap (λ (x : List ℕ). x ++ s) (decimal-next n d p h)
    ∙ append_assoc (decimal_of n) (digit_byte d ∷ []) s

-- a zero leads where the first of several digits is `0`, and leads nowhere where the first is another
led_many : (x k : ℕ) → led_by_zero x (suc (suc k)) ≡ eqb x 48
led_many x k = rw (ne_eqb (suc (suc k)) 1 (omega arith))

led_other : (x k : ℕ) → (x ≡ 48 → ⊥) → led_by_zero x k ≡ false
led_other x k h = rw (ne_eqb x 48 h) (same (eqb k 1))
  where
    same : (t : Bool) → cond t false false ≡ false
    same true = refl
    same false = refl

-- a digit, and a run after its value, where no zero leads
spelt_after : {n v : ℕ} {s : List ℕ} (d : ℕ) → d < 10 → n ≡ d → Run 10 n s v → led_by_zero (digit_byte d) (suc (length s)) ≡ false → digit_byte d ∷ s ≡ decimal_of v
spelt_after d h q ends e = sym (ap decimal_of q ∙ decimal_low d h)
spelt_after {n} d h q (digit {s = s} k l r) e =
    sym (run_decimal positive (digit k l r) ∙ ap (λ (x : List ℕ). x ++ (digit_byte k ∷ s)) (ap decimal_of q ∙ decimal_low d h))
  where
    positive : 0 < n
    positive =
        ⊎_elim
        (λ z. absurd (eqb-false (digit_byte d) 48 (sym (led_many (digit_byte d) (length s)) ∙ e) (low_digit d h ∙ (let q : 48 + d ≡ 48 = omega arith in q))))
        (λ p. omega arith)
        (eq-zero-or-pos d)

-- a run that no zero leads is the decimal of its value
pub run_spelt : {v : ℕ} {s : List ℕ} → Run 10 0 s v → 0 < length s → led_by_zero (get_or s 0 0) (length s) ≡ false → s ≡ decimal_of v
run_spelt ends p e = absurd (omega arith)
run_spelt (digit d h r) p e = spelt_after d h (zero_start d) r e

-- the first digit of a decimal: above 0 unless the number is 0, and alone where the number is below 10
record First (n : ℕ) : Type 0 where
  first : ℕ
  rest : List ℕ
  whole : decimal_of n ≡ digit_byte first ∷ rest
  small : first < 10
  positive : 0 < n → 0 < first
  alone : n < 10 → rest ≡ []

decimal-first : (n : ℕ) → First n
decimal-first =
    by_tenths First
    (λ n h. record { first = n; rest = []; whole = decimal_low n h; small = h; positive = λ p. p; alone = λ _. refl })
    (λ n h f. record {
      first = f.first;
      rest = f.rest ++ (digit_byte (n % 10) ∷ []);
      whole = decimal_high n h ∙ ap (λ (x : List ℕ). x ++ (digit_byte (n % 10) ∷ [])) f.whole;
      small = f.small;
      positive = λ p. f.positive (omega arith);
      alone = λ l. absurd (omega arith);
    })

-- a decimal has a digit, and no zero leads it
pub decimal_fair : (n : ℕ) → (0 < length (decimal_of n)) × (led_by_zero (get_or (decimal_of n) 0 0) (length (decimal_of n)) ≡ false)
decimal_fair n =
    let f = decimal-first n in
    rw f.whole (
      omega arith,
      ⊎_elim
          (λ l. ap (λ (s : List ℕ). led_by_zero (digit_byte f.first) (suc (length s))) (f.alone l))
          (λ l. led_other (digit_byte f.first) (suc (length f.rest)) (λ q. let p = f.positive (omega arith) in omega (arith, low_digit f.first f.small)))
          (low_or_high n),
    )

-- a decimal begins with a byte from `0` to `9`
pub decimal_head : (n x : ℕ) (s rest : List ℕ) → decimal_of n ++ s ≡ x ∷ rest → (48 ≤ x) × (x < 58)
decimal_head n x s rest e =
    let f = decimal-first n in
    let q = (cons-eq-cons.0 (sym (ap (λ (t : List ℕ). t ++ s) f.whole) ∙ e)).0 in
    (omega (arith, low_digit f.first f.small, f.small), omega (arith, low_digit f.first f.small, f.small))

-- the digits of a decimal, by their number; and how many there are at most
pub decimal-digits : (n : ℕ) → digits_of 10 (length (decimal_of n)) n ≡ decimal_of n
unfolding digits_of
decimal-digits n =
    let e : length (decimal_of n) ≡ length (decimal_of n) + 0 = omega arith in
    ap (λ (k : ℕ). digits_of 10 k n) e ∙ run_digits 10 (lit< tt) 0 (decimal-run n)

pub decimal-length_low : (n : ℕ) → n < 10 → length (decimal_of n) ≡ 1
decimal-length_low n h = ap length (decimal_low n h)

pub decimal-length_high : (n : ℕ) → 10 ≤ n → length (decimal_of n) ≡ length (decimal_of (n / 10)) + 1
decimal-length_high n h = ap length (decimal_high n h) ∙ length-append (decimal_of (n / 10)) (digit_byte (n % 10) ∷ [])

pub decimal-length_le : (k n : ℕ) → n < 10 ^ suc k → length (decimal_of n) ≤ suc k
decimal-length_le zero n h = omega (arith, decimal-length_low n h)
decimal-length_le (suc k) n h =
    ⊎_elim
    (λ l. omega (arith, decimal-length_low n l))
    (λ l. omega (arith, decimal-length_high n l, decimal-length_le k (n / 10) ((div-lt_iff_lt-mul (lit< tt)).1 (rw pow-suc at h))))
    (low_or_high n)
