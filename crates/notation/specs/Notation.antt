-- How numbers are written, in a description and in the printed lines, and what ends and parts them (document 01,
-- "The text program"). Definitions only.
use Rattle.std.specs.Prelude.{ℕ, zero, suc, ◌+◌, ◌/◌, ◌%◌, cond, List, [], ◌∷◌, ◌++◌, ltb}

-- what ends a line (LF), and what stands between two values (`:`)
abbrev pub lf : ℕ
lf = 10

abbrev pub colon : ℕ
colon = 58

-- a digit: `0` to `9`, then `a` to `f`
unfoldable pub digit_byte : ℕ → ℕ
digit_byte d = cond (ltb d 10) (48 + d) (87 + d)

-- the last k digits of n to the base b, the highest first
unfoldable pub digits_of : ℕ → ℕ → ℕ → List ℕ
digits_of b zero n = []
digits_of b (suc k) n = digits_of b k (n / b) ++ (digit_byte (n % b) ∷ [])

-- a double: the 16 lower-case hexadecimal digits of its bits
unfoldable pub hex_of : ℕ → List ℕ
hex_of n = digits_of 16 16 n

-- n in decimal, by at most k divisions: below 10 it is one digit, else the decimal of n / 10 and the last digit
unfoldable pub decimal_within : ℕ → ℕ → List ℕ
decimal_within zero n = digit_byte n ∷ []
decimal_within (suc k) n =
    let more = decimal_within k (n / 10) ++ (digit_byte (n % 10) ∷ []) in
    cond (ltb n 10) (digit_byte n ∷ []) more

-- a whole number: decimal without leading zeros. n needs no more than n divisions to come below 10
unfoldable pub decimal_of : ℕ → List ℕ
decimal_of n = decimal_within n n
