-- What stands at a place of a script. Definitions only.
-- A text is the list of its bytes.
use Rattle.std.specs.Prelude.{ℕ, zero, suc, ◌+◌, ◌*◌, ◌-◌, Bool, cond, List, [], ◌∷◌, Option, Some, None, ltb, eqb, drop, get_or}

-- the byte at a place, and 0 past the end
abbrev pub byte_at : List ℕ → ℕ → ℕ
byte_at text at = get_or text at 0

-- the value of a byte as a digit: `0` to `9`, then `a` to `f`; any other byte has the value 0
unfoldable pub digit_of : ℕ → ℕ
digit_of b = cond (ltb b 48) 0 (cond (ltb b 58) (b - 48) (cond (ltb b 97) 0 (cond (ltb b 103) (b - 87) 0)))

-- the place of field k of the line at a place: a letter, and 17 bytes for each field before it.
-- Past the bounds of a script, 38 fields and 524,288 bytes, it is the place after the last byte
unfoldable pub field_at : ℕ → ℕ → ℕ
field_at at k = cond (ltb at 524288) (cond (ltb k 38) (at + 2 + 17 * k) 524288) 524288

-- a field that begins with `-` is absent
unfoldable pub absent_at : List ℕ → ℕ → ℕ → Bool
absent_at text at k = eqb (byte_at text (field_at at k)) 45

-- the value of the first n digits from a place, the highest first
unfoldable pub value_of : List ℕ → ℕ → ℕ → ℕ
value_of text from zero = 0
value_of text from (suc n) = value_of text from n * 16 + digit_of (byte_at text (from + n))

-- a field as a number: its 16 digits
unfoldable pub number_at : List ℕ → ℕ → ℕ → ℕ
number_at text at k = value_of text (field_at at k) 16

-- field k of a line, if it is there
unfoldable pub field_of : List ℕ → ℕ → Option ℕ
field_of line k = cond (absent_at line 0 k) None (Some (number_at line 0 k))

-- the bytes of a text's first line, with its LF (10)
unfoldable pub line_length : List ℕ → ℕ
line_length [] = 0
line_length (b ∷ rest) = cond (eqb b 10) 1 (suc (line_length rest))

-- the place after the line that a place lies in
unfoldable pub next_line : List ℕ → ℕ → ℕ
next_line text at = at + line_length (drop at text)
