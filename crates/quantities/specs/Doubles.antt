-- Doubles that document 01 names, and the tests that its ranges and comparisons are. Definitions only.
-- A double is a `Float` of lib.Ieee: `fin s m e` is m * 2 ^ e, negative where s is true. Times compare as doubles: -0 equals 0, and NaN compares with nothing.
use Rattle.std.specs.Prelude.{ℕ, Bool, true, false, cond, ◌&&◌, pos, Float}
use Rattle.std.specs.Float.{nan, inf, fin}
use Rattle.std.specs.Float.Ieee.{lt, le}

-- 0
abbrev pub zero_f : Float
zero_f = fin false 0 (pos 0)

-- 2 ^ k
abbrev pub power : ℕ → Float
power k = fin false 1 (pos k)

-- MAX: the largest finite double, (2 ^ 53 - 1) * 2 ^ 971
abbrev pub largest : Float
largest = fin false 9007199254740991 (pos 971)

-- -MAX
abbrev pub least : Float
least = fin true 9007199254740991 (pos 971)

-- x is in lo..hi. Both ends are included; NaN is in none
abbrev pub in_range : Float → Float → Float → Bool
in_range lo hi x = le lo x && le x hi

-- the later and the earlier of two: the first of two that are equal
abbrev pub later : Float → Float → Float
later x y = cond (lt x y) y x

abbrev pub earlier : Float → Float → Float
earlier x y = cond (lt y x) y x

-- the sign: of a zero too, and clear for NaN
abbrev pub negative : Float → Bool
negative nan = false
negative (inf s) = s
negative (fin s m e) = s
