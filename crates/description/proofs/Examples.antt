-- The text of document 01's example and others, as the definitions write them. Assumes nothing.
use Prim.Native.Nat.{ℕ, zero, suc, ◌<◌, ◌^◌}
use mathlib.Core.List.{List, [], ◌∷◌, ◌++◌}
use mathlib.Core.Logic.{inr}
use mathlib.Core.Path.{◌≡◌, refl}
use lib.Dec.{lit<, lit≤}
use lib.ListN.{length, replicate}
use Rattle.std.specs.Prelude.{Some, None}
use Rattle.notation.specs.Notation.{digit_byte, digits_of, hex_of, decimal_within, decimal_of}
use Rattle.description.specs.Text.{Written, text_of, BitsInWidth, InWidth, places_of}
use Rattle.description.specs.declared.Distribution.TheVariants.{Always, Uniform}
use Rattle.description.specs.declared.Policy.TheVariants.{Held, Timed}

-- the description
example-text : List ℕ
example-text =
    -- delay=3ff0000000000000
    100 ∷ 101 ∷ 108 ∷ 97 ∷ 121 ∷ 61 ∷ 51 ∷ 102 ∷ 102 ∷ 48 ∷ 48 ∷ 48 ∷ 48 ∷ 48 ∷ 48 ∷ 48 ∷ 48 ∷ 48 ∷ 48 ∷ 48 ∷ 48 ∷ 48 ∷ 10 ∷
    -- rate=4020000000000000
    114 ∷ 97 ∷ 116 ∷ 101 ∷ 61 ∷ 52 ∷ 48 ∷ 50 ∷ 48 ∷ 48 ∷ 48 ∷ 48 ∷ 48 ∷ 48 ∷ 48 ∷ 48 ∷ 48 ∷ 48 ∷ 48 ∷ 48 ∷ 48 ∷ 10 ∷
    -- loss=0000000000000000
    108 ∷ 111 ∷ 115 ∷ 115 ∷ 61 ∷ 48 ∷ 48 ∷ 48 ∷ 48 ∷ 48 ∷ 48 ∷ 48 ∷ 48 ∷ 48 ∷ 48 ∷ 48 ∷ 48 ∷ 48 ∷ 48 ∷ 48 ∷ 48 ∷ 10 ∷
    -- limit=8
    108 ∷ 105 ∷ 109 ∷ 105 ∷ 116 ∷ 61 ∷ 56 ∷ 10 ∷
    -- bits=8
    98 ∷ 105 ∷ 116 ∷ 115 ∷ 61 ∷ 56 ∷ 10 ∷
    -- senders=1
    115 ∷ 101 ∷ 110 ∷ 100 ∷ 101 ∷ 114 ∷ 115 ∷ 61 ∷ 49 ∷ 10 ∷
    -- on=always:4059000000000000
    111 ∷ 110 ∷ 61 ∷ 97 ∷ 108 ∷ 119 ∷ 97 ∷ 121 ∷ 115 ∷ 58 ∷ 52 ∷ 48 ∷ 53 ∷ 57 ∷ 48 ∷ 48 ∷ 48 ∷ 48 ∷ 48 ∷ 48 ∷ 48 ∷ 48 ∷ 48 ∷ 48 ∷ 48 ∷ 48 ∷ 10 ∷
    -- off=always:3ff0000000000000
    111 ∷ 102 ∷ 102 ∷ 61 ∷ 97 ∷ 108 ∷ 119 ∷ 97 ∷ 121 ∷ 115 ∷ 58 ∷ 51 ∷ 102 ∷ 102 ∷ 48 ∷ 48 ∷ 48 ∷ 48 ∷ 48 ∷ 48 ∷ 48 ∷ 48 ∷ 48 ∷ 48 ∷ 48 ∷ 48 ∷ 48 ∷ 10 ∷
    -- policy=held:3
    112 ∷ 111 ∷ 108 ∷ 105 ∷ 99 ∷ 121 ∷ 61 ∷ 104 ∷ 101 ∷ 108 ∷ 100 ∷ 58 ∷ 51 ∷ 10 ∷
    -- seed=1
    115 ∷ 101 ∷ 101 ∷ 100 ∷ 61 ∷ 49 ∷ 10 ∷
    -- ticks=7
    116 ∷ 105 ∷ 99 ∷ 107 ∷ 115 ∷ 61 ∷ 55 ∷ 10 ∷
    []

example : text_of (record {
  delay = 0x3ff0_0000_0000_0000;
  rate = 0x4020_0000_0000_0000;
  loss = 0;
  limit = Some 8;
  bits = 8 ∷ [];
  senders = 1;
  on = Always 0x4059_0000_0000_0000;
  off = Always 0x3ff0_0000_0000_0000;
  policy = Held 3;
  seed = 1;
  ticks = 7;
}) ≡ example-text
unfolding text_of hex_of digits_of digit_byte decimal_of decimal_within example-text
example = refl

-- the other forms, values joined by commas, and the greatest numbers
forms_text : List ℕ
forms_text =
    -- delay=3ff0000000000000
    100 ∷ 101 ∷ 108 ∷ 97 ∷ 121 ∷ 61 ∷ 51 ∷ 102 ∷ 102 ∷ 48 ∷ 48 ∷ 48 ∷ 48 ∷ 48 ∷ 48 ∷ 48 ∷ 48 ∷ 48 ∷ 48 ∷ 48 ∷ 48 ∷ 48 ∷ 10 ∷
    -- rate=4020000000000000
    114 ∷ 97 ∷ 116 ∷ 101 ∷ 61 ∷ 52 ∷ 48 ∷ 50 ∷ 48 ∷ 48 ∷ 48 ∷ 48 ∷ 48 ∷ 48 ∷ 48 ∷ 48 ∷ 48 ∷ 48 ∷ 48 ∷ 48 ∷ 48 ∷ 10 ∷
    -- loss=0000000000000000
    108 ∷ 111 ∷ 115 ∷ 115 ∷ 61 ∷ 48 ∷ 48 ∷ 48 ∷ 48 ∷ 48 ∷ 48 ∷ 48 ∷ 48 ∷ 48 ∷ 48 ∷ 48 ∷ 48 ∷ 48 ∷ 48 ∷ 48 ∷ 48 ∷ 10 ∷
    -- limit=none
    108 ∷ 105 ∷ 109 ∷ 105 ∷ 116 ∷ 61 ∷ 110 ∷ 111 ∷ 110 ∷ 101 ∷ 10 ∷
    -- bits=12000,6000
    98 ∷ 105 ∷ 116 ∷ 115 ∷ 61 ∷ 49 ∷ 50 ∷ 48 ∷ 48 ∷ 48 ∷ 44 ∷ 54 ∷ 48 ∷ 48 ∷ 48 ∷ 10 ∷
    -- senders=2
    115 ∷ 101 ∷ 110 ∷ 100 ∷ 101 ∷ 114 ∷ 115 ∷ 61 ∷ 50 ∷ 10 ∷
    -- on=uniform:0000000000000000:3ff0000000000000
    111 ∷ 110 ∷ 61 ∷ 117 ∷ 110 ∷ 105 ∷ 102 ∷ 111 ∷ 114 ∷ 109 ∷ 58 ∷ 48 ∷ 48 ∷ 48 ∷ 48 ∷ 48 ∷ 48 ∷ 48 ∷ 48 ∷ 48 ∷ 48 ∷ 48 ∷ 48 ∷ 48 ∷ 48 ∷ 48 ∷ 48 ∷ 58 ∷ 51 ∷ 102 ∷ 102 ∷ 48 ∷ 48 ∷ 48 ∷ 48 ∷ 48 ∷ 48 ∷ 48 ∷ 48 ∷ 48 ∷ 48 ∷ 48 ∷ 48 ∷ 48 ∷ 10 ∷
    -- off=uniform:000000000000000f:ffffffffffffffff
    111 ∷ 102 ∷ 102 ∷ 61 ∷ 117 ∷ 110 ∷ 105 ∷ 102 ∷ 111 ∷ 114 ∷ 109 ∷ 58 ∷ 48 ∷ 48 ∷ 48 ∷ 48 ∷ 48 ∷ 48 ∷ 48 ∷ 48 ∷ 48 ∷ 48 ∷ 48 ∷ 48 ∷ 48 ∷ 48 ∷ 48 ∷ 102 ∷ 58 ∷ 102 ∷ 102 ∷ 102 ∷ 102 ∷ 102 ∷ 102 ∷ 102 ∷ 102 ∷ 102 ∷ 102 ∷ 102 ∷ 102 ∷ 102 ∷ 102 ∷ 102 ∷ 102 ∷ 10 ∷
    -- policy=timed:64:3ff0000000000000
    112 ∷ 111 ∷ 108 ∷ 105 ∷ 99 ∷ 121 ∷ 61 ∷ 116 ∷ 105 ∷ 109 ∷ 101 ∷ 100 ∷ 58 ∷ 54 ∷ 52 ∷ 58 ∷ 51 ∷ 102 ∷ 102 ∷ 48 ∷ 48 ∷ 48 ∷ 48 ∷ 48 ∷ 48 ∷ 48 ∷ 48 ∷ 48 ∷ 48 ∷ 48 ∷ 48 ∷ 48 ∷ 10 ∷
    -- seed=18446744073709551615
    115 ∷ 101 ∷ 101 ∷ 100 ∷ 61 ∷ 49 ∷ 56 ∷ 52 ∷ 52 ∷ 54 ∷ 55 ∷ 52 ∷ 52 ∷ 48 ∷ 55 ∷ 51 ∷ 55 ∷ 48 ∷ 57 ∷ 53 ∷ 53 ∷ 49 ∷ 54 ∷ 49 ∷ 53 ∷ 10 ∷
    -- ticks=65536
    116 ∷ 105 ∷ 99 ∷ 107 ∷ 115 ∷ 61 ∷ 54 ∷ 53 ∷ 53 ∷ 51 ∷ 54 ∷ 10 ∷
    []

forms : text_of (record {
  delay = 0x3ff0_0000_0000_0000;
  rate = 0x4020_0000_0000_0000;
  loss = 0;
  limit = None;
  bits = 12000 ∷ 6000 ∷ [];
  senders = 2;
  on = Uniform 0 0x3ff0_0000_0000_0000;
  off = Uniform 15 0xffff_ffff_ffff_ffff;
  policy = Timed 64 0x3ff0_0000_0000_0000;
  seed = 18446744073709551615;
  ticks = 65536;
}) ≡ forms_text
unfolding text_of hex_of digits_of digit_byte decimal_of decimal_within forms_text
forms = refl

-- the places for senders: of two values the other places have 0, and of 17 the last has none
two-places : places_of (12000 ∷ 6000 ∷ []) ≡ 12000 ∷ 6000 ∷ replicate 14 0
two-places = refl

all_places : places_of (replicate 16 8 ++ (9 ∷ [])) ≡ replicate 16 8
all_places = refl

-- the longest text: 254 values of one digit, whose line has 512 bytes, and each other line as long as it can be
abbrev longest : Written
longest = record {
  delay = 0;
  rate = 0;
  loss = 0;
  limit = Some 18446744073709551615;
  bits = replicate 254 9;
  senders = 254;
  on = Uniform 0 0;
  off = Uniform 0 0;
  policy = Timed 4294967295 0;
  seed = 18446744073709551615;
  ticks = 65536;
}

repeated_in_width : (n v : ℕ) → v < 2 ^ 64 → BitsInWidth (replicate n v)
repeated_in_width zero v h = tt
repeated_in_width (suc n) v h = (h, repeated_in_width n v h)

longest_in_width : InWidth longest
unfolding decimal_of decimal_within
longest_in_width = record {
  delay = lit< tt;
  rate = lit< tt;
  loss = lit< tt;
  limit = lit< tt;
  bits = repeated_in_width 254 9 (lit< tt);
  count = inr (lit≤ tt, refl);
  line = lit≤ tt;
  senders = lit< tt;
  on = (lit< tt, lit< tt);
  off = (lit< tt, lit< tt);
  policy = (lit< tt, lit< tt);
  seed = lit< tt;
  ticks = lit≤ tt;
}

longest-text : length (text_of longest) ≡ 789
unfolding text_of hex_of digits_of decimal_of decimal_within
longest-text = refl
