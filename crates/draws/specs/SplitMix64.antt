-- SplitMix64 as published (G. Steele, D. Lea, C. Flood, "Fast splittable pseudorandom number generators", 2014; S. Vigna's splitmix64.c). Definitions only.
-- Words are numbers below 2 ^ 64. Sums and products are taken modulo 2 ^ 64, and x / 2 ^ k is x shifted right by k.
use Rattle.std.specs.Prelude.{ℕ, ◌+◌, ◌*◌, ◌/◌, ◌%◌, ◌^◌, bit_xor}
use Rattle.draws.specs.declared.splitmix64.SplitMix64.{SplitMix64}
use Rattle.draws.specs.declared.splitmix64.Mixed.{Mixed}

-- x ^ (x >> k)
abbrev pub folded : ℕ → ℕ → ℕ
folded k x = bit_xor x (x / 2 ^ k)

-- the output that a value of the counter gives
unfoldable pub mixed : ℕ → ℕ
mixed x = folded 31 (folded 27 (folded 30 x * 0xbf58476d1ce4e5b9 % 2 ^ 64) * 0x94d049bb133111eb % 2 ^ 64)

-- the counter's next value
abbrev pub incremented : ℕ → ℕ
incremented x = (x + 0x9e3779b97f4a7c15) % 2 ^ 64

-- the output, and the state after it
abbrev pub stepped : SplitMix64 → Mixed
stepped g = record { output = mixed (incremented g.x); state = record { x = incremented g.x } }
