-- Document 01, "Stops", rows 1 to 7, and document 02, K4, 20: both ends of each range and what lies next outside, as one list of claims. Each network differs from a good one in one field.
use Rattle.std.specs.Prelude.{◌≡◌, true, false, List, [], ◌∷◌, ℕ, pos, negsuc, replicate, set, Float, Option, Some, None}
use Rattle.std.specs.Float.{nan, inf, fin, binary64}
use Rattle.std.specs.Float.Ieee.{of_bits}
use Rattle.quantities.specs.Doubles.{zero_f, power}
use Rattle.draws.specs.declared.distribution.ContinuousDistribution.{ContinuousDistribution}
use Rattle.draws.specs.declared.distribution.ContinuousDistribution.TheVariants.{Always, Uniform}
use Rattle.link.specs.declared.link.LineValues.{LineValues}
use Rattle.sender.specs.declared.lossy.Policy.{Policy}
use Rattle.sender.specs.declared.lossy.Policy.TheVariants.{Held, Grown, Timed}
use Rattle.remy.specs.declared.network.RemyNetwork.{RemyNetwork}
use Rattle.remy.specs.Network.{network_stop}
use Rattle.remy.specs.Build.{not_built, build_of}

-- ---- the good network, and one field of it anew

abbrev pub values_from : Float → Float → Float → Option ℕ → LineValues
values_from delay rate loss limit = record { delay = delay; rate = rate; loss = loss; limit = limit }

-- without a return line
abbrev pub network_from : Float → Float → Float → Option ℕ → List ℕ → ℕ → ContinuousDistribution → ContinuousDistribution → Policy → RemyNetwork
network_from delay rate loss limit bits senders on off policy =
    record { line = values_from delay rate loss limit; back = None; bits = bits; senders = senders; on = on; off = off; policy = policy }

-- a network with a return line of these values
abbrev pub returned : RemyNetwork → LineValues → RemyNetwork
returned n v =
    record { line = n.line; back = Some v; bits = n.bits; senders = n.senders; on = n.on; off = n.off; policy = n.policy }

-- so many bits for every sender
abbrev pub bits_all : ℕ → List ℕ
bits_all x = replicate 16 x

abbrev pub always : ContinuousDistribution
always = Always (power 0)

abbrev pub good : RemyNetwork
good = network_from (power 0) (power 3) zero_f None (bits_all 8) 1 always always (Held 3)

abbrev pub with_delay : Float → RemyNetwork
with_delay x = network_from x (power 3) zero_f None (bits_all 8) 1 always always (Held 3)

abbrev pub with_rate : Float → RemyNetwork
with_rate x = network_from (power 0) x zero_f None (bits_all 8) 1 always always (Held 3)

abbrev pub with_loss : Float → RemyNetwork
with_loss x = network_from (power 0) (power 3) x None (bits_all 8) 1 always always (Held 3)

abbrev pub with_limit : Option ℕ → RemyNetwork
with_limit x = network_from (power 0) (power 3) zero_f x (bits_all 8) 1 always always (Held 3)

abbrev pub with_bits : ℕ → RemyNetwork
with_bits x = network_from (power 0) (power 3) zero_f None (bits_all x) 1 always always (Held 3)

-- these bits, the first of so many senders' own
abbrev pub with_sizes : List ℕ → ℕ → RemyNetwork
with_sizes x n = network_from (power 0) (power 3) zero_f None x n always always (Held 3)

abbrev pub with_sender_count : ℕ → RemyNetwork
with_sender_count x = network_from (power 0) (power 3) zero_f None (bits_all 8) x always always (Held 3)

abbrev pub with_on : ContinuousDistribution → RemyNetwork
with_on x = network_from (power 0) (power 3) zero_f None (bits_all 8) 1 x always (Held 3)

abbrev pub with_off : ContinuousDistribution → RemyNetwork
with_off x = network_from (power 0) (power 3) zero_f None (bits_all 8) 1 always x (Held 3)

abbrev pub with_policy : Policy → RemyNetwork
with_policy x = network_from (power 0) (power 3) zero_f None (bits_all 8) 1 always always x

-- with a return line of these values
abbrev pub with_back : LineValues → RemyNetwork
with_back x = returned good x

abbrev pub with_back_delay : Float → RemyNetwork
with_back_delay x = with_back (values_from x (power 3) zero_f None)

abbrev pub with_back_rate : Float → RemyNetwork
with_back_rate x = with_back (values_from (power 0) x zero_f None)

abbrev pub with_back_loss : Float → RemyNetwork
with_back_loss x = with_back (values_from (power 0) (power 3) x None)

abbrev pub with_back_limit : Option ℕ → RemyNetwork
with_back_limit x = with_back (values_from (power 0) (power 3) zero_f x)

-- values of which none is in its range
abbrev pub unruly : LineValues
unruly = values_from nan nan nan (Some 1125899906842625)

-- the numbers of a network with this on time, and of one with this off time
abbrev pub stops_with : ContinuousDistribution → List ℕ
stops_with x = network_stop (with_on x) ∷ network_stop (with_off x) ∷ []

-- ---- doubles at the ends, and next to them

abbrev pub minus_zero : Float
minus_zero = fin true 0 (pos 0)

-- the smallest positive double, 2^-1074, and the greatest negative one
abbrev pub tiny : Float
tiny = fin false 1 (negsuc 1073)

abbrev pub below_zero : Float
below_zero = fin true 1 (negsuc 1073)

-- 2^-20 and the double below it
abbrev pub least_gap : Float
least_gap = fin false 1 (negsuc 19)

abbrev pub below_least_gap : Float
below_least_gap = fin false 9007199254740991 (negsuc 72)

-- the doubles below and above 1
abbrev pub below_one : Float
below_one = fin false 9007199254740991 (negsuc 52)

abbrev pub above_one : Float
above_one = fin false 4503599627370497 (negsuc 51)

-- the double above 2^20, and the one above 2^50
abbrev pub above_most : Float
above_most = fin false 4503599627370497 (negsuc 31)

abbrev pub above_most_rate : Float
above_most_rate = fin false 4503599627370497 (negsuc 1)

-- the double of 64 bits
abbrev pub double : ℕ → Float
double = of_bits binary64

abbrev pub ranges : List (Type 0)
ranges =
    (network_stop good ≡ 0)
    -- The bits of two doubles that are next to each other differ by 1.
    ∷ (double 0x0000000000000000 ≡ zero_f)
    ∷ (double 0x8000000000000000 ≡ minus_zero)
    ∷ (double 0x0000000000000001 ≡ tiny)
    ∷ (double 0x8000000000000001 ≡ below_zero)
    ∷ (double 0x3eb0000000000000 ≡ least_gap)
    ∷ (double 0x3eafffffffffffff ≡ below_least_gap)
    ∷ (double 0x3ff0000000000000 ≡ power 0)
    ∷ (double 0x3fefffffffffffff ≡ below_one)
    ∷ (double 0x3ff0000000000001 ≡ above_one)
    ∷ (double 0x4130000000000000 ≡ power 20)
    ∷ (double 0x4130000000000001 ≡ above_most)
    ∷ (double 0x4310000000000000 ≡ power 50)
    ∷ (double 0x4310000000000001 ≡ above_most_rate)
    -- 1: delay not in 0..2^20 s
    ∷ (network_stop (with_delay zero_f) ≡ 0)
    ∷ (network_stop (with_delay minus_zero) ≡ 0)
    ∷ (network_stop (with_delay (power 20)) ≡ 0)
    ∷ (network_stop (with_delay below_zero) ≡ 1)
    ∷ (network_stop (with_delay above_most) ≡ 1)
    ∷ (network_stop (with_delay nan) ≡ 1)
    ∷ (network_stop (with_delay (inf false)) ≡ 1)
    ∷ (network_stop (with_delay (inf true)) ≡ 1)
    -- 2: rate not in 1..2^50 bit/s
    ∷ (network_stop (with_rate (power 0)) ≡ 0)
    ∷ (network_stop (with_rate (power 50)) ≡ 0)
    ∷ (network_stop (with_rate below_one) ≡ 2)
    ∷ (network_stop (with_rate above_most_rate) ≡ 2)
    ∷ (network_stop (with_rate nan) ≡ 2)
    ∷ (network_stop (with_rate (inf false)) ≡ 2)
    -- 3: loss not in 0..1
    ∷ (network_stop (with_loss zero_f) ≡ 0)
    ∷ (network_stop (with_loss minus_zero) ≡ 0)
    ∷ (network_stop (with_loss (power 0)) ≡ 0)
    ∷ (network_stop (with_loss below_zero) ≡ 3)
    ∷ (network_stop (with_loss above_one) ≡ 3)
    ∷ (network_stop (with_loss nan) ≡ 3)
    -- 4: limit present and above 2^50 bits
    ∷ (network_stop (with_limit None) ≡ 0)
    ∷ (network_stop (with_limit (Some 0)) ≡ 0)
    ∷ (network_stop (with_limit (Some 1125899906842624)) ≡ 0)
    ∷ (network_stop (with_limit (Some 1125899906842625)) ≡ 4)
    -- 5: packet bits not in 1..2^24,
    ∷ (network_stop (with_bits 1) ≡ 0)
    ∷ (network_stop (with_bits 16777216) ≡ 0)
    ∷ (network_stop (with_bits 0) ≡ 5)
    ∷ (network_stop (with_bits 16777217) ≡ 5)
    -- or over 16 senders
    ∷ (network_stop (with_sender_count 0) ≡ 0)
    ∷ (network_stop (with_sender_count 16) ≡ 0)
    ∷ (network_stop (with_sender_count 17) ≡ 5)
    -- each sender's own bits are read, the first's and the last's too,
    ∷ (network_stop (with_sizes (1 ∷ 16777216 ∷ []) 2) ≡ 0)
    ∷ (network_stop (with_sizes (0 ∷ 8 ∷ []) 2) ≡ 5)
    ∷ (network_stop (with_sizes (8 ∷ 0 ∷ []) 2) ≡ 5)
    ∷ (network_stop (with_sizes (8 ∷ 16777217 ∷ []) 2) ≡ 5)
    ∷ (network_stop (with_sizes (set (bits_all 8) 15 0) 16) ≡ 5)
    -- and those of no other place; none where no sender is
    ∷ (network_stop (with_sizes (set (bits_all 8) 15 0) 15) ≡ 0)
    ∷ (network_stop (with_sizes (bits_all 0) 0) ≡ 0)
    ∷ (network_stop (with_sizes (bits_all 16777217) 0) ≡ 0)
    -- 6: on or off: always v not in 0 < v ≤ 2^20;
    ∷ (stops_with (Always tiny) ≡ 0 ∷ 0 ∷ [])
    ∷ (stops_with (Always (power 20)) ≡ 0 ∷ 0 ∷ [])
    ∷ (stops_with (Always zero_f) ≡ 6 ∷ 6 ∷ [])
    ∷ (stops_with (Always minus_zero) ≡ 6 ∷ 6 ∷ [])
    ∷ (stops_with (Always above_most) ≡ 6 ∷ 6 ∷ [])
    ∷ (stops_with (Always nan) ≡ 6 ∷ 6 ∷ [])
    -- uniform not 0 ≤ min < max ≤ 2^20
    ∷ (stops_with (Uniform zero_f tiny) ≡ 0 ∷ 0 ∷ [])
    ∷ (stops_with (Uniform minus_zero tiny) ≡ 0 ∷ 0 ∷ [])
    ∷ (stops_with (Uniform zero_f (power 20)) ≡ 0 ∷ 0 ∷ [])
    ∷ (stops_with (Uniform (power 0) (power 0)) ≡ 6 ∷ 6 ∷ [])
    ∷ (stops_with (Uniform minus_zero zero_f) ≡ 6 ∷ 6 ∷ [])
    ∷ (stops_with (Uniform below_zero tiny) ≡ 6 ∷ 6 ∷ [])
    ∷ (stops_with (Uniform zero_f above_most) ≡ 6 ∷ 6 ∷ [])
    ∷ (stops_with (Uniform nan (power 0)) ≡ 6 ∷ 6 ∷ [])
    ∷ (stops_with (Uniform zero_f nan) ≡ 6 ∷ 6 ∷ [])
    -- 7: policy: a window not in 1..64,
    ∷ (network_stop (with_policy (Held 1)) ≡ 0)
    ∷ (network_stop (with_policy (Held 64)) ≡ 0)
    ∷ (network_stop (with_policy (Held 0)) ≡ 7)
    ∷ (network_stop (with_policy (Held 65)) ≡ 7)
    -- first above most,
    ∷ (network_stop (with_policy (Grown 1 64)) ≡ 0)
    ∷ (network_stop (with_policy (Grown 64 64)) ≡ 0)
    ∷ (network_stop (with_policy (Grown 0 1)) ≡ 7)
    ∷ (network_stop (with_policy (Grown 2 1)) ≡ 7)
    ∷ (network_stop (with_policy (Grown 1 65)) ≡ 7)
    -- gap not in 2^-20..2^20 s
    ∷ (network_stop (with_policy (Timed 1 least_gap)) ≡ 0)
    ∷ (network_stop (with_policy (Timed 64 (power 20))) ≡ 0)
    ∷ (network_stop (with_policy (Timed 1 below_least_gap)) ≡ 7)
    ∷ (network_stop (with_policy (Timed 1 above_most)) ≡ 7)
    ∷ (network_stop (with_policy (Timed 1 nan)) ≡ 7)
    ∷ (network_stop (with_policy (Timed 0 least_gap)) ≡ 7)
    ∷ (network_stop (with_policy (Timed 65 least_gap)) ≡ 7)
    -- Of several the lowest; and all but the bits are tested where no sender is.
    ∷ (network_stop (network_from nan nan nan None (bits_all 0) 17 always always (Held 0)) ≡ 1)
    ∷ (network_stop (network_from zero_f (power 0) zero_f None (bits_all 0) 1 (Always nan) always (Held 0)) ≡ 5)
    ∷ (network_stop (network_from zero_f (power 0) zero_f None (bits_all 0) 0 always (Always nan) (Held 0)) ≡ 6)
    -- 20: a return line outside 1 to 4: its delay,
    ∷ (network_stop (with_back_delay zero_f) ≡ 0)
    ∷ (network_stop (with_back_delay minus_zero) ≡ 0)
    ∷ (network_stop (with_back_delay (power 20)) ≡ 0)
    ∷ (network_stop (with_back_delay below_zero) ≡ 20)
    ∷ (network_stop (with_back_delay above_most) ≡ 20)
    ∷ (network_stop (with_back_delay nan) ≡ 20)
    ∷ (network_stop (with_back_delay (inf false)) ≡ 20)
    ∷ (network_stop (with_back_delay (inf true)) ≡ 20)
    -- rate,
    ∷ (network_stop (with_back_rate (power 0)) ≡ 0)
    ∷ (network_stop (with_back_rate (power 50)) ≡ 0)
    ∷ (network_stop (with_back_rate below_one) ≡ 20)
    ∷ (network_stop (with_back_rate above_most_rate) ≡ 20)
    ∷ (network_stop (with_back_rate nan) ≡ 20)
    ∷ (network_stop (with_back_rate (inf false)) ≡ 20)
    -- loss
    ∷ (network_stop (with_back_loss zero_f) ≡ 0)
    ∷ (network_stop (with_back_loss minus_zero) ≡ 0)
    ∷ (network_stop (with_back_loss (power 0)) ≡ 0)
    ∷ (network_stop (with_back_loss below_zero) ≡ 20)
    ∷ (network_stop (with_back_loss above_one) ≡ 20)
    ∷ (network_stop (with_back_loss nan) ≡ 20)
    -- or limit.
    ∷ (network_stop (with_back_limit None) ≡ 0)
    ∷ (network_stop (with_back_limit (Some 0)) ≡ 0)
    ∷ (network_stop (with_back_limit (Some 1125899906842624)) ≡ 0)
    ∷ (network_stop (with_back_limit (Some 1125899906842625)) ≡ 20)
    -- It is tested after 1 to 7, and where no sender is;
    ∷ (network_stop (returned (with_delay nan) unruly) ≡ 1)
    ∷ (network_stop (returned (with_rate nan) unruly) ≡ 2)
    ∷ (network_stop (returned (with_loss nan) unruly) ≡ 3)
    ∷ (network_stop (returned (with_limit (Some 1125899906842625)) unruly) ≡ 4)
    ∷ (network_stop (returned (with_bits 0) unruly) ≡ 5)
    ∷ (network_stop (returned (with_off (Always nan)) unruly) ≡ 6)
    ∷ (network_stop (returned (with_policy (Held 0)) unruly) ≡ 7)
    ∷ (network_stop (returned (with_sender_count 0) unruly) ≡ 20)
    -- and before any draw: with seed 474 eight first off times in a row are 0.
    ∷ (build_of (returned (with_off (Uniform zero_f tiny)) good.line) 474 ≡ not_built 8)
    ∷ (build_of (returned (with_off (Uniform zero_f tiny)) unruly) 474 ≡ not_built 20)
    ∷ []
