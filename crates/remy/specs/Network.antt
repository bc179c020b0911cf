-- Document 01, "Stops", rows 1 to 7, and document 02, K4, 20: the ranges of a network. Definitions only. Ranges include both ends; NaN is in none; of several the first tested.
use Rattle.std.specs.Prelude.{ℕ, zero, suc, Bool, true, false, ◌&&◌, cond, List, leb, get_or, negsuc, Float, Option, Some, None}
use Rattle.std.specs.Float.{fin}
use Rattle.std.specs.Float.Ieee.{lt, le}
use Rattle.quantities.specs.Doubles.{zero_f, power, in_range}
use Rattle.draws.specs.declared.distribution.ContinuousDistribution.{ContinuousDistribution}
use Rattle.draws.specs.declared.distribution.ContinuousDistribution.TheVariants.{Always, Uniform}
use Rattle.link.specs.declared.link.LineValues.{LineValues}
use Rattle.sender.specs.declared.lossy.Policy.{Policy}
use Rattle.sender.specs.declared.lossy.Policy.TheVariants.{Held, Grown, Timed}
use Rattle.remy.specs.declared.network.RemyNetwork.{RemyNetwork}

-- a test of every number below n
abbrev pub up_to : ℕ → (ℕ → Bool) → Bool
up_to zero f = true
up_to (suc n) f = up_to n f && f n

-- a whole number in lo..hi
abbrev pub between : ℕ → ℕ → ℕ → Bool
between lo hi n = leb lo n && leb n hi

-- 1: delay not in 0..2^20 s
abbrev pub delay_fit : Float → Bool
delay_fit delay = in_range zero_f (power 20) delay

-- 2: rate not in 1..2^50 bit/s
abbrev pub rate_fit : Float → Bool
rate_fit rate = in_range (power 0) (power 50) rate

-- 3: loss not in 0..1
abbrev pub loss_fit : Float → Bool
loss_fit loss = in_range zero_f (power 0) loss

-- 4: limit present and above 2^50 bits
abbrev pub limit_fit : Option ℕ → Bool
limit_fit None = true
limit_fit (Some most) = leb most 1125899906842624

-- 5: packet bits not in 1..2^24, or over 16 senders. Each sender's own bits are read (document 02, K1), and with no senders none.
abbrev pub sizes_fit : List ℕ → ℕ → Bool
sizes_fit bits senders = leb senders 16 && up_to senders (λ i. between 1 16777216 (get_or bits i 0))

-- 6: on or off: always v not in 0 < v ≤ 2^20; uniform not 0 ≤ min < max ≤ 2^20
abbrev pub times_fit : ContinuousDistribution → Bool
times_fit (Always v) = lt zero_f v && le v (power 20)
times_fit (Uniform min max) = le zero_f min && lt min max && le max (power 20)

-- a window in 1..64
abbrev pub window_fit : ℕ → Bool
window_fit w = between 1 64 w

-- a gap in 2^-20..2^20 s
abbrev pub gap_fit : Float → Bool
gap_fit gap = in_range (fin false 1 (negsuc 19)) (power 20) gap

-- 7: policy: a window not in 1..64, first above most, gap not in 2^-20..2^20 s
abbrev pub policy_fit : Policy → Bool
policy_fit (Held w) = window_fit w
policy_fit (Grown first most) = window_fit first && window_fit most && leb first most
policy_fit (Timed most gap) = window_fit most && gap_fit gap

-- 20: a return line outside the ranges of 1 to 4
abbrev pub values_fit : LineValues → Bool
values_fit v = delay_fit v.delay && rate_fit v.rate && loss_fit v.loss && limit_fit v.limit

abbrev pub back_fit : Option LineValues → Bool
back_fit None = true
back_fit (Some v) = values_fit v

-- the number of the first cause, or 0; 20 is tested after 7
unfoldable pub network_stop : RemyNetwork → ℕ
network_stop n =
    cond (delay_fit n.line.delay)
    (cond (rate_fit n.line.rate)
    (cond (loss_fit n.line.loss)
    (cond (limit_fit n.line.limit)
    (cond (sizes_fit n.bits n.senders)
    (cond (times_fit n.on && times_fit n.off)
    (cond (policy_fit n.policy) (cond (back_fit n.back) 0 20) 7)
    6)
    5)
    4)
    3)
    2)
    1
