-- Document 01, "The text program": the worked example, as a network, and what its seven ticks give, as one list of claims. Then six ticks of a network with a delay of 0, as another.
use Rattle.std.specs.Prelude.{◌≡◌, Bool, true, false, List, [], ◌∷◌, map, ℕ, zero, suc, pos, replicate, Option, Some, None, Ok}
use Rattle.std.specs.Float.{fin, binary64}
use Rattle.std.specs.Float.Ieee.{of_bits}
use Rattle.quantities.specs.declared.time.Time.{Time}
use Rattle.quantities.specs.Doubles.{zero_f, power}
use Rattle.quantities.specs.Units.{time_of, span_of, rate_of}
use Rattle.draws.specs.declared.distribution.ContinuousDistribution.TheVariants.{Always}
use Rattle.meters.specs.Meter.{read_of}
use Rattle.sender.specs.declared.lossy.Policy.TheVariants.{Held}
use Rattle.remy.specs.declared.network.RemyNetwork.{RemyNetwork}
use Rattle.remy.specs.declared.simulation.Simulation.{Simulation}
use Rattle.remy.specs.declared.simulation.Mark.{Mark}
use Rattle.remy.specs.declared.simulation.TickRecord.{TickRecord}
use Rattle.remy.specs.declared.simulation.Ticked.{Ticked}
use Rattle.remy.specs.State.{sender_at, meter_at}
use Rattle.remy.specs.Build.{build_of}
use Rattle.remy.specs.Tick.{tick_of}
use Rattle.remy.specs.Run.{run_of}

-- ---- ticks one after another

-- the first n ticks from a state
unfoldable pub ticks_of : ℕ → Simulation → List Ticked
ticks_of zero s = []
ticks_of (suc n) s = let t = tick_of s in t ∷ ticks_of n t.simulation

-- what is said of a tick: its number, whether it moved, and its record
pub record Told : Type 0 where
  pub number : ℕ
  pub moved : Bool
  pub note : TickRecord

abbrev pub told : Ticked → Told
told t = record { number = t.number; moved = t.moved; note = t.note }

abbrev pub told_of : ℕ → Simulation → List Told
told_of n s = map told (ticks_of n s)

-- ---- a printed line: a tick that moved, with number 0

-- the double of 64 bits, as a moment
abbrev pub moment_of : ℕ → Time
moment_of bits = time_of (of_bits binary64 bits)

abbrev pub told_line : ℕ → ℕ → Mark → Option (ℕ × ℕ) → Option (ℕ × ℕ) → Told
told_line time part mark packet started =
    record { number = 0; moved = true; note = record { time = moment_of time; part = part; mark = mark; packet = packet; started = started } }

-- packet i:n
abbrev pub packet : ℕ → ℕ → Option (ℕ × ℕ)
packet i n = Some (i, n)

abbrev pub none : Option (ℕ × ℕ)
none = None

-- ---- the worked example

-- delay 1, rate 8, loss 0, limit 8, bits 8, one sender, on always 100, off always 1, held 3
abbrev pub worked : RemyNetwork
worked =
    record {
      line = record { delay = power 0; rate = power 3; loss = zero_f; limit = Some 8 };
      back = None;
      bits = replicate 16 8;
      senders = 1;
      on = Always (fin false 25 (pos 2));
      off = Always (power 0);
      policy = Held 3;
    }

-- its state after n ticks, built at seed 1
unfoldable pub worked_after : ℕ → Simulation
worked_after n = (run_of n (build_of worked 1).simulation).simulation

abbrev pub example : List (Type 0)
example =
    ((build_of worked 1).number ≡ 0)
    -- the seven lines
    ∷ (told_of 7 (worked_after 0)
    ≡ told_line 0x3ff0000000000000 2 Mark.Enabled none none
    ∷ told_line 0x3ff0000000000000 1 Mark.Sent (packet 0 1) none
    ∷ told_line 0x3ff0000000000000 0 Mark.None none (packet 0 1)
    ∷ told_line 0x3ff0000000000000 1 Mark.Sent (packet 0 2) none
    ∷ told_line 0x3ff0000000000000 1 Mark.Full (packet 0 3) none
    ∷ told_line 0x4000000000000000 0 Mark.Counted (packet 0 1) (packet 0 2)
    ∷ told_line 0x4000000000000000 1 Mark.Sent (packet 0 4) none
    ∷ [])
    -- stop=0 clock=4008000000000000
    ∷ ((run_of 7 (worked_after 0)).done ≡ 7)
    ∷ ((run_of 7 (worked_after 0)).number ≡ 0)
    ∷ ((worked_after 7).head.clock ≡ moment_of 0x4008000000000000)
    -- flow=0 sent=4 counted=1 rate=4010000000000000 rtt=3ff0000000000000
    ∷ ((sender_at (worked_after 7) 0).packets_sent ≡ 4)
    ∷ ((meter_at (worked_after 7) 0).records ≡ 1)
    ∷ (read_of (meter_at (worked_after 7) 0) (worked_after 7).head.clock
    ≡ record { number = 0; throughput = rate_of (of_bits binary64 0x4010000000000000); rtt = Ok (span_of (of_bits binary64 0x3ff0000000000000)) })
    ∷ []

-- ---- a delay of 0: a packet that starts in one tick of the link leaves in the next, at the same clock

-- delay 0, rate 8, loss 0, no limit, bits 8, one sender, on always 1, off always 1, held 1
abbrev pub nearby : RemyNetwork
nearby =
    record {
      line = record { delay = zero_f; rate = power 3; loss = zero_f; limit = None };
      back = None;
      bits = replicate 16 8;
      senders = 1;
      on = Always (power 0);
      off = Always (power 0);
      policy = Held 1;
    }

abbrev pub no_delay : List (Type 0)
no_delay =
    ((build_of nearby 1).number ≡ 0)
    ∷ (told_of 6 (build_of nearby 1).simulation
    ≡ told_line 0x3ff0000000000000 2 Mark.Enabled none none
    ∷ told_line 0x3ff0000000000000 1 Mark.Sent (packet 0 1) none
    ∷ told_line 0x3ff0000000000000 0 Mark.None none (packet 0 1)
    ∷ told_line 0x3ff0000000000000 0 Mark.Counted (packet 0 1) none
    ∷ told_line 0x3ff0000000000000 1 Mark.Sent (packet 0 2) none
    ∷ told_line 0x4000000000000000 0 Mark.None none (packet 0 2)
    ∷ [])
    ∷ []
