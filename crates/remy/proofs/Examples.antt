-- Runs from built networks, computed: what these definitions do, where the account alone would let them do otherwise. States made by hand are in Stops.
-- The crate `points` has the worked example whole. Assumes nothing.
use Rattle.std.proofs.Common.{Option, Some, None}
use mathlib.Core.Path.{◌≡◌, refl}
use mathlib.Core.Bool.{false}
use mathlib.Core.List.{List, [], ◌∷◌, map}
use Prim.Native.Nat.{ℕ}
use lib.IntN.{pos}
use lib.ListN.{replicate}
use lib.Ieee.{Float, nan, fin}
use Rattle.link.specs.declared.link.LineValues.{LineValues}
use Rattle.quantities.specs.Doubles.{zero_f, power}
use Rattle.quantities.specs.Units.{span_of, time_of, amount_of}
use Rattle.draws.specs.declared.distribution.ContinuousDistribution.TheVariants.{Always}
use Rattle.draws.specs.Generator.{from_words}
use Rattle.sender.specs.declared.lossy.Policy.{Policy}
use Rattle.sender.specs.declared.lossy.Policy.TheVariants.{Held, Timed}
use Rattle.toggler.specs.Queue.{queue_places, no_queued}
use Rattle.remy.specs.declared.network.RemyNetwork.{RemyNetwork}
use Rattle.remy.specs.declared.simulation.Simulation.{Simulation}
use Rattle.remy.specs.declared.simulation.Mark.{Mark}
use Rattle.remy.specs.declared.simulation.TickRecord.{TickRecord}
use Rattle.remy.specs.State.{line_at, meter_at, with_line, with_queued}
use Rattle.remy.specs.Build.{build_of}
use Rattle.remy.specs.Tick.{tick_of}
use Rattle.remy.specs.Run.{notes_of}
use Rattle.remy.specs.History.{ticks, after, history}
use Rattle.remy.proofs.Opened.{ticking}

abbrev pub three : Float
three = fin false 3 (pos 0)

abbrev pub five : Float
five = fin false 5 (pos 0)

abbrev pub hundred : Float
hundred = fin false 25 (pos 2)

-- rate 8, loss 0, so many senders with these bits, on and off always so long
abbrev pub network_of : Option LineValues → List ℕ → ℕ → Float → Option ℕ → Float → Float → Policy → RemyNetwork
network_of back sizes senders delay limit on off policy =
    record {
      line = record { delay = delay; rate = power 3; loss = zero_f; limit = limit };
      back = back;
      bits = sizes;
      senders = senders;
      on = Always on;
      off = Always off;
      policy = policy;
    }

-- no return line, seed 1
abbrev built_of : List ℕ → ℕ → Float → Option ℕ → Float → Float → Policy → Simulation
built_of sizes senders delay limit on off policy = (build_of (network_of None sizes senders delay limit on off policy) 1).simulation

-- one sender, bits 8
abbrev built_with : Float → Option ℕ → Float → Float → Policy → Simulation
built_with delay limit on off policy = built_of (replicate 16 8) 1 delay limit on off policy

-- on 100, off 1, held
abbrev pub built : Float → Option ℕ → ℕ → Simulation
built delay limit window = built_with delay limit hundred (power 0) (Held window)

abbrev pub line : Float → ℕ → Mark → Option (ℕ × ℕ) → Option (ℕ × ℕ) → TickRecord
line time part mark packet started = record { time = time_of time; part = part; mark = mark; packet = packet; started = started }

abbrev pub packet : ℕ → Option (ℕ × ℕ)
packet m = Some (0, m)

abbrev pub none : Option (ℕ × ℕ)
none = None

-- ---- the worked example: delay 1, limit 8, held 3

abbrev pub worked : Simulation
worked = built (power 0) (Some 8) 3

-- the toggler, which is next, was removed from the queue, and nothing else is queued
worked-queue : worked.queue ≡ replicate queue_places no_queued
unfolding ticking
worked-queue = refl

worked-history : history (ticks 7) worked
    ≡ line (power 0) 2 Mark.Enabled none none
    ∷ line (power 0) 1 Mark.Sent (packet 1) none
    ∷ line (power 0) 0 Mark.None none (packet 1)
    ∷ line (power 0) 1 Mark.Sent (packet 2) none
    ∷ line (power 0) 1 Mark.Full (packet 3) none
    ∷ line (power 1) 0 Mark.Counted (packet 1) (packet 2)
    ∷ line (power 1) 1 Mark.Sent (packet 4) none
    ∷ []
unfolding ticking
worked-history = refl

-- the bits that wait after each tick: 8 from a send on, until that packet starts
worked-waiting : map (λ x. x.waiting) (notes_of 7 worked) ≡ amount_of 0 ∷ amount_of 8 ∷ amount_of 0 ∷ amount_of 8 ∷ amount_of 8 ∷ amount_of 0 ∷ amount_of 8 ∷ []
unfolding ticking notes_of
worked-waiting = refl

-- one packet left, so one sample was drawn
worked-words : (line_at (after (ticks 7) worked) 0).rng ≡ from_words 14956314531195876544 7576440072486442806 6053824538967488443 6254198100547973758
unfolding ticking
worked-words = refl

-- 0:1 came after 1 s, and 0:2, which had waited, after 2 s
worked-meter : meter_at (after (ticks 8) worked) 0
    ≡ record { total_time = span_of zero_f; current_start = Some (time_of (power 0)); total = amount_of 16; records = 2; rtt_sum = span_of three }
unfolding ticking
worked-meter = refl

-- ---- a state with waiting bits other than the waiting packets' bits is refused with 9

abbrev pub with_bits : Simulation → ℕ → Simulation
with_bits s bits =
    with_line s 0
    (record {
      earliest_transmit = (line_at s 0).earliest_transmit;
      buffer_contains = amount_of bits;
      waiting = (line_at s 0).waiting;
      on_line = (line_at s 0).on_line;
      rng = (line_at s 0).rng;
    })

unfit-bits : (tick_of (with_bits worked 1)).number ≡ 9
unfolding ticking
unfit-bits = refl

-- ---- delay 4, no limit, on 2, off 1, held 1: the sender sends again when it is switched on again, and its packet of before is old

restarted_history : history (ticks 8) (built_with (power 2) None (power 1) (power 0) (Held 1))
    ≡ line (power 0) 2 Mark.Enabled none none
    ∷ line (power 0) 1 Mark.Sent (packet 1) none
    ∷ line (power 0) 0 Mark.None none (packet 1)
    ∷ line three 2 Mark.Disabled none none
    ∷ line (power 2) 2 Mark.Enabled none none
    ∷ line (power 2) 1 Mark.Sent (packet 2) none
    ∷ line (power 2) 0 Mark.None none (packet 2)
    ∷ line five 0 Mark.Old (packet 1) none
    ∷ []
unfolding ticking
restarted_history = refl

-- ---- timed 1 with a gap of 2: the timer is the first send's, and goes alone though the sender may send

timed-history : history (ticks 9) (built_with (power 0) None hundred (power 0) (Timed 1 (power 1)))
    ≡ line (power 0) 2 Mark.Enabled none none
    ∷ line (power 0) 1 Mark.Sent (packet 1) none
    ∷ line (power 0) 0 Mark.None none (packet 1)
    ∷ line (power 1) 0 Mark.Counted (packet 1) none
    ∷ line (power 1) 1 Mark.Sent (packet 2) none
    ∷ line (power 1) 0 Mark.None none (packet 2)
    ∷ line three 0 Mark.Counted (packet 2) none
    ∷ line three 1 Mark.Timer none none
    ∷ line three 1 Mark.Sent (packet 3) none
    ∷ []
unfolding ticking
timed-history = refl

-- ---- delay 0, no limit, held 1: a packet that starts in one tick of the link leaves in the next

nearby-history : history (ticks 4) (built zero_f None 1)
    ≡ line (power 0) 2 Mark.Enabled none none
    ∷ line (power 0) 1 Mark.Sent (packet 1) none
    ∷ line (power 0) 0 Mark.None none (packet 1)
    ∷ line (power 0) 0 Mark.Counted (packet 1) none
    ∷ []
unfolding ticking
nearby-history = refl

-- ---- two senders with packets of 8 and of 4 bits, delay 2, limit 16, held 2: admission, starts and the waiting bits go by each packet's own

abbrev pub two_sizes : Simulation
two_sizes = built_of (8 ∷ 4 ∷ replicate 14 0) 2 (power 1) (Some 16) hundred (power 0) (Held 2)

sizes-history : history (ticks 9) two_sizes
    ≡ line (power 0) 2 Mark.Enabled none none
    ∷ line (power 0) 1 Mark.Sent (packet 1) none
    ∷ line (power 0) 0 Mark.None none (packet 1)
    ∷ line (power 0) 1 Mark.Sent (packet 2) none
    ∷ line (power 0) 4 Mark.Enabled none none
    ∷ line (power 0) 3 Mark.Sent (Some (1, 1)) none
    ∷ line (power 0) 3 Mark.Sent (Some (1, 2)) none
    ∷ line (power 1) 0 Mark.None none (packet 2)
    ∷ line three 0 Mark.Counted (packet 1) (Some (1, 1))
    ∷ []
unfolding ticking
sizes-history = refl

-- 16 bits wait before 0:2 starts, and 8 after it
sizes_tally : (line_at (after (ticks 8) two_sizes) 0).buffer_contains ≡ amount_of 8
unfolding ticking
sizes_tally = refl

-- 1:1, counted at 5, brings 4 bits
sizes-meter : (meter_at (after (ticks 15) two_sizes) 1).total ≡ amount_of 4
unfolding ticking
sizes-meter = refl

-- ---- a NaN queued at the next part's own place, here the toggler's, is refused with 9

unfit-next-place : (tick_of (with_queued worked 2 (Some (time_of nan)))).number ≡ 9
unfolding ticking
unfit-next-place = refl
