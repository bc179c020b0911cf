-- Document 02, K1: two senders whose packets have 8 and 4 bits, as one list of claims. What twelve ticks give, their account, and what different sizes alone show that the account
-- and the fit test refuse.
use Rattle.std.specs.Prelude.{◌≡◌, true, false, List, [], ◌∷◌, map, ℕ, ◌<◌, pos, negsuc, get_or, set, replicate, Float, Some, None}
use Rattle.std.specs.Float.{fin}
use Rattle.quantities.specs.Doubles.{zero_f, power}
use Rattle.quantities.specs.Units.{span_of, time_of, amount_of}
use Rattle.draws.specs.declared.generator.Rng.{Rng}
use Rattle.draws.specs.Generator.{from_words}
use Rattle.draws.specs.declared.distribution.ContinuousDistribution.TheVariants.{Always}
use Rattle.meters.specs.declared.meter.AverageFlowMeter.{AverageFlowMeter}
use Rattle.meters.specs.Meter.{new_meter}
use Rattle.link.specs.declared.packet.Waiting.{Waiting}
use Rattle.link.specs.Link.{receive_of}
use Rattle.sender.specs.declared.lossy.Policy.TheVariants.{Held}
use Rattle.sender.specs.declared.lossy.SenderState.TheVariants as State
use Rattle.sender.specs.declared.lossy.LossySender.{LossySender}
use Rattle.toggler.specs.declared.toggler.Toggler.{Toggler}
use Rattle.toggler.specs.Queue.{no_queued}
use Rattle.remy.specs.declared.network.RemyNetwork.{RemyNetwork}
use Rattle.remy.specs.declared.simulation.Mark.TheVariants as Mark
use Rattle.remy.specs.declared.simulation.Simulation.{Simulation}
use Rattle.remy.specs.declared.simulation.TickRecord.{TickRecord}
use Rattle.remy.specs.Network.{network_stop}
use Rattle.remy.specs.State.{line_at, waiting_items, with_waiting, with_meter}
use Rattle.remy.specs.Build.{new_line, new_sender, blank_words, blank_waiting, blank_transit, blank_toggler, build_of}
use Rattle.remy.specs.Fit.{fit}
use Rattle.remy.specs.History.{ticks, after, history, Fresh}
use Rattle.remy.specs.Account.{Account}
use Rattle.points.specs.Ranges.{values_from}
use Rattle.points.specs.Worked.{Told, told_of, told_line, packet, none}
use Rattle.points.specs.Unfit.{three, toggle_time, packet_of, transit_of, own_words, toggle_words, line_of, with_network, line_with, free_at, waiting_bits, meter_bits, Unfit, Fit, carried as carriedTest}
use Rattle.points.specs.Refuted.{Case, spacing, bits, carried, Refuted, note_at}

-- ---- the worked example with two sizes

-- delay 1, rate 8, loss 0, limit 16, bits 8 and 4, two senders, on always 100, off always 1, held 2
abbrev pub two_sizes : RemyNetwork
two_sizes =
    record {
      line = values_from (power 0) (power 3) zero_f (Some 16);
      back = None;
      bits = 8 ∷ 4 ∷ replicate 14 0;
      senders = 2;
      on = Always (fin false 25 (pos 2));
      off = Always (power 0);
      policy = Held 2;
    }

abbrev pub mixed : Simulation
mixed = (build_of two_sizes 1).simulation

-- 2.5
abbrev pub half_past_two : Float
half_past_two = fin false 5 (negsuc 0)

-- The first nine records: both senders are switched on, 0:1 starts at 1 and is counted at 2, when 0:2 starts; 1:1, 1:2 and 0:3 wait.
abbrev pub nine : List TickRecord → List TickRecord
nine rest =
    note_at (power 0) 2 Mark.Enabled none none
    ∷ note_at (power 0) 1 Mark.Sent (packet 0 1) none
    ∷ note_at (power 0) 0 Mark.None none (packet 0 1)
    ∷ note_at (power 0) 1 Mark.Sent (packet 0 2) none
    ∷ note_at (power 0) 4 Mark.Enabled none none
    ∷ note_at (power 0) 3 Mark.Sent (packet 1 1) none
    ∷ note_at (power 0) 3 Mark.Sent (packet 1 2) none
    ∷ note_at (power 1) 0 Mark.Counted (packet 0 1) (packet 0 2)
    ∷ note_at (power 1) 1 Mark.Sent (packet 0 3) none
    ∷ rest

-- and eleven: 0:2 is counted at 3, when 1:1 starts; 0:4 is dropped full, since 12 bits wait at a limit of 16
abbrev pub eleven : List TickRecord
eleven = nine (note_at three 0 Mark.Counted (packet 0 2) (packet 1 1) ∷ note_at three 1 Mark.Full (packet 0 4) none ∷ [])

-- a sender that is on since 1, with its count, greatest ack and generator, and window 2; a toggler that is on until 101
abbrev pub on_with : ℕ → ℕ → Rng → LossySender
on_with sent ack words =
    record { packets_sent = sent; state = State.Enabled (record { started = time_of (power 0); greatest_ack = ack; cwnd = 2; timer = None }); rng = words }

abbrev pub until101 : Rng → Toggler
until101 words = record { enabled = true; next_toggle = time_of toggle_time; rng = words }

-- a meter that is on since 1
abbrev pub metered_since1 : ℕ → ℕ → Float → AverageFlowMeter
metered_since1 counted records sum =
    record { total_time = span_of zero_f; current_start = Some (time_of (power 0)); total = amount_of counted; records = records; rtt_sum = span_of sum }

-- a packet of sender i that waits, with the bits that it carries
abbrev pub waits_with : ℕ → ℕ → Float → ℕ → Waiting
waits_with i m sent size = record { packet = packet_of i m sent; bits = amount_of size }

-- the state then: clock 3.5, the link next; 1:2 of 4 bits and 0:3 of 8 bits wait, 1:1 is on the line
unfoldable pub eleventh : Simulation
eleventh =
    record {
      network = two_sizes;
      head = record { clock = time_of (fin false 7 (negsuc 0)); next = Some 0 };
      lines =
          line_of (fin false 7 (negsuc 0)) 12 3 2 2 1 (from_words 17320858190345277832 17485486823304369229 4880033550728840059 7829798214420298896)
          ∷ new_line blank_words
          ∷ [];
      waiting =
          waits_with 0 1 (power 0) 8
          ∷ waits_with 0 2 (power 0) 8
          ∷ waits_with 1 1 (power 0) 4
          ∷ waits_with 1 2 (power 0) 4
          ∷ waits_with 0 3 (power 1) 8
          ∷ replicate 1019 blank_waiting;
      on_line =
          transit_of (packet_of 0 1 (power 0)) (power 1)
          ∷ transit_of (packet_of 0 2 (power 0)) three
          ∷ transit_of (packet_of 1 1 (power 0)) (power 2)
          ∷ replicate 1021 blank_transit;
      senders =
          on_with 4 2 own_words
          ∷ on_with 2 0 (from_words 1336129645694042326 7278725533440954441 1650926874576718010 2884092293074692283)
          ∷ replicate 14 (new_sender blank_words);
      togglers =
          until101 toggle_words
          ∷ until101 (from_words 10277292511068429730 8723528388573605619 17670016435951889822 11847526622624223050)
          ∷ replicate 14 blank_toggler;
      meters = metered_since1 16 2 three ∷ metered_since1 0 0 zero_f ∷ replicate 14 new_meter;
      queue =
          no_queued
          ∷ no_queued
          ∷ record { time = Some (time_of toggle_time) }
          ∷ no_queued
          ∷ record { time = Some (time_of toggle_time) }
          ∷ replicate 30 no_queued;
    }

-- ---- one thing changed

abbrev pub tallied_as : Simulation → ℕ → Simulation
tallied_as s x = line_with s 0 (free_at s 0) x 3 2 2 1

-- 1:2, the first that waits, carries so many bits
abbrev pub carries_bits : Simulation → ℕ → Simulation
carries_bits s x = with_waiting s (set s.waiting 3 (waits_with 1 2 (power 0) x))

-- the meter of sender 0 has so many bits
abbrev pub meters_bits : Simulation → ℕ → Simulation
meters_bits s x = with_meter s 0 (metered_since1 x 2 three)

abbrev pub sizes_case : List TickRecord → Simulation → Case
sizes_case h s = record { network = two_sizes; past = h; last = s }

-- 1:1 starts at 2.5: half a second after 0:2, the time that its own 4 bits take, where those of 0:2 take a second
abbrev pub spaced_by_the_later : Case
spaced_by_the_later =
    sizes_case (nine (note_at half_past_two 0 Mark.None none (packet 1 1) ∷ note_at three 0 Mark.Counted (packet 0 2) none ∷ note_at three 1 Mark.Full (packet 0 4) none ∷ [])) eleventh

-- two packets wait, and the waiting bits are twice 8, or twice 4
abbrev pub count_times : ℕ → Case
count_times x = sizes_case eleven (tallied_as eleventh x)

-- 1:2 carries the bits of the other sender, and the waiting bits are the sum
abbrev pub carries_the_others : Case
carries_the_others = sizes_case eleven (tallied_as (carries_bits eleventh 8) 16)

-- ---- what is told of twelve ticks

abbrev pub twelve : List Told
twelve =
    told_line 0x3ff0000000000000 2 Mark.Enabled none none
    ∷ told_line 0x3ff0000000000000 1 Mark.Sent (packet 0 1) none
    ∷ told_line 0x3ff0000000000000 0 Mark.None none (packet 0 1)
    ∷ told_line 0x3ff0000000000000 1 Mark.Sent (packet 0 2) none
    ∷ told_line 0x3ff0000000000000 4 Mark.Enabled none none
    ∷ told_line 0x3ff0000000000000 3 Mark.Sent (packet 1 1) none
    ∷ told_line 0x3ff0000000000000 3 Mark.Sent (packet 1 2) none
    ∷ told_line 0x4000000000000000 0 Mark.Counted (packet 0 1) (packet 0 2)
    ∷ told_line 0x4000000000000000 1 Mark.Sent (packet 0 3) none
    ∷ told_line 0x4008000000000000 0 Mark.Counted (packet 0 2) (packet 1 1)
    ∷ told_line 0x4008000000000000 1 Mark.Full (packet 0 4) none
    ∷ told_line 0x400c000000000000 0 Mark.None none (packet 1 2)
    ∷ []

-- ---- bits that nobody reads

abbrev pub with_bits_of : RemyNetwork → List ℕ → RemyNetwork
with_bits_of n x = record { line = n.line; back = n.back; bits = x; senders = n.senders; on = n.on; off = n.off; policy = n.policy }

-- the same bits for each of the network's senders, and any from there on
abbrev pub SameBits : RemyNetwork → List ℕ → Type 0
SameBits n x = (i : ℕ) → i < n.senders → get_or x i 0 ≡ get_or n.bits i 0

-- ---- the claims

abbrev pub sizes : List (Type 0)
sizes =
    ((build_of two_sizes 1).number ≡ 0)
    -- Twelve ticks: starts are a second apart after a packet of 8 bits, and half a second after one of 4.
    ∷ (told_of 12 mixed ≡ twelve)
    -- Where a packet of 8 bits is dropped full, one of 4 bits is admitted.
    ∷ ((receive_of (Some 16) (line_at eleventh 0) (amount_of 8)).admitted ≡ false)
    ∷ ((receive_of (Some 16) (line_at eleventh 0) (amount_of 4)).admitted ≡ true)
    -- The waiting bits are the sum of what the waiting packets carry, and each carries its sender's.
    ∷ (map (λ x. x.bits.0) (waiting_items eleventh 0) ≡ 4 ∷ 8 ∷ [])
    ∷ ((line_at eleventh 0).buffer_contains.0 ≡ 12)
    -- The build is fresh, so there is an account of its ticks.
    ∷ Fresh two_sizes mixed
    ∷ (history (ticks 11) mixed ≡ eleven)
    ∷ (after (ticks 11) mixed ≡ eleventh)
    ∷ Account two_sizes eleven eleventh
    -- Spacing by the later one's bits, waiting bits as count times one size, and another's bits carried: one clause is broken and all others hold.
    ∷ Refuted (spacing 0 ∷ []) spaced_by_the_later
    ∷ Refuted (bits 0 ∷ []) (count_times 16)
    ∷ Refuted (bits 0 ∷ []) (count_times 8)
    ∷ Refuted (carried 0 ∷ []) carries_the_others
    -- Such states are unfit, by one test each; and meter bits of another's size.
    ∷ Fit eleventh
    ∷ Unfit (waiting_bits ∷ []) (tallied_as eleventh 16)
    ∷ Unfit (waiting_bits ∷ []) (tallied_as eleventh 8)
    ∷ Unfit (carriedTest ∷ []) (tallied_as (carries_bits eleventh 8) 16)
    ∷ Fit (meters_bits eleventh 16)
    ∷ Unfit (meter_bits ∷ []) (meters_bits eleventh 8)
    -- No stop and no clause reads the bits of places from the number of senders on, and these twelve ticks do not.
    ∷ ((n : RemyNetwork) (x : List ℕ) → SameBits n x → network_stop (with_bits_of n x) ≡ network_stop n)
    ∷ ((s : Simulation) (x : List ℕ) → SameBits s.network x → fit (with_network s (with_bits_of s.network x)) ≡ fit s)
    ∷ (told_of 12 (build_of (with_bits_of two_sizes (8 ∷ 4 ∷ replicate 14 16777217)) 1).simulation ≡ twelve)
    ∷ []
