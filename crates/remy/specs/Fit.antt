-- Document 01, the paragraph "Unfit" below "Stops": a clause each, in the paragraph's order, then document 02's, and their conjunction. Definitions only.
-- Each definition says what a fit state has; a state in which one is false is unfit (9). Only the network's own lines, senders, togglers and meters are read.
use Rattle.std.specs.Prelude.{ℕ, zero, suc, ◌+◌, ◌*◌, Bool, true, false, not, ◌&&◌, ◌||◌, cond, List, [], ◌∷◌, leb, ltb, eqb, Option, Some, None}
use Rattle.std.specs.Bool.{beq}
use Rattle.std.specs.Float.Ieee.{le, eq}
use Rattle.quantities.specs.declared.time.Time.{Time}
use Rattle.quantities.specs.Doubles.{zero_f, power, largest, in_range}
use Rattle.draws.specs.Generator.{all_zero}
use Rattle.meters.specs.Meter.{is_on, total_fit, sum_fit}
use Rattle.link.specs.declared.packet.Packet.{Packet}
use Rattle.link.specs.declared.packet.Waiting.{Waiting}
use Rattle.link.specs.declared.packet.Transit.{Transit}
use Rattle.sender.specs.declared.lossy.Policy.{Policy}
use Rattle.sender.specs.declared.lossy.Policy.TheVariants.{Held, Grown, Timed}
use Rattle.sender.specs.declared.lossy.SenderState.{SenderState}
use Rattle.sender.specs.declared.lossy.SenderState.TheVariants as State
use Rattle.link.specs.Ring.{places}
use Rattle.toggler.specs.Queue.{queue_places}
use Rattle.remy.specs.declared.simulation.Simulation.{Simulation}
use Rattle.remy.specs.Network.{up_to, between, window_fit, network_stop}
use Rattle.remy.specs.State.{line_count, line_at, sender_at, toggler_at, meter_at, queued_at, waiting_items, waiting_packets, on_line_items, on_line_packets, sender_bits, packet_bits, total_bits}
use Rattle.remy.specs.Queue.{next_time_of}

-- ---- tests of every member, of every sender and of every line

abbrev pub every : {A : Type 0} → (A → Bool) → List A → Bool
every f [] = true
every f (x ∷ xs) = f x && every f xs

abbrev pub each_sender : Simulation → (ℕ → Bool) → Bool
each_sender s f = up_to s.network.senders f

abbrev pub each_line : Simulation → (ℕ → Bool) → Bool
each_line s f = up_to (line_count s.network) f

-- ---- the clauses

-- network outside 1 to 7, or a return line that 20 refuses
unfoldable pub network_fit : Simulation → Bool
network_fit s = eqb (network_stop s.network) 0

-- a count of waiting or on-line packets above 512 or a queue start above 511
unfoldable pub rings_fit : Simulation → Bool
rings_fit s =
    each_line s
    (λ l.
    leb (line_at s l).waiting.count places
    && leb (line_at s l).on_line.count places
    && ltb (line_at s l).waiting.start places
    && ltb (line_at s l).on_line.start places)

-- a packet naming no sender or with a sequence outside 1..sent
abbrev pub packet_fit : Simulation → Packet → Bool
packet_fit s p = ltb p.sender s.network.senders && between 1 (sender_at s p.sender).packets_sent p.seq

unfoldable pub packets_fit : Simulation → Bool
packets_fit s = each_line s (λ l. every (packet_fit s) (waiting_packets s l) && every (packet_fit s) (on_line_packets s l))

-- waiting bits other than the waiting packets' bits: the sum of what each carries
unfoldable pub bits_fit : Simulation → Bool
bits_fit s = each_line s (λ l. eqb (line_at s l).buffer_contains.0 (total_bits (waiting_items s l)))

-- a clock below 0
unfoldable pub clock_fit : Simulation → Bool
clock_fit s = le zero_f s.head.clock.0.0

-- A held time (not a meter's sums) NaN, above 2^41, or queued below the clock. Held times: the clock, the earliest start, packets' sent and due times,
-- senders' started and timers, toggles, meters' starts, and queued times. An idle state's clock MAX is exempt.
abbrev pub held : Time → Bool
held t = le t.0.0 (power 41)

abbrev pub held_if_any : Option Time → Bool
held_if_any None = true
held_if_any (Some t) = held t

abbrev pub is_idle : Option ℕ → Bool
is_idle None = true
is_idle (Some k) = false

abbrev pub held_sender : SenderState → Bool
held_sender State.WaitingForEnable = true
held_sender (State.Enabled e) = held e.started && held_if_any e.timer

abbrev pub held_queued : Simulation → Option Time → Bool
held_queued s None = true
held_queued s (Some t) = held t && le s.head.clock.0.0 t.0.0

unfoldable pub held_times_fit : Simulation → Bool
held_times_fit s =
    (held s.head.clock || (is_idle s.head.next && eq s.head.clock.0.0 largest))
    && each_line s (λ l. held (line_at s l).earliest_transmit)
    && each_line s (λ l. every (λ p. held p.sent_time) (waiting_packets s l))
    && each_line s (λ l. every (λ p. held p.sent_time) (on_line_packets s l))
    && each_line s (λ l. every (λ x. held x.due) (on_line_items s l))
    && each_sender s (λ i. held_sender (sender_at s i).state)
    && each_sender s (λ i. held (toggler_at s i).next_toggle)
    && each_sender s (λ i. held_if_any (meter_at s i).current_start)
    && up_to queue_places (λ k. held_queued s (queued_at s k))

-- a packet's sent time, a sender's started or a meter's start outside 0..clock
abbrev pub since_start : Simulation → Time → Bool
since_start s t = in_range zero_f s.head.clock.0.0 t.0.0

abbrev pub started_fit : Simulation → SenderState → Bool
started_fit s State.WaitingForEnable = true
started_fit s (State.Enabled e) = since_start s e.started

abbrev pub meter_start_fit : Simulation → Option Time → Bool
meter_start_fit s None = true
meter_start_fit s (Some t) = since_start s t

unfoldable pub past_fit : Simulation → Bool
past_fit s =
    each_line s (λ l. every (λ p. since_start s p.sent_time) (waiting_packets s l))
    && each_line s (λ l. every (λ p. since_start s p.sent_time) (on_line_packets s l))
    && each_sender s (λ i. started_fit s (sender_at s i).state)
    && each_sender s (λ i. meter_start_fit s (meter_at s i).current_start)

-- a total enabled time negative or not finite
unfoldable pub totals_fit : Simulation → Bool
totals_fit s = each_sender s (λ i. total_fit (meter_at s i).total_time)

-- an RTT sum outside 0..records times 2^41
unfoldable pub sums_fit : Simulation → Bool
sums_fit s = each_sender s (λ i. sum_fit (meter_at s i).records (meter_at s i).rtt_sum)

-- meter records above sent less the sender's packets waiting and on the line, of every line
abbrev pub count_of : ℕ → List Packet → ℕ
count_of i [] = 0
count_of i (p ∷ ps) = cond (eqb p.sender i) 1 0 + count_of i ps

-- the sum of a number over the lines below l
abbrev pub sum_to : ℕ → (ℕ → ℕ) → ℕ
sum_to zero f = 0
sum_to (suc l) f = sum_to l f + f l

abbrev pub under_way : Simulation → ℕ → ℕ → ℕ
under_way s i l = count_of i (waiting_packets s l) + count_of i (on_line_packets s l)

unfoldable pub records_fit : Simulation → Bool
records_fit s = each_sender s (λ i. leb ((meter_at s i).records + sum_to (line_count s.network) (under_way s i)) (sender_at s i).packets_sent)

-- on-line due times that fall
abbrev pub rising : List Transit → Bool
rising [] = true
rising (x ∷ []) = true
rising (x ∷ (y ∷ ys)) = le x.due.0.0 y.due.0.0 && rising (y ∷ ys)

unfoldable pub due_fit : Simulation → Bool
due_fit s = each_line s (λ l. rising (on_line_items s l))

-- sent or greatest ack above 2^24
abbrev pub ack_fit : SenderState → Bool
ack_fit State.WaitingForEnable = true
ack_fit (State.Enabled e) = leb e.greatest_ack 16777216

unfoldable pub counts_fit : Simulation → Bool
counts_fit s = each_sender s (λ i. leb (sender_at s i).packets_sent 16777216 && ack_fit (sender_at s i).state)

-- a window outside 1..64
abbrev pub held_window_fit : SenderState → Bool
held_window_fit State.WaitingForEnable = true
held_window_fit (State.Enabled e) = window_fit e.cwnd

unfoldable pub windows_fit : Simulation → Bool
windows_fit s = each_sender s (λ i. held_window_fit (sender_at s i).state)

-- a timer held while off or not timed: the type of an off sender holds none
abbrev pub is_timed : Policy → Bool
is_timed (Held w) = false
is_timed (Grown first most) = false
is_timed (Timed most gap) = true

abbrev pub timer_fit : Policy → SenderState → Bool
timer_fit policy State.WaitingForEnable = true
timer_fit policy (State.Enabled e) = not (is_on e.timer) || is_timed policy

unfoldable pub timers_fit : Simulation → Bool
timers_fit s = each_sender s (λ i. timer_fit s.network.policy (sender_at s i).state)

-- toggler and sender disagreeing on on/off
abbrev pub sender_on : SenderState → Bool
sender_on State.WaitingForEnable = false
sender_on (State.Enabled e) = true

unfoldable pub togglers_agree : Simulation → Bool
togglers_agree s = each_sender s (λ i. beq (toggler_at s i).enabled (sender_on (sender_at s i).state))

-- sender and its meter disagreeing on on/off
unfoldable pub meters_agree : Simulation → Bool
meters_agree s = each_sender s (λ i. beq (sender_on (sender_at s i).state) (is_on (meter_at s i).current_start))

-- meter bits other than its records times the packet bits, its sender's own (document 02, K1)
unfoldable pub meter_bits_fit : Simulation → Bool
meter_bits_fit s = each_sender s (λ i. eqb (meter_at s i).total.0 ((meter_at s i).records * (sender_bits s.network i).0))

-- a next component whose own next time isn't the clock, none though a part is queued,
abbrev pub same_time : Option Time → Option Time → Bool
same_time None None = true
same_time None (Some u) = false
same_time (Some t) None = false
same_time (Some t) (Some u) = eq t.0.0 u.0.0

abbrev pub next_fit : Simulation → Option ℕ → Bool
next_fit s None = up_to queue_places (λ k. not (is_on (queued_at s k)))
next_fit s (Some j) = same_time (Some s.head.clock) (next_time_of s j)

-- the place of the next part itself is read by no test of this clause
abbrev pub is_next : Option ℕ → ℕ → Bool
is_next None k = false
is_next (Some j) k = eqb j k

-- or another part whose queued time isn't its own next time (queued with none, or not queued with one, included)
unfoldable pub queue_fit : Simulation → Bool
queue_fit s = next_fit s s.head.next && up_to queue_places (λ k. is_next s.head.next k || same_time (queued_at s k) (next_time_of s k))

-- document 02, K1: a waiting packet that carries other bits than its sender's
abbrev pub carries : Simulation → Waiting → Bool
carries s x = eqb x.bits.0 (packet_bits s.network x.packet).0

unfoldable pub carried_fit : Simulation → Bool
carried_fit s = each_line s (λ l. every (carries s) (waiting_items s l))

-- document 02, K5: four zero words, in the generator of a link, of a sender or of a toggler
unfoldable pub words_fit : Simulation → Bool
words_fit s =
    each_line s (λ l. not (all_zero (line_at s l).rng))
    && each_sender s (λ i. not (all_zero (sender_at s i).rng))
    && each_sender s (λ i. not (all_zero (toggler_at s i).rng))

-- ---- their conjunction

unfoldable pub fit : Simulation → Bool
fit s =
    network_fit s
    && rings_fit s
    && packets_fit s
    && bits_fit s
    && clock_fit s
    && held_times_fit s
    && past_fit s
    && totals_fit s
    && sums_fit s
    && records_fit s
    && due_fit s
    && counts_fit s
    && windows_fit s
    && timers_fit s
    && togglers_agree s
    && meters_agree s
    && meter_bits_fit s
    && queue_fit s
    && carried_fit s
    && words_fit s
