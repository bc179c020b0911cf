-- Document 01, the paragraph "Unfit" below "Stops", and document 02's clauses: for each clause, and for each test inside it, states that it refuses and no other does, as one list of claims.
-- Each state is one of the worked example's, one of a network with a return line, or the empty simulation, with a field changed; beside it stand the nearest states that are fit.
use Rattle.std.specs.Prelude.{◌≡◌, Bool, true, false, not, ◌&&◌, ◌||◌, cond, List, [], ◌∷◌, ◌++◌, map, ℕ, ◌*◌, ◌<◌, pos, negsuc, get_or, set, take, replicate, leb, ltb, eqb, Float, Option, Some, None}
use Rattle.std.specs.Float.{nan, inf, fin}
use Rattle.std.specs.Float.Ieee.{eq}
use Rattle.quantities.specs.declared.time.Time.{Time}
use Rattle.quantities.specs.Doubles.{zero_f, power, largest}
use Rattle.quantities.specs.Units.{span_of, time_of, amount_of}
use Rattle.draws.specs.declared.distribution.ContinuousDistribution.TheVariants.{Always}
use Rattle.draws.specs.declared.generator.Rng.{Rng}
use Rattle.draws.specs.Generator.{all_zero, from_words}
use Rattle.meters.specs.Meter.{new_meter}
use Rattle.link.specs.declared.packet.Packet.{Packet}
use Rattle.link.specs.declared.packet.Waiting.{Waiting}
use Rattle.link.specs.declared.packet.Transit.{Transit}
use Rattle.sender.specs.declared.lossy.Policy.TheVariants.{Held, Timed}
use Rattle.sender.specs.declared.lossy.Enabled.{Enabled}
use Rattle.sender.specs.declared.lossy.SenderState.{SenderState}
use Rattle.sender.specs.declared.lossy.SenderState.TheVariants as State
use Rattle.sender.specs.declared.lossy.LossySender.{LossySender}
use Rattle.toggler.specs.declared.toggler.Toggler.{Toggler}
use Rattle.link.specs.declared.link.Line.{Line}
use Rattle.link.specs.Ring.{places, slot_of}
use Rattle.toggler.specs.Queue.{queue_places, no_queued}
use Rattle.remy.specs.declared.network.RemyNetwork.{RemyNetwork}
use Rattle.remy.specs.declared.simulation.Simulation.{Simulation}
use Rattle.remy.specs.State.{line_count, link, no_waiting, no_transit, no_line, no_sender, no_toggler, no_meter, line_at, sender_at, toggler_at, meter_at, queued_at, waiting_packets, on_line_items, on_line_packets, with_head, with_lines, with_line, with_waiting, with_on_line, with_sender, with_toggler, with_meter, with_queued}
use Rattle.remy.specs.Queue.{next_time_of, part_of}
use Rattle.remy.specs.Build.{new_line, new_sender, blank_words, blank_waiting, blank_transit, blank_toggler, empty_simulation, build_of}
use Rattle.remy.specs.Tick.{unmoved, tick_of}
use Rattle.remy.specs.Run.{run_of}
use Rattle.remy.specs.Network.{up_to}
use Rattle.remy.specs.Fit.{every, each_sender, each_line, network_fit, packet_fit, bits_fit, clock_fit, held, held_if_any, is_idle, held_sender, held_queued, is_next, since_start, started_fit, meter_start_fit, totals_fit, sums_fit, records_fit, due_fit, counts_fit, windows_fit, timers_fit, togglers_agree, meters_agree, meter_bits_fit, same_time, next_fit, carried_fit, fit}
use Rattle.steady.specs.Steady.{steady}
use Rattle.points.specs.Ranges.{double, values_from, network_from, returned, with_back, minus_zero, below_zero, below_one, above_one, tiny, good, bits_all, always, with_delay, with_rate, with_loss, with_limit, with_bits, with_sizes, with_sender_count, with_on, with_policy}
use Rattle.points.specs.Worked.{worked, worked_after}

-- ---- four states: the worked example built and after seven ticks, one of a network with a return line, and the empty simulation

-- the double above 2^41, 3, 6, an odd number, and 101
abbrev pub above_held : Float
above_held = fin false 4503599627370497 (negsuc 10)

abbrev pub three : Float
three = fin false 3 (pos 0)

abbrev pub six : Float
six = fin false 3 (pos 1)

abbrev pub odd : ℕ → Float
odd n = fin false n (pos 0)

abbrev pub toggle_time : Float
toggle_time = fin false 101 (pos 0)

abbrev pub packet_of : ℕ → ℕ → Float → Packet
packet_of sender seq sent = record { sender = sender; seq = seq; sent_time = time_of sent }

-- a packet that waits, of 8 bits
abbrev pub waits_of : Packet → Waiting
waits_of p = record { packet = p; bits = amount_of 8 }

abbrev pub transit_of : Packet → Float → Transit
transit_of p due = record { packet = p; due = time_of due }

-- the slots of 0:1, 0:2 and 0:3, sent at 1
abbrev pub first_three : List Waiting
first_three = waits_of (packet_of 0 1 (power 0)) ∷ waits_of (packet_of 0 2 (power 0)) ∷ waits_of (packet_of 0 3 (power 0)) ∷ []

-- the generators of seed 1: the link's after one sample, the sender's and the toggler's
abbrev pub link_sampled : Rng
link_sampled = from_words 14956314531195876544 7576440072486442806 6053824538967488443 6254198100547973758

abbrev pub own_words : Rng
own_words = from_words 3406718355780431780 10892412867582108485 18204613561675945223 9655336933892813345

abbrev pub toggle_words : Rng
toggle_words = from_words 1781989159761824720 2477283028068920342 16978024111547606601 6336475467619303347

-- the 16 senders, of which the first is on since 1 with 0:1 counted, has sent so many and has this window; the 16 togglers, of which the first is on until 101
abbrev pub on_since1 : ℕ → ℕ → List LossySender
on_since1 sent window =
    record { packets_sent = sent; state = State.Enabled (record { started = time_of (power 0); greatest_ack = 1; cwnd = window; timer = None }); rng = own_words }
    ∷ replicate 15 (new_sender blank_words)

abbrev pub on_until101 : List Toggler
on_until101 = record { enabled = true; next_toggle = time_of toggle_time; rng = toggle_words } ∷ replicate 15 blank_toggler

-- a line: earliest start, waiting bits, the start and the count of those that wait and of those on the line, the generator
abbrev pub line_of : Float → ℕ → ℕ → ℕ → ℕ → ℕ → Rng → Line
line_of free bits waitingFrom waiting onLineFrom on_line words =
    record {
      earliest_transmit = time_of free;
      buffer_contains = amount_of bits;
      waiting = record { start = waitingFrom; count = waiting };
      on_line = record { start = onLineFrom; count = on_line };
      rng = words;
    }

-- clock 3, the link next: 0:4 waits and may start at 3, 0:2 is on the line and due at 3; 0:1 is counted, and the sender is on until 101
unfoldable pub busy : Simulation
busy =
    record {
      network = worked;
      head = record { clock = time_of three; next = Some 0 };
      lines = line_of three 8 2 1 1 1 link_sampled ∷ new_line blank_words ∷ [];
      waiting = waits_of (packet_of 0 1 (power 0)) ∷ waits_of (packet_of 0 2 (power 0)) ∷ waits_of (packet_of 0 4 (power 1)) ∷ replicate 1021 blank_waiting;
      on_line = transit_of (packet_of 0 1 (power 0)) (power 1) ∷ transit_of (packet_of 0 2 (power 0)) three ∷ replicate 1022 blank_transit;
      senders = on_since1 4 3;
      togglers = on_until101;
      meters =
          record { total_time = span_of zero_f; current_start = Some (time_of (power 0)); total = amount_of 8; records = 1; rtt_sum = span_of (power 0) }
          ∷ replicate 15 new_meter;
      queue = no_queued ∷ no_queued ∷ record { time = Some (time_of toggle_time) } ∷ replicate 32 no_queued;
    }

-- clock 1, the toggler next
unfoldable pub quiet : Simulation
quiet =
    record {
      network = worked;
      head = record { clock = time_of (power 0); next = Some 2 };
      lines = new_line (from_words 14971601782005023387 13781649495232077965 1847458086238483744 13765271635752736470) ∷ new_line blank_words ∷ [];
      waiting = replicate 1024 blank_waiting;
      on_line = replicate 1024 blank_transit;
      senders = new_sender own_words ∷ replicate 15 (new_sender blank_words);
      togglers = record { enabled = false; next_toggle = time_of (power 0); rng = toggle_words } ∷ replicate 15 blank_toggler;
      meters = replicate 16 new_meter;
      queue = replicate queue_places no_queued;
    }

-- delay 1, rate 8, loss 0, no limit, and a return line with delay 2, rate 4, loss 0, limit 16; bits 8, one sender, on always 100, off always 1, held 3
abbrev pub there_and_back : RemyNetwork
there_and_back = returned (network_from (power 0) (power 3) zero_f None (bits_all 8) 1 worked.on always (Held 3)) (values_from (power 1) (power 2) zero_f (Some 16))

-- It after eleven ticks: clock 4, the first link next. 0:4 waits for the first line and may start at 4. 0:3 waits for the return line and may start at 6, when 0:2, which is
-- on it, is due; 0:1 is counted.
unfoldable pub returning : Simulation
returning =
    record {
      network = there_and_back;
      head = record { clock = time_of (power 2); next = Some 0 };
      lines =
          line_of (power 2) 8 3 1 3 0 (from_words 7953892005776783701 4715759149504841406 7558737548416537331 15932525744996764490)
          ∷ line_of six 8 2 1 1 1 (from_words 6885865512758065188 7016781552821245989 8142080738866415724 2242310618908246863)
          ∷ [];
      waiting = first_three ++ (waits_of (packet_of 0 4 (power 2)) ∷ replicate 508 blank_waiting) ++ first_three ++ replicate 509 blank_waiting;
      on_line =
          transit_of (packet_of 0 1 (power 0)) (power 1)
          ∷ transit_of (packet_of 0 2 (power 0)) three
          ∷ transit_of (packet_of 0 3 (power 0)) (power 2)
          ∷ replicate 509 blank_transit
          ++ (transit_of (packet_of 0 1 (power 0)) (power 2) ∷ transit_of (packet_of 0 2 (power 0)) six ∷ replicate 510 blank_transit);
      senders = on_since1 4 3;
      togglers = on_until101;
      meters =
          record { total_time = span_of zero_f; current_start = Some (time_of (power 0)); total = amount_of 8; records = 1; rtt_sum = span_of three }
          ∷ replicate 15 new_meter;
      queue =
          no_queued
          ∷ no_queued
          ∷ record { time = Some (time_of toggle_time) }
          ∷ no_queued
          ∷ record { time = Some (time_of six) }
          ∷ replicate 30 no_queued;
    }

-- no senders, idle, clock MAX
abbrev pub empty : Simulation
empty = empty_simulation

-- ---- one field anew

abbrev pub with_network : Simulation → RemyNetwork → Simulation
with_network s x =
    record {
      network = x;
      head = s.head;
      lines = s.lines;
      waiting = s.waiting;
      on_line = s.on_line;
      senders = s.senders;
      togglers = s.togglers;
      meters = s.meters;
      queue = s.queue;
    }

-- what is held for the lines, anew
abbrev pub with_held : Simulation → List Line → List Waiting → List Transit → Simulation
with_held s lines waiting on_line = with_lines (with_waiting (with_on_line s on_line) waiting) lines

abbrev pub with_clock : Simulation → Float → Simulation
with_clock s x = with_head s (record { clock = time_of x; next = s.head.next })

abbrev pub with_next : Simulation → Option ℕ → Simulation
with_next s x = with_head s (record { clock = s.head.clock; next = x })

abbrev pub queued_for : Simulation → ℕ → Float → Simulation
queued_for s k x = with_queued s k (Some (time_of x))

-- line l, its generator as it was
abbrev pub line_with : Simulation → ℕ → Float → ℕ → ℕ → ℕ → ℕ → ℕ → Simulation
line_with s l free bits waitingFrom waiting onLineFrom on_line = with_line s l (line_of free bits waitingFrom waiting onLineFrom on_line (line_at s l).rng)

-- the part of its link
abbrev pub link_part : Simulation → ℕ → ℕ
link_part s l = part_of s.network.senders (link l)

-- A line of which one packet of 8 bits waits, at place 2, and one is on it, at place 1: its earliest start,
abbrev pub free_at : Simulation → ℕ → Float
free_at s l = (line_at s l).earliest_transmit.0.0

abbrev pub with_start : Simulation → ℕ → Float → Simulation
with_start s l x = line_with s l x 8 2 1 1 1

-- its waiting bits,
abbrev pub with_waiting_bits : Simulation → ℕ → ℕ → Simulation
with_waiting_bits s l x = line_with s l (free_at s l) x 2 1 1 1

-- the packet that waits, which carries so many bits, as many as wait; and the one on the line
abbrev pub with_first : Simulation → ℕ → Packet → Simulation
with_first s l x = with_waiting s (set s.waiting (slot_of l 2) (waits_of x))

abbrev pub with_carried : Simulation → ℕ → ℕ → Simulation
with_carried s l x = with_waiting_bits (with_waiting s (set s.waiting (slot_of l 2) (record { packet = packet_of 0 4 (power 1); bits = amount_of x }))) l x

abbrev pub with_front : Simulation → ℕ → Transit → Simulation
with_front s l x = with_on_line s (set s.on_line (slot_of l 1) x)

-- sender 0, which is on
abbrev pub changed : (Enabled → Enabled) → SenderState → SenderState
changed f State.WaitingForEnable = State.WaitingForEnable
changed f (State.Enabled e) = State.Enabled (f e)

abbrev pub with_sender_state : Simulation → ℕ → SenderState → Simulation
with_sender_state s sent state = with_sender s 0 (record { packets_sent = sent; state = state; rng = (sender_at s 0).rng })

abbrev pub with_sent : Simulation → ℕ → Simulation
with_sent s x = with_sender_state s x (sender_at s 0).state

abbrev pub with_enabled : Simulation → (Enabled → Enabled) → Simulation
with_enabled s f = with_sender_state s (sender_at s 0).packets_sent (changed f (sender_at s 0).state)

abbrev pub with_started : Simulation → Float → Simulation
with_started s x = with_enabled s (λ e. record { started = time_of x; greatest_ack = e.greatest_ack; cwnd = e.cwnd; timer = e.timer })

abbrev pub with_ack : Simulation → ℕ → Simulation
with_ack s x = with_enabled s (λ e. record { started = e.started; greatest_ack = x; cwnd = e.cwnd; timer = e.timer })

abbrev pub with_window : Simulation → ℕ → Simulation
with_window s x = with_enabled s (λ e. record { started = e.started; greatest_ack = e.greatest_ack; cwnd = x; timer = e.timer })

abbrev pub with_timer : Simulation → Float → Simulation
with_timer s x = with_enabled s (λ e. record { started = e.started; greatest_ack = e.greatest_ack; cwnd = e.cwnd; timer = Some (time_of x) })

abbrev pub switched_off : Simulation → Simulation
switched_off s = with_sender_state s (sender_at s 0).packets_sent State.WaitingForEnable

-- toggler 0: on or off, and its next toggle
abbrev pub with_toggle : Simulation → Bool → Float → Simulation
with_toggle s on x = with_toggler s 0 (record { enabled = on; next_toggle = time_of x; rng = (toggler_at s 0).rng })

-- the generator of the link of line l, of sender i and of toggler i
abbrev pub with_link_words : Simulation → ℕ → Rng → Simulation
with_link_words s l g =
    with_line s l
    (record {
      earliest_transmit = (line_at s l).earliest_transmit;
      buffer_contains = (line_at s l).buffer_contains;
      waiting = (line_at s l).waiting;
      on_line = (line_at s l).on_line;
      rng = g;
    })

abbrev pub with_sender_words : Simulation → ℕ → Rng → Simulation
with_sender_words s i g = with_sender s i (record { packets_sent = (sender_at s i).packets_sent; state = (sender_at s i).state; rng = g })

abbrev pub with_toggler_words : Simulation → ℕ → Rng → Simulation
with_toggler_words s i g = with_toggler s i (record { enabled = (toggler_at s i).enabled; next_toggle = (toggler_at s i).next_toggle; rng = g })

-- these words as they are
abbrev pub words_only : ℕ → ℕ → ℕ → ℕ → Rng
words_only a b c d = record { s0 = a; s1 = b; s2 = c; s3 = d }

-- meter 0: total enabled time, start, bits, records, RTT sum
abbrev pub meter_with : Simulation → Float → Option Time → ℕ → ℕ → Float → Simulation
meter_with s total start bits records sum =
    with_meter s 0 (record { total_time = span_of total; current_start = start; total = amount_of bits; records = records; rtt_sum = span_of sum })

abbrev pub with_total : Simulation → Float → Simulation
with_total s x = meter_with s x (Some (time_of (power 0))) 8 1 (power 0)

abbrev pub with_meter_start : Simulation → Option Time → Simulation
with_meter_start s x = meter_with s zero_f x 8 1 (power 0)

abbrev pub with_meter_bits : Simulation → ℕ → Simulation
with_meter_bits s x = meter_with s zero_f (Some (time_of (power 0))) x 1 (power 0)

abbrev pub with_records : Simulation → ℕ → Simulation
with_records s x = meter_with s zero_f (Some (time_of (power 0))) (x * 8) x (power 0)

abbrev pub with_rtt_sum : Simulation → Float → Simulation
with_rtt_sum s x = meter_with s zero_f (Some (time_of (power 0))) 8 1 x

-- ---- more of them

-- so many wait for line l from this place on, each packet 0:1; so many are on it, due when it is free
abbrev pub waiters : Simulation → ℕ → ℕ → ℕ → Simulation
waiters s l start count = line_with (with_waiting (with_sent s 1000) (replicate 1024 (waits_of (packet_of 0 1 (power 0))))) l (free_at s l) (count * 8) start count 1 1

abbrev pub travellers : Simulation → ℕ → ℕ → ℕ → Simulation
travellers s l start count = line_with (with_on_line (with_sent s 1000) (replicate 1024 (transit_of (packet_of 0 1 (power 0)) (free_at s l)))) l (free_at s l) 8 2 1 start count

-- two on line l: due when it is free, then at this time
abbrev pub two_due : Simulation → ℕ → Float → Simulation
two_due s l x = line_with (with_on_line (with_sent s 5) (set s.on_line (slot_of l 2) (transit_of (packet_of 0 3 (power 0)) x))) l (free_at s l) 8 2 1 1 2

-- a sender that may send, so that its own next time is the clock
abbrev pub sending : Simulation → Simulation
sending s = queued_for s 1 three

-- the same with a timed policy, and a timer at this time, not before the clock
abbrev pub busy_timed : Simulation
busy_timed = with_network busy (with_policy (Timed 64 (power 0)))

abbrev pub sending_timed : Float → Simulation
sending_timed x = sending (with_timer (with_window busy_timed 4) x)

-- a sender that may not send, queued at its timer
abbrev pub waiting_for : Simulation → Float → Simulation
waiting_for s x = queued_for (with_timer s x) 1 x

-- a toggler queued at its next toggle
abbrev pub toggling : Float → Simulation
toggling x = queued_for (with_toggle busy true x) 2 x

-- two senders, of which the second is off until 101
abbrev pub two_senders : Simulation
two_senders = queued_for (with_toggler (with_network busy (with_sender_count 2)) 1 (record { enabled = false; next_toggle = time_of toggle_time; rng = blank_words })) 4 toggle_time

-- the link queued, so that another part may be next
abbrev pub link_queued : Simulation
link_queued = queued_for busy 0 three

-- ---- the tests, in the paragraph's order: a clause that has several inside has a name for each

pub data Test : Type 0 where
  network : Test
  waiting_count on_line_count waiting_start on_line_start : Test
  waiting_packet on_line_packet : Test
  waiting_bits clock : Test
  held_clock held_start held_waiting held_on_line held_due held_by_sender held_toggle held_by_meter held_queue : Test
  past_waiting past_on_line past_started past_meter : Test
  total rtt_sum_of records due counts window timer toggler meter meter_bits : Test
  next others carried : Test
  link_words sender_words toggler_words : Test

-- a test, and whether a state passes it
pub record Row : Type 0 where
  pub test : Test
  pub passes : Bool

abbrev pub row : Test → Bool → Row
row test passes = record { test = test; passes = passes }

abbrev pub rows : Simulation → List Row
rows s =
    row network (network_fit s)
    ∷ row waiting_count (each_line s (λ l. leb (line_at s l).waiting.count places))
    ∷ row on_line_count (each_line s (λ l. leb (line_at s l).on_line.count places))
    ∷ row waiting_start (each_line s (λ l. ltb (line_at s l).waiting.start places))
    ∷ row on_line_start (each_line s (λ l. ltb (line_at s l).on_line.start places))
    ∷ row waiting_packet (each_line s (λ l. every (packet_fit s) (waiting_packets s l)))
    ∷ row on_line_packet (each_line s (λ l. every (packet_fit s) (on_line_packets s l)))
    ∷ row waiting_bits (bits_fit s)
    ∷ row clock (clock_fit s)
    ∷ row held_clock (held s.head.clock || (is_idle s.head.next && eq s.head.clock.0.0 largest))
    ∷ row held_start (each_line s (λ l. held (line_at s l).earliest_transmit))
    ∷ row held_waiting (each_line s (λ l. every (λ p. held p.sent_time) (waiting_packets s l)))
    ∷ row held_on_line (each_line s (λ l. every (λ p. held p.sent_time) (on_line_packets s l)))
    ∷ row held_due (each_line s (λ l. every (λ x. held x.due) (on_line_items s l)))
    ∷ row held_by_sender (each_sender s (λ i. held_sender (sender_at s i).state))
    ∷ row held_toggle (each_sender s (λ i. held (toggler_at s i).next_toggle))
    ∷ row held_by_meter (each_sender s (λ i. held_if_any (meter_at s i).current_start))
    ∷ row held_queue (up_to queue_places (λ k. held_queued s (queued_at s k)))
    ∷ row past_waiting (each_line s (λ l. every (λ p. since_start s p.sent_time) (waiting_packets s l)))
    ∷ row past_on_line (each_line s (λ l. every (λ p. since_start s p.sent_time) (on_line_packets s l)))
    ∷ row past_started (each_sender s (λ i. started_fit s (sender_at s i).state))
    ∷ row past_meter (each_sender s (λ i. meter_start_fit s (meter_at s i).current_start))
    ∷ row total (totals_fit s)
    ∷ row rtt_sum_of (sums_fit s)
    ∷ row records (records_fit s)
    ∷ row due (due_fit s)
    ∷ row counts (counts_fit s)
    ∷ row window (windows_fit s)
    ∷ row timer (timers_fit s)
    ∷ row toggler (togglers_agree s)
    ∷ row meter (meters_agree s)
    ∷ row meter_bits (meter_bits_fit s)
    ∷ row next (next_fit s s.head.next)
    ∷ row others (up_to queue_places (λ k. is_next s.head.next k || same_time (queued_at s k) (next_time_of s k)))
    ∷ row carried (carried_fit s)
    ∷ row link_words (each_line s (λ l. not (all_zero (line_at s l).rng)))
    ∷ row sender_words (each_sender s (λ i. not (all_zero (sender_at s i).rng)))
    ∷ row toggler_words (each_sender s (λ i. not (all_zero (toggler_at s i).rng)))
    ∷ []

-- all of them; they are what `fit` tests
abbrev pub all_pass : Bool → List Row → Bool
all_pass so [] = so
all_pass so (r ∷ rs) = all_pass (so && r.passes) rs

-- those that a state does not pass
abbrev pub failed : List Row → List Test
failed [] = []
failed (r ∷ rs) = cond r.passes (failed rs) (r.test ∷ failed rs)

-- fit: no test fails
abbrev pub is_empty : List Test → Bool
is_empty [] = true
is_empty (x ∷ xs) = false

-- unfit by these tests and no others; fit
abbrev pub Unfit : List Test → Simulation → Type 0
Unfit tests s = (fit s ≡ false) × (failed (rows s) ≡ tests)

abbrev pub Fit : Simulation → Type 0
Fit s = fit s ≡ true

-- ---- what a line holds

-- a state, and the tests that it does not pass: none where it is fit
pub record Verdict : Type 0 where
  pub tests : List Test
  pub state : Simulation

abbrev pub fails : List Test → Simulation → Verdict
fails tests s = record { tests = tests; state = s }

abbrev pub fits : Simulation → Verdict
fits s = fails [] s

-- each of these fails its tests and no others
abbrev pub Sorted : List Verdict → Type 0
Sorted vs = map (λ v. failed (rows v.state)) vs ≡ map (λ v. v.tests) vs

-- Line l of a state, of which one packet waits, at place 2, and one is on it, at place 1, due when it is free. In the paragraph's order.
abbrev pub line_cases : Simulation → ℕ → List Verdict
line_cases s l =
    -- A count of waiting or on-line packets above 512
    fits (waiters s l 0 512)
    ∷ fails (waiting_count ∷ []) (waiters s l 0 513)
    ∷ fits (travellers s l 0 512)
    ∷ fails (on_line_count ∷ []) (travellers s l 0 513)
    -- or a queue start above 511.
    ∷ fits (waiters s l 511 2)
    ∷ fails (waiting_start ∷ []) (waiters s l 512 2)
    ∷ fits (travellers s l 511 2)
    ∷ fails (on_line_start ∷ []) (travellers s l 512 2)
    -- A packet naming no sender
    ∷ fails (waiting_packet ∷ []) (with_first s l (packet_of 1 4 (power 1)))
    ∷ fails (on_line_packet ∷ []) (with_front s l (transit_of (packet_of 1 2 (power 0)) (free_at s l)))
    -- or with a sequence outside 1..sent.
    ∷ fits (with_first s l (packet_of 0 1 (power 1)))
    ∷ fails (waiting_packet ∷ []) (with_first s l (packet_of 0 0 (power 1)))
    ∷ fails (waiting_packet ∷ []) (with_first s l (packet_of 0 5 (power 1)))
    ∷ fits (with_front s l (transit_of (packet_of 0 4 (power 0)) (free_at s l)))
    ∷ fails (on_line_packet ∷ []) (with_front s l (transit_of (packet_of 0 0 (power 0)) (free_at s l)))
    ∷ fails (on_line_packet ∷ []) (with_front s l (transit_of (packet_of 0 5 (power 0)) (free_at s l)))
    -- Waiting bits other than the waiting packets' bits.
    ∷ fails (waiting_bits ∷ []) (with_waiting_bits s l 7)
    ∷ fails (waiting_bits ∷ []) (with_waiting_bits s l 9)
    -- A held time NaN or above 2^41: the earliest start (with a NaN the next time is the clock),
    ∷ fits (with_start s l (power 41))
    ∷ fails (held_start ∷ []) (with_start s l above_held)
    ∷ fails (held_start ∷ []) (queued_for (with_start s l nan) (link_part s l) s.head.clock.0.0)
    -- a packet's sent time (never alone: while the clock is held, it is outside 0..clock too),
    ∷ fails (held_waiting ∷ past_waiting ∷ []) (with_first s l (packet_of 0 4 above_held))
    ∷ fails (held_waiting ∷ past_waiting ∷ []) (with_first s l (packet_of 0 4 nan))
    ∷ fails (held_on_line ∷ past_on_line ∷ []) (with_front s l (transit_of (packet_of 0 2 above_held) (free_at s l)))
    ∷ fails (held_on_line ∷ past_on_line ∷ []) (with_front s l (transit_of (packet_of 0 2 nan) (free_at s l)))
    -- or a due time.
    ∷ fits (with_front s l (transit_of (packet_of 0 2 (power 0)) (power 41)))
    ∷ fails (held_due ∷ []) (with_front s l (transit_of (packet_of 0 2 (power 0)) above_held))
    ∷ fails (held_due ∷ []) (with_front s l (transit_of (packet_of 0 2 (power 0)) nan))
    -- A packet's sent time outside 0..clock.
    ∷ fits (with_first s l (packet_of 0 4 zero_f))
    ∷ fits (with_first s l (packet_of 0 4 s.head.clock.0.0))
    ∷ fails (past_waiting ∷ []) (with_first s l (packet_of 0 4 below_zero))
    ∷ fails (past_waiting ∷ []) (with_first s l (packet_of 0 4 (power 3)))
    ∷ fits (with_front s l (transit_of (packet_of 0 2 zero_f) (free_at s l)))
    ∷ fits (with_front s l (transit_of (packet_of 0 2 s.head.clock.0.0) (free_at s l)))
    ∷ fails (past_on_line ∷ []) (with_front s l (transit_of (packet_of 0 2 below_zero) (free_at s l)))
    ∷ fails (past_on_line ∷ []) (with_front s l (transit_of (packet_of 0 2 (power 3)) (free_at s l)))
    -- On-line due times that fall.
    ∷ fits (two_due s l (free_at s l))
    ∷ fits (two_due s l (power 3))
    ∷ fails (due ∷ []) (two_due s l (power 1))
    -- Document 02, K1: a waiting packet that carries other bits than its sender's,
    ∷ fits (with_carried s l 8)
    ∷ fails (carried ∷ []) (with_carried s l 7)
    ∷ fails (carried ∷ []) (with_carried s l 9)
    ∷ fails (carried ∷ []) (with_carried s l 18446744073709551615)
    -- and what it carries beside the waiting bits: one of them is not enough.
    ∷ fails (waiting_bits ∷ carried ∷ []) (with_waiting_bits (with_carried s l 7) l 8)
    -- Document 02, K5: four zero words in the generator of its link, one word of four being enough.
    ∷ fits (with_link_words s l (words_only 1 0 0 0))
    ∷ fits (with_link_words s l (words_only 0 1 0 0))
    ∷ fits (with_link_words s l (words_only 0 0 1 0))
    ∷ fits (with_link_words s l (words_only 0 0 0 1))
    ∷ fails (link_words ∷ []) (with_link_words s l (words_only 0 0 0 0))
    ∷ []

-- ---- fit is not kept by itself

-- 0.5
abbrev pub half : Float
half = fin false 1 (negsuc 0)

-- Line l has a delay of 0, and the other line one of 8. Clock 0.5, the link of line l next: 0:2 waits and may start, 0:1 is on the line and due at this time; 2 sent, the sender is off until 1.
unfoldable pub early : ℕ → Float → Simulation
early l at =
    let delay : ℕ → Float = λ k. cond (eqb k l) zero_f (power 3) in
    record {
      network = returned (with_delay (delay 0)) (values_from (delay 1) (power 3) zero_f None);
      head = record { clock = time_of half; next = Some (part_of 1 (link l)) };
      lines = set (new_line blank_words ∷ new_line blank_words ∷ []) l (line_of zero_f 8 0 1 0 1 blank_words);
      waiting = replicate 1024 (waits_of (packet_of 0 2 zero_f));
      on_line = replicate 1024 (transit_of (packet_of 0 1 zero_f) at);
      senders = record { packets_sent = 2; state = State.WaitingForEnable; rng = own_words } ∷ replicate 15 (new_sender blank_words);
      togglers = record { enabled = false; next_toggle = time_of (power 0); rng = toggle_words } ∷ replicate 15 blank_toggler;
      meters = replicate 16 new_meter;
      queue = no_queued ∷ no_queued ∷ record { time = Some (time_of (power 0)) } ∷ replicate 32 no_queued;
    }

-- a fit state that moves, and whether it is steady
abbrev pub Moves : Bool → Simulation → Type 0
Moves so s = (fit s ≡ true) × ((tick_of s).moved ≡ true) × (steady s ≡ so)

-- due at the clock and the delay; due later, where after the tick the due times fall
abbrev pub DueLater : ℕ → Type 0
DueLater l = Moves true (early l half) × Fit (tick_of (early l half)).simulation × Moves false (early l (odd 5)) × Unfit (due ∷ []) (tick_of (early l (odd 5))).simulation

-- ---- what is held for a line that is not there

-- the same of each line that the network has, and of its slots: anything past them
pub record SameHeld (s : Simulation) (lines : List Line) (waiting : List Waiting) (on_line : List Transit) : Type 0 where
  pub line : (l : ℕ) → l < line_count s.network → get_or lines l no_line ≡ line_at s l
  pub waits : (k : ℕ) → k < places * line_count s.network → get_or waiting k no_waiting ≡ get_or s.waiting k no_waiting
  pub moves : (k : ℕ) → k < places * line_count s.network → get_or on_line k no_transit ≡ get_or s.on_line k no_transit

-- a state with values that no line may have past the first line and its 512 slots
abbrev pub scribbled : Simulation → Simulation
scribbled s =
    with_held s (set s.lines 1 (line_of nan 7 512 513 600 700 (words_only 0 0 0 0)))
    (take 512 s.waiting ++ replicate 512 (record { packet = packet_of 1 0 nan; bits = amount_of 9 }))
    (take 512 s.on_line ++ replicate 512 (transit_of (packet_of 17 0 nan) (inf false)))

-- ---- the claims

abbrev pub unfit : List (Type 0)
unfit =
    ((s : Simulation) → fit s ≡ all_pass true (rows s))
    ∷ ((s : Simulation) → fit s ≡ is_empty (failed (rows s)))
    ∷ ((s : Simulation) → fit s ≡ false → tick_of s ≡ unmoved s 9)
    ∷ (worked_after 7 ≡ busy)
    ∷ (worked_after 0 ≡ quiet)
    ∷ ((run_of 11 (build_of there_and_back 1).simulation).simulation ≡ returning)
    ∷ (double 0x4280000000000000 ≡ power 41)
    ∷ (double 0x4280000000000001 ≡ above_held)
    ∷ Fit busy
    ∷ Fit quiet
    ∷ Fit returning
    ∷ Fit empty
    -- What a line holds: of the first line, and of a return line.
    ∷ Sorted (line_cases busy 0)
    ∷ Sorted (line_cases returning 1)
    -- Network outside 1 to 7. (Over 16 senders: the seventeenth has no meter, so other clauses refuse it too.)
    ∷ Fit (with_network busy good)
    ∷ Unfit (network ∷ []) (with_network busy (with_delay nan))
    ∷ Unfit (network ∷ []) (with_network busy (with_rate zero_f))
    ∷ Unfit (network ∷ []) (with_network busy (with_loss nan))
    ∷ Unfit (network ∷ []) (with_network busy (with_limit (Some 1125899906842625)))
    ∷ Unfit (network ∷ []) (with_network quiet (with_bits 0))
    ∷ Unfit (network ∷ []) (with_network busy (with_on (Always zero_f)))
    ∷ Unfit (network ∷ []) (with_network busy (with_policy (Held 0)))
    -- or a return line that 20 refuses.
    ∷ Fit (with_network returning (with_back (values_from (power 1) (power 2) (power 0) None)))
    ∷ Unfit (network ∷ []) (with_network returning (with_back (values_from nan (power 2) zero_f None)))
    ∷ Unfit (network ∷ []) (with_network returning (with_back (values_from (power 1) below_one zero_f None)))
    ∷ Unfit (network ∷ []) (with_network returning (with_back (values_from (power 1) (power 2) above_one None)))
    ∷ Unfit (network ∷ []) (with_network returning (with_back (values_from (power 1) (power 2) zero_f (Some 1125899906842625))))
    -- A clock below 0. (A NaN is a held time too. Where a sender is on, its start is outside 0..clock too.)
    ∷ Fit (with_clock empty zero_f)
    ∷ Fit (with_clock empty minus_zero)
    ∷ Unfit (clock ∷ []) (with_clock empty below_zero)
    ∷ Unfit (clock ∷ held_clock ∷ []) (with_clock empty nan)
    -- A held time NaN, above 2^41: the clock; an idle state's clock MAX is exempt. (Where a part is next, its own next time is the clock.)
    ∷ Fit (with_clock empty (power 41))
    ∷ Unfit (held_clock ∷ []) (with_clock empty above_held)
    ∷ Unfit (held_clock ∷ []) (with_clock empty (inf false))
    ∷ Fit (with_clock empty largest)
    ∷ Fit (with_clock (with_toggle quiet false (power 41)) (power 41))
    ∷ Unfit (held_clock ∷ held_toggle ∷ []) (with_clock (with_toggle quiet false largest) largest)
    -- a sender's started (never alone, as a sent time) and its timer,
    ∷ Unfit (held_by_sender ∷ past_started ∷ []) (with_started busy above_held)
    ∷ Unfit (held_by_sender ∷ past_started ∷ []) (with_started busy nan)
    ∷ Fit (sending_timed (power 41))
    ∷ Unfit (held_by_sender ∷ []) (sending_timed above_held)
    ∷ Unfit (held_by_sender ∷ []) (sending_timed nan)
    -- a toggle (never alone: it is the clock or queued),
    ∷ Fit (toggling (power 41))
    ∷ Unfit (held_toggle ∷ held_queue ∷ []) (toggling above_held)
    ∷ Unfit (held_toggle ∷ held_queue ∷ others ∷ []) (toggling nan)
    -- a meter's start (never alone, as a sent time),
    ∷ Unfit (held_by_meter ∷ past_meter ∷ []) (with_meter_start busy (Some (time_of above_held)))
    ∷ Unfit (held_by_meter ∷ past_meter ∷ []) (with_meter_start busy (Some (time_of nan)))
    -- or queued below the clock. (At another part's place a NaN or a time above 2^41 is never alone: it is no own next time, or it is a start, a due time, a timer or a toggle.)
    ∷ Fit (toggling three)
    ∷ Unfit (held_queue ∷ []) (toggling (power 1))
    ∷ Fit (waiting_for busy_timed three)
    ∷ Unfit (held_queue ∷ []) (waiting_for busy_timed (power 1))
    ∷ Fit (queued_for (with_front returning 1 (transit_of (packet_of 0 2 (power 0)) (power 2))) 4 (power 2))
    ∷ Unfit (held_queue ∷ []) (queued_for (with_front returning 1 (transit_of (packet_of 0 2 (power 0)) (power 1))) 4 (power 1))
    -- At the next part's own place, which no other test reads:
    ∷ Fit (queued_for busy 0 three)
    ∷ Fit (queued_for busy 0 (power 41))
    ∷ Unfit (held_queue ∷ []) (queued_for busy 0 nan)
    ∷ Unfit (held_queue ∷ []) (queued_for busy 0 above_held)
    ∷ Unfit (held_queue ∷ []) (queued_for busy 0 (power 1))
    -- A sender's started
    ∷ Fit (with_started busy zero_f)
    ∷ Fit (with_started busy three)
    ∷ Unfit (past_started ∷ []) (with_started busy below_zero)
    ∷ Unfit (past_started ∷ []) (with_started busy (power 2))
    -- or a meter's start outside 0..clock.
    ∷ Fit (with_meter_start busy (Some (time_of zero_f)))
    ∷ Fit (with_meter_start busy (Some (time_of three)))
    ∷ Unfit (past_meter ∷ []) (with_meter_start busy (Some (time_of below_zero)))
    ∷ Unfit (past_meter ∷ []) (with_meter_start busy (Some (time_of (power 2))))
    -- A total enabled time negative or not finite.
    ∷ Fit (with_total busy minus_zero)
    ∷ Fit (with_total busy largest)
    ∷ Unfit (total ∷ []) (with_total busy below_zero)
    ∷ Unfit (total ∷ []) (with_total busy (inf false))
    ∷ Unfit (total ∷ []) (with_total busy nan)
    -- An RTT sum outside 0..records times 2^41.
    ∷ Fit (with_rtt_sum busy minus_zero)
    ∷ Fit (with_rtt_sum busy (power 41))
    ∷ Unfit (rtt_sum_of ∷ []) (with_rtt_sum busy below_zero)
    ∷ Unfit (rtt_sum_of ∷ []) (with_rtt_sum busy above_held)
    ∷ Unfit (rtt_sum_of ∷ []) (with_rtt_sum busy nan)
    ∷ Unfit (rtt_sum_of ∷ []) (meter_with quiet zero_f None 0 0 tiny)
    -- Meter records above sent less the sender's packets waiting and on the line: of 4 sent, one waits and one is on the line.
    ∷ Fit (with_records busy 2)
    ∷ Unfit (records ∷ []) (with_records busy 3)
    -- The packets of both lines: of 4 sent, one waits for the first line, one for the return line, and one is on it.
    ∷ Fit (with_records returning 1)
    ∷ Unfit (records ∷ []) (with_records returning 2)
    ∷ Fit (with_records (line_with returning 1 six 8 2 1 1 0) 2)
    ∷ Fit (with_records (line_with returning 1 six 0 2 0 1 1) 2)
    ∷ Unfit (records ∷ []) (with_records (line_with returning 1 six 8 2 1 1 0) 3)
    ∷ Unfit (records ∷ []) (with_records (line_with returning 1 six 0 2 0 1 1) 3)
    -- Sent or greatest ack above 2^24.
    ∷ Fit (with_sent busy 16777216)
    ∷ Unfit (counts ∷ []) (with_sent busy 16777217)
    ∷ Fit (sending (with_ack busy 16777216))
    ∷ Unfit (counts ∷ []) (sending (with_ack busy 16777217))
    -- A window outside 1..64.
    ∷ Fit (with_window busy 1)
    ∷ Unfit (window ∷ []) (with_window busy 0)
    ∷ Fit (sending (with_window busy 64))
    ∷ Unfit (window ∷ []) (sending (with_window busy 65))
    -- A timer held while off (an off sender's type holds none) or not timed.
    ∷ Fit (waiting_for busy_timed (power 2))
    ∷ Unfit (timer ∷ []) (waiting_for busy (power 2))
    -- Toggler and sender disagreeing on on/off.
    ∷ Unfit (toggler ∷ []) (with_toggle busy false toggle_time)
    ∷ Unfit (toggler ∷ []) (with_toggle quiet true (power 0))
    -- Sender and its meter disagreeing on on/off.
    ∷ Unfit (meter ∷ []) (with_meter_start busy None)
    ∷ Unfit (meter ∷ []) (meter_with quiet zero_f (Some (time_of zero_f)) 0 0 zero_f)
    ∷ Unfit (toggler ∷ meter ∷ []) (switched_off busy)
    ∷ Fit (with_meter_start (with_toggle (switched_off busy) false toggle_time) None)
    -- Meter bits other than its records times the packet bits.
    ∷ Unfit (meter_bits ∷ []) (with_meter_bits busy 7)
    ∷ Unfit (meter_bits ∷ []) (with_meter_bits busy 9)
    -- A next component whose own next time isn't the clock: another time, none, and no component,
    ∷ Unfit (next ∷ []) (with_clock busy (fin false 5 (negsuc 0)))
    ∷ Unfit (next ∷ []) (with_next link_queued (Some 1))
    ∷ Unfit (next ∷ []) (with_next link_queued (Some 3))
    -- none though a part is queued,
    ∷ Unfit (next ∷ []) (with_next link_queued None)
    -- or another part whose queued time isn't its own next time,
    ∷ Unfit (others ∷ []) (queued_for busy 2 (power 6))
    -- queued with none,
    ∷ Unfit (others ∷ []) (queued_for busy 1 three)
    ∷ Unfit (others ∷ []) (queued_for busy 3 three)
    ∷ Unfit (others ∷ []) (queued_for busy 4 three)
    ∷ Unfit (others ∷ []) (queued_for busy 34 three)
    -- or not queued with one.
    ∷ Unfit (others ∷ []) (with_queued busy 2 None)
    ∷ Unfit (others ∷ []) (with_next quiet None)
    -- With a return line: the second link, part 4, next before its time, queued at another, queued with none, not queued with one;
    ∷ Unfit (next ∷ []) (with_next (queued_for returning 0 (power 2)) (Some 4))
    ∷ Unfit (others ∷ []) (queued_for returning 4 (power 3))
    ∷ Unfit (others ∷ []) (line_with returning 1 six 0 2 0 1 0)
    ∷ Unfit (others ∷ []) (with_queued returning 4 None)
    -- the bouncer, part 3, next, and queued: it has no next time;
    ∷ Unfit (next ∷ []) (with_next (queued_for returning 0 (power 2)) (Some 3))
    ∷ Unfit (others ∷ []) (queued_for returning 3 (power 3))
    -- and the place after them.
    ∷ Unfit (others ∷ []) (queued_for returning 5 (power 3))
    ∷ Unfit (others ∷ []) (queued_for returning 34 (power 3))
    -- No clause reads the bits of places above the senders.
    ∷ Fit (with_network busy (with_sizes (8 ∷ []) 1))
    ∷ Fit (with_network busy (with_sizes (8 ∷ 0 ∷ 16777217 ∷ []) 1))
    ∷ Fit (with_network empty (with_sizes (bits_all 0) 0))
    -- Document 02, K5: four zero words, in the generator of the link of a simulation without senders,
    ∷ Unfit (link_words ∷ []) (with_link_words empty 0 (words_only 0 0 0 0))
    -- of a sender, on or off, though nothing draws from it,
    ∷ Fit (with_sender_words busy 0 (words_only 0 0 0 1))
    ∷ Unfit (sender_words ∷ []) (with_sender_words busy 0 (words_only 0 0 0 0))
    ∷ Unfit (sender_words ∷ []) (with_sender_words quiet 0 (words_only 0 0 0 0))
    -- or of a toggler.
    ∷ Fit (with_toggler_words busy 0 (words_only 0 0 0 1))
    ∷ Unfit (toggler_words ∷ []) (with_toggler_words busy 0 (words_only 0 0 0 0))
    -- Document 02, K4: no clause reads what is held past the network's lines, so without a return line none reads what is held for one, and seven ticks do not;
    ∷ ((s : Simulation) (lines : List Line) (waiting : List Waiting) (on_line : List Transit) → SameHeld s lines waiting on_line → fit (with_held s lines waiting on_line) ≡ fit s)
    ∷ Fit (scribbled busy)
    ∷ (run_of 7 (scribbled quiet) ≡ record { done = 7; number = 0; simulation = scribbled busy })
    -- with one it is read.
    ∷ (fit (scribbled returning) ≡ false)
    -- Fit is not kept by itself: a packet on a line that is due later than the clock and the delay, as in no steady state.
    ∷ DueLater 0
    ∷ DueLater 1
    -- Every sender of the network is read, and none above them.
    ∷ Fit two_senders
    ∷ Unfit (total ∷ rtt_sum_of ∷ []) (with_meter two_senders 1 no_meter)
    ∷ Unfit (held_toggle ∷ others ∷ toggler_words ∷ []) (with_toggler two_senders 1 no_toggler)
    ∷ Unfit (sender_words ∷ []) (with_sender_words two_senders 1 (words_only 0 0 0 0))
    ∷ Unfit (toggler_words ∷ []) (with_toggler_words two_senders 1 (words_only 0 0 0 0))
    ∷ Fit (with_meter busy 1 no_meter)
    ∷ Fit (with_toggler busy 1 no_toggler)
    ∷ Fit (with_sender busy 1 no_sender)
    -- In no clause: waiting bits above the limit, a packet held twice, a greatest ack above sent.
    ∷ Fit (waiters busy 0 0 2)
    ∷ Fit (with_first busy 0 (packet_of 0 2 (power 1)))
    ∷ Fit (sending (with_ack busy 5))
    ∷ []
