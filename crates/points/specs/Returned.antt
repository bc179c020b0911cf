-- Document 02, K4: the account of packets with a return line, clause by clause: for each clause of the second line a history and a last state that it alone refuses,
-- and for each of the eleven places of `once` a packet that is there and elsewhere. Each is what twenty ticks gave, with one thing changed.
use Rattle.std.specs.Prelude.{◌≡◌, true, false, ◌||◌, cond, List, [], ◌∷◌, ◌++◌, map, ℕ, zero, suc, ◌*◌, ◌<◌, pos, negsuc, set, replicate, Float, Option, Some, None}
use Rattle.std.specs.Float.{fin}
use Rattle.quantities.specs.Doubles.{zero_f, power, least}
use Rattle.quantities.specs.Units.{span_of, time_of, amount_of}
use Rattle.draws.specs.declared.distribution.ContinuousDistribution.TheVariants.{Always}
use Rattle.draws.specs.Generator.{from_words}
use Rattle.meters.specs.Meter.{new_meter}
use Rattle.link.specs.declared.packet.Packet.{Packet}
use Rattle.link.specs.declared.packet.Waiting.{Waiting}
use Rattle.link.specs.declared.link.Left.TheVariants as Left
use Rattle.link.specs.declared.link.LineValues.{LineValues}
use Rattle.link.specs.declared.link.Line.{Line}
use Rattle.sender.specs.declared.lossy.Policy.TheVariants.{Held}
use Rattle.sender.specs.declared.lossy.SenderState.TheVariants as State
use Rattle.toggler.specs.Queue.{no_queued}
use Rattle.remy.specs.declared.network.RemyNetwork.{RemyNetwork}
use Rattle.remy.specs.declared.simulation.Mark.{Mark}
use Rattle.remy.specs.declared.simulation.Simulation.{Simulation}
use Rattle.remy.specs.declared.simulation.TickRecord.{TickRecord}
use Rattle.remy.specs.State.{has_back, line_count, Role, link, bouncer, sender, line_at, with_line, with_waiting, with_on_line, with_meter, with_queued}
use Rattle.remy.specs.Build.{new_sender, blank_words, blank_waiting, blank_transit, build_of}
use Rattle.remy.specs.Tick.{tick_of, Message, arrives, bounces, returns, switches, to_bouncer, left_messages, answers}
use Rattle.remy.specs.History.{ticks, after, history, Fresh, PacketId, entries, is_l, is_c, is_o, is_i, dropped_full, lost, counted, old, ignored}
use Rattle.remy.specs.History.{leaves as leavesOf}
use Rattle.remy.specs.Account.{if_back, waiting, on_line, everywhere, Account}
use Rattle.points.specs.Worked.{none}
use Rattle.points.specs.Unfit.{three, toggle_time, packet_of, waits_of, transit_of, own_words, on_since1, on_until101, with_network}
use Rattle.points.specs.Refuted.{Case, books, once, starts, leaves, arrival, spacing, bits, carried, limit, Refuted, its, note_at}

-- ---- twenty ticks

abbrev pub five : Float
five = fin false 5 (pos 0)

abbrev pub six : Float
six = fin false 3 (pos 1)

abbrev pub seven : Float
seven = fin false 7 (pos 0)

-- delay 1, rate 8, limit 48; back with delay 4, rate 4 and this limit; no loss; bits 8, one sender, on always 100, off always 1, held 8
abbrev pub back_with : Option ℕ → RemyNetwork
back_with most =
    record {
      line = record { delay = power 0; rate = power 3; loss = zero_f; limit = Some 48 };
      back = Some (record { delay = power 2; rate = power 2; loss = zero_f; limit = most });
      bits = replicate 16 8;
      senders = 1;
      on = Always (fin false 25 (pos 2));
      off = Always (power 0);
      policy = Held 8;
    }

abbrev pub both : RemyNetwork
both = back_with (Some 16)

-- A history: the sender sends the packets a to g, and h is dropped full. They start on the first line at 1, 2 and so on, and leave it a second later: a, b, c, d
-- and f are admitted to the second, e leaves with a mark, w is sent later. On the second, part 4, a starts at 2, b at this time, and c at that, when a leaves with a mark.
abbrev pub past_with : ℕ → ℕ → ℕ → ℕ → ℕ → ℕ → ℕ → ℕ → ℕ → Float → Float → Mark → Mark → List TickRecord
past_with a b c d e f g h w second third gone left =
    note_at (power 0) 2 Mark.Enabled none none
    ∷ note_at (power 0) 1 Mark.Sent (its a) none
    ∷ note_at (power 0) 0 Mark.None none (its a)
    ∷ note_at (power 0) 1 Mark.Sent (its b) none
    ∷ note_at (power 0) 1 Mark.Sent (its c) none
    ∷ note_at (power 0) 1 Mark.Sent (its d) none
    ∷ note_at (power 0) 1 Mark.Sent (its e) none
    ∷ note_at (power 0) 1 Mark.Sent (its f) none
    ∷ note_at (power 0) 1 Mark.Sent (its g) none
    ∷ note_at (power 0) 1 Mark.Full (its h) none
    ∷ note_at (power 1) 0 Mark.Passed (its a) (its b)
    ∷ note_at (power 1) 4 Mark.None none (its a)
    ∷ note_at three 0 Mark.Passed (its b) (its c)
    ∷ note_at (power 2) 0 Mark.Passed (its c) (its d)
    ∷ note_at second 4 Mark.None none (its b)
    ∷ note_at five 0 Mark.Passed (its d) (its e)
    ∷ note_at six 0 gone (its e) (its f)
    ∷ note_at third 4 left (its a) (its c)
    ∷ note_at six 1 Mark.Sent (its w) none
    ∷ note_at seven 0 Mark.Passed (its f) (its g)
    ∷ []

-- 0:1 is counted at 6, 0:2 and 0:3 are on the second line, 0:4 and 0:6 wait for it, 0:5 was dropped full there, 0:7 is on the first line, 0:9 waits for it, 0:8 was dropped full
abbrev pub twenty : List TickRecord
twenty = past_with 1 2 3 4 5 6 7 8 9 (power 2) six Mark.FullBack Mark.Counted

-- the state then: clock 8, the first link next
unfoldable pub twentieth : Simulation
twentieth =
    record {
      network = both;
      head = record { clock = time_of (power 3); next = Some 0 };
      lines =
          record {
            earliest_transmit = time_of (power 3);
            buffer_contains = amount_of 8;
            waiting = record { start = 7; count = 1 };
            on_line = record { start = 6; count = 1 };
            rng = from_words 8782398837025898251 15753303205386563609 15775398760978055686 17600432056546327934;
          }
          ∷ record {
            earliest_transmit = time_of (power 3);
            buffer_contains = amount_of 16;
            waiting = record { start = 3; count = 2 };
            on_line = record { start = 1; count = 2 };
            rng = from_words 6885865512758065188 7016781552821245989 8142080738866415724 2242310618908246863;
          }
          ∷ [];
      waiting =
          waits_of (packet_of 0 1 (power 0))
          ∷ waits_of (packet_of 0 2 (power 0))
          ∷ waits_of (packet_of 0 3 (power 0))
          ∷ waits_of (packet_of 0 4 (power 0))
          ∷ waits_of (packet_of 0 5 (power 0))
          ∷ waits_of (packet_of 0 6 (power 0))
          ∷ waits_of (packet_of 0 7 (power 0))
          ∷ waits_of (packet_of 0 9 six)
          ∷ (replicate 504 blank_waiting
          ++ (waits_of (packet_of 0 1 (power 0))
          ∷ waits_of (packet_of 0 2 (power 0))
          ∷ waits_of (packet_of 0 3 (power 0))
          ∷ waits_of (packet_of 0 4 (power 0))
          ∷ waits_of (packet_of 0 6 (power 0))
          ∷ replicate 507 blank_waiting));
      on_line =
          transit_of (packet_of 0 1 (power 0)) (power 1)
          ∷ transit_of (packet_of 0 2 (power 0)) three
          ∷ transit_of (packet_of 0 3 (power 0)) (power 2)
          ∷ transit_of (packet_of 0 4 (power 0)) five
          ∷ transit_of (packet_of 0 5 (power 0)) six
          ∷ transit_of (packet_of 0 6 (power 0)) seven
          ∷ transit_of (packet_of 0 7 (power 0)) (power 3)
          ∷ (replicate 505 blank_transit
          ++ (transit_of (packet_of 0 1 (power 0)) six
          ∷ transit_of (packet_of 0 2 (power 0)) (power 3)
          ∷ transit_of (packet_of 0 3 (power 0)) (fin false 5 (pos 1))
          ∷ replicate 509 blank_transit));
      senders = on_since1 9 8;
      togglers = on_until101;
      meters =
          record { total_time = span_of zero_f; current_start = Some (time_of (power 0)); total = amount_of 8; records = 1; rtt_sum = span_of five }
          ∷ replicate 15 new_meter;
      queue =
          no_queued
          ∷ no_queued
          ∷ record { time = Some (time_of toggle_time) }
          ∷ no_queued
          ∷ record { time = Some (time_of (power 3)) }
          ∷ replicate 30 no_queued;
    }

-- ---- one thing changed

abbrev pub case_with : List TickRecord → Simulation → Case
case_with h s = record { network = both; past = h; last = s }

-- the second line with these waiting bits, and so many packets that wait
abbrev pub back_bits : Simulation → ℕ → ℕ → Simulation
back_bits s contains count =
    with_line s 1
    (record {
      earliest_transmit = (line_at s 1).earliest_transmit;
      buffer_contains = amount_of contains;
      waiting = record { start = 3; count = count };
      on_line = (line_at s 1).on_line;
      rng = (line_at s 1).rng;
    })

-- these two wait for the second line, and packets b and c are on it
abbrev pub back_waiting : Simulation → Waiting → Waiting → Simulation
back_waiting s x y = with_waiting s (set (set s.waiting 515 x) 516 y)

abbrev pub back_on_line : Simulation → ℕ → ℕ → Simulation
back_on_line s b c = with_on_line s (set (set s.on_line 513 (transit_of (packet_of 0 b (power 0)) (power 3))) 514 (transit_of (packet_of 0 c (power 0)) (fin false 5 (pos 1))))

-- a waiting packet of so many bits
abbrev pub carrying : ℕ → ℕ → Waiting
carrying seq size = record { packet = packet_of 0 seq (power 0); bits = amount_of size }

-- 0:6 waits before 0:4
abbrev pub passed_over_back : Case
passed_over_back = case_with twenty (back_waiting twentieth (waits_of (packet_of 0 6 (power 0))) (waits_of (packet_of 0 4 (power 0))))

-- 0:3 is before 0:2 on the second line
abbrev pub overtaken_back : Case
overtaken_back = case_with twenty (back_on_line twentieth 3 2)

-- 0:1 leaves the second line at 6.5, four and a half seconds after its start there
abbrev pub late_back : Case
late_back = case_with (past_with 1 2 3 4 5 6 7 8 9 (power 2) (fin false 13 (negsuc 0)) Mark.FullBack Mark.Counted) twentieth

-- 0:2 starts on the second line at 3.5, a second and a half after 0:1; by the first line's rate it may
abbrev pub too_close_back : Case
too_close_back = case_with (past_with 1 2 3 4 5 6 7 8 9 (fin false 7 (negsuc 0)) six Mark.FullBack Mark.Counted) twentieth

-- the bits of a packet were taken off the second line's tally a second time
abbrev pub tallied_less : Case
tallied_less = case_with twenty (back_bits twentieth 8 2)

-- the second line's tally was raised by the packet that it dropped full: the limit is passed too
abbrev pub tallied_at_q : Case
tallied_at_q = case_with twenty (back_bits twentieth 24 2)

-- 0:4 carries 4 bits and 0:6 carries 12
abbrev pub other_bits : Case
other_bits = case_with twenty (back_waiting twentieth (carrying 4 4) (carrying 6 12))

-- two packets of 8 bits wait at a limit of 8; the first line's is 48
abbrev pub overfull_back : Case
overfull_back = record { network = back_with (Some 8); past = twenty; last = with_network twentieth (back_with (Some 8)) }

-- a P record of 0:6, which the second line does not have
abbrev pub not_admitted : Case
not_admitted = case_with twenty (back_bits twentieth 8 1)

-- the start of 0:3 on the second line is in a record of the first link
abbrev pub wrong_line : Case
wrong_line =
    case_with
    (note_at (power 0) 2 Mark.Enabled none none
    ∷ note_at (power 0) 1 Mark.Sent (its 1) none
    ∷ note_at (power 0) 0 Mark.None none (its 1)
    ∷ note_at (power 0) 1 Mark.Sent (its 2) none
    ∷ note_at (power 0) 1 Mark.Sent (its 3) none
    ∷ note_at (power 0) 1 Mark.Sent (its 4) none
    ∷ note_at (power 0) 1 Mark.Sent (its 5) none
    ∷ note_at (power 0) 1 Mark.Sent (its 6) none
    ∷ note_at (power 0) 1 Mark.Sent (its 7) none
    ∷ note_at (power 0) 1 Mark.Full (its 8) none
    ∷ note_at (power 1) 0 Mark.Passed (its 1) (its 2)
    ∷ note_at (power 1) 4 Mark.None none (its 1)
    ∷ note_at three 0 Mark.Passed (its 2) (its 3)
    ∷ note_at (power 2) 0 Mark.Passed (its 3) (its 4)
    ∷ note_at (power 2) 4 Mark.None none (its 2)
    ∷ note_at five 0 Mark.Passed (its 4) (its 5)
    ∷ note_at six 0 Mark.FullBack (its 5) (its 6)
    ∷ note_at six 0 Mark.Counted (its 1) (its 3)
    ∷ note_at six 1 Mark.Sent (its 9) none
    ∷ note_at seven 0 Mark.Passed (its 6) (its 7)
    ∷ [])
    twentieth

-- ---- packets in two places, and in none

-- As it was, but for the packets' numbers and two marks: 0:a left the second line with the one, 0:e the first with the other; 0:b and 0:c are on the second line,
-- 0:d and 0:f wait for it, 0:g is on the first, 0:w waits for it, 0:h was dropped full. The meter has so many records.
abbrev pub numbered_back : ℕ → ℕ → ℕ → ℕ → ℕ → ℕ → ℕ → ℕ → ℕ → Mark → Mark → ℕ → Case
numbered_back a b c d e f g h w gone left records =
    let s = back_on_line (back_waiting twentieth (waits_of (packet_of 0 d (power 0))) (waits_of (packet_of 0 f (power 0)))) b c in
    let first = with_on_line (with_waiting s (set s.waiting 7 (waits_of (packet_of 0 w six)))) (set s.on_line 6 (transit_of (packet_of 0 g (power 0)) (power 3))) in
    case_with (past_with a b c d e f g h w (power 2) six gone left)
    (with_meter first 0 (record { total_time = span_of zero_f; current_start = Some (time_of (power 0)); total = amount_of 8; records = records; rtt_sum = span_of five }))

-- 0:9 was dropped full, and waits for the first line
abbrev pub full_and_waits : Case
full_and_waits = numbered_back 1 2 3 4 5 6 7 9 9 Mark.FullBack Mark.Counted 1

-- 0:9 waits for the first line, and is on it
abbrev pub waits_and_moves : Case
waits_and_moves = numbered_back 1 2 3 4 5 6 9 8 9 Mark.FullBack Mark.Counted 1

-- 0:7 is on the first line, and left it with this mark: L or Q
abbrev pub moves_and_gone : Mark → Case
moves_and_gone gone = numbered_back 1 2 3 4 7 6 7 8 9 gone Mark.Counted 1

-- 0:9 waits for both lines
abbrev pub waits_twice : Case
waits_twice = numbered_back 1 2 3 9 5 6 7 8 9 Mark.FullBack Mark.Counted 1

-- 0:4 waits for the second line, and is on it
abbrev pub waits_and_returns : Case
waits_and_returns = numbered_back 1 4 3 4 5 6 7 8 9 Mark.FullBack Mark.Counted 1

-- 0:2 is on the second line, and left it with this mark: N, C, O or I
abbrev pub returns_and_left : Mark → ℕ → Case
returns_and_left left records = numbered_back 2 2 3 4 5 6 7 8 9 Mark.FullBack left records

-- 0:10 waits for the second line, and 0:6 is nowhere
abbrev pub nowhere_back : Case
nowhere_back = numbered_back 1 2 3 4 5 10 7 8 9 Mark.FullBack Mark.Counted 1

-- ---- 12 and 13 on the second line

-- no limits, no loss, delay 1 and rate 8 on both lines, held 3
abbrev pub roomy : RemyNetwork
roomy =
    let line : LineValues = record { delay = power 0; rate = power 3; loss = zero_f; limit = None } in
    record { line = line; back = Some line; bits = replicate 16 8; senders = 1; on = Always (fin false 25 (pos 2)); off = Always (power 0); policy = Held 3 }

-- so many packets wait for a line and so many are on it, and it is free
abbrev pub crowded : ℕ → ℕ → Line
crowded waiting on_line =
    record {
      earliest_transmit = time_of least;
      buffer_contains = amount_of (waiting * 8);
      waiting = record { start = 0; count = waiting };
      on_line = record { start = 0; count = on_line };
      rng = record { s0 = 1; s1 = 2; s2 = 3; s3 = 4 };
    }

-- The sender is on since 1 and has sent 2,000, all acknowledged; 0:1 is in every slot, due at 2. These are the lines, and a part is next at this time; the sender is queued then.
unfoldable pub packed : Line → Line → Float → ℕ → Simulation
packed first second time part =
    record {
      network = roomy;
      head = record { clock = time_of time; next = Some part };
      lines = first ∷ (second ∷ []);
      waiting = replicate 1024 (waits_of (packet_of 0 1 (power 0)));
      on_line = replicate 1024 (transit_of (packet_of 0 1 (power 0)) (power 1));
      senders =
          record { packets_sent = 2000; state = State.Enabled (record { started = time_of (power 0); greatest_ack = 2000; cwnd = 3; timer = None }); rng = own_words }
          ∷ replicate 15 (new_sender blank_words);
      togglers = on_until101;
      meters =
          record { total_time = span_of zero_f; current_start = Some (time_of (power 0)); total = amount_of 0; records = 0; rtt_sum = span_of zero_f }
          ∷ replicate 15 new_meter;
      queue =
          no_queued
          ∷ record { time = Some (time_of time) }
          ∷ record { time = Some (time_of toggle_time) }
          ∷ replicate 32 no_queued;
    }

-- at 2 the first link is next: a packet leaves its line, one starts, and 512 wait for the second, whose link is queued
abbrev pub passing : Simulation
passing = with_queued (packed (crowded 1 512) (crowded 512 0) (power 1) 0) 4 (Some (time_of (power 1)))

-- at 1 the second link is next, and 512 are on its line
abbrev pub starting_back : Simulation
starting_back = packed (crowded 0 0) (crowded 1 512) (power 0) 4

-- ---- the bouncer

-- source and destination of a packet on line l: its sender is both; with a return line the bouncer is the far end of each line
abbrev pub source_of : RemyNetwork → ℕ → Packet → Role
source_of n zero p = sender p.sender
source_of n (suc l) p = bouncer

abbrev pub destination_of : RemyNetwork → ℕ → Packet → Role
destination_of n l p = cond (to_bouncer n l) bouncer (sender p.sender)

abbrev pub receiver_of : Message → Role
receiver_of (arrives l p) = link l
receiver_of (bounces p) = bouncer
receiver_of (returns p) = sender p.sender
receiver_of (switches i on) = sender i

-- ---- the claims

abbrev pub returned : List (Type 0)
returned =
    -- The twenty ticks are those of a fresh simulation, so there is an account of them.
    Fresh both (build_of both 1).simulation
    ∷ (history (ticks 20) (build_of both 1).simulation ≡ twenty)
    ∷ (after (ticks 20) (build_of both 1).simulation ≡ twentieth)
    ∷ Account both twenty twentieth
    -- One clause of the second line is broken, and all others hold.
    ∷ Refuted (starts 1 ∷ []) passed_over_back
    ∷ Refuted (leaves 1 ∷ []) overtaken_back
    ∷ Refuted (arrival 1 ∷ []) late_back
    ∷ Refuted (spacing 1 ∷ []) too_close_back
    ∷ Refuted (bits 1 ∷ []) tallied_less
    ∷ Refuted (carried 1 ∷ []) other_bits
    ∷ Refuted (limit 1 ∷ []) overfull_back
    -- Several are: a tally raised at a Q, a P without an admission, a start on the wrong line.
    ∷ Refuted (bits 1 ∷ limit 1 ∷ []) tallied_at_q
    ∷ Refuted (books ∷ once ∷ starts 1 ∷ []) not_admitted
    ∷ Refuted (starts 0 ∷ leaves 0 ∷ arrival 0 ∷ spacing 0 ∷ starts 1 ∷ leaves 1 ∷ []) wrong_line
    -- A packet in each of the eleven places and elsewhere, and one in none: `once` alone.
    ∷ Refuted (once ∷ []) full_and_waits
    ∷ Refuted (once ∷ []) waits_and_moves
    ∷ Refuted (once ∷ []) (moves_and_gone Mark.Lost)
    ∷ Refuted (once ∷ []) (moves_and_gone Mark.FullBack)
    ∷ Refuted (once ∷ []) waits_twice
    ∷ Refuted (once ∷ []) waits_and_returns
    ∷ Refuted (once ∷ []) (returns_and_left Mark.LostBack 0)
    ∷ Refuted (once ∷ []) (returns_and_left Mark.Counted 1)
    ∷ Refuted (once ∷ []) (returns_and_left Mark.Old 0)
    ∷ Refuted (once ∷ []) (returns_and_left Mark.Ignored 0)
    ∷ Refuted (once ∷ []) nowhere_back
    -- 512 wait for the second line when the first link's packet reaches it: 12, and both lines are as they were. It comes though 512 were on the first line and one was to start: the packet that left
    -- made room, so there is no 13. 512 are on the second line when one is to start: 13, and both are as they were.
    ∷ ((tick_of passing).number ≡ 12)
    ∷ ((tick_of passing).simulation.lines ≡ crowded 1 512 ∷ (crowded 512 0 ∷ []))
    ∷ ((tick_of starting_back).number ≡ 13)
    ∷ ((tick_of starting_back).simulation.lines ≡ crowded 0 0 ∷ (crowded 1 512 ∷ []))
    -- A packet that leaves a line goes to its destination. The bouncer swaps source and destination, and passes it on to the second link; nothing is answered to that.
    ∷ ((n : RemyNetwork) (l : ℕ) (p : Packet) → map receiver_of (left_messages n l (Left.Out p)) ≡ destination_of n l p ∷ [])
    ∷ ((n : RemyNetwork) → has_back n.back ≡ true → (p : Packet) → (source_of n 1 p ≡ destination_of n 0 p) × (destination_of n 1 p ≡ source_of n 0 p))
    ∷ ((p : Packet) → answers (bounces p ∷ []) ≡ arrives 1 p ∷ [])
    ∷ ((ms : List Message) → answers (answers ms) ≡ [])
    -- Without a return line the account says what it said before there was one: seven places, the marks by which a packet leaves, one line.
    ∷ ((n : RemyNetwork) → has_back n.back ≡ false → (h : List TickRecord) (s : Simulation)
    → everywhere n h s ≡ dropped_full h ++ (waiting s 0 ++ (on_line s 0 ++ (lost h ++ (counted h ++ (old h ++ ignored h))))))
    ∷ ((n : RemyNetwork) → has_back n.back ≡ false → (ps : List PacketId) → if_back n ps ≡ [])
    ∷ ((n : RemyNetwork) → has_back n.back ≡ false → (h : List TickRecord) → leavesOf n 0 h ≡ entries (λ m. is_l m || (is_c m || (is_o m || is_i m))) h)
    ∷ ((n : RemyNetwork) → has_back n.back ≡ false → (l : ℕ) → l < line_count n → l ≡ 0)
    ∷ []
