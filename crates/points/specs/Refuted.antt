-- The account of packets, clause by clause: for each clause of `Account` and `LineAccount` a history and a last state of which there is no account because of
-- that clause. Each is the history and the state that ten ticks gave, with one thing changed, and every clause that is not named holds of it.
use Rattle.std.specs.Prelude.{◌≡◌, Bool, true, false, ◌||◌, ◌&&◌, cond, List, [], ◌∷◌, ◌++◌, map, ℕ, ◌+◌, ◌*◌, ◌<◌, pos, negsuc, length, take, set, replicate, ltb, eqb, Float, Option, Some, None}
use Rattle.std.specs.Float.{fin}
use Rattle.quantities.specs.Doubles.{zero_f, power}
use Rattle.quantities.specs.Units.{span_of, time_of, amount_of, span_after}
use Rattle.draws.specs.declared.distribution.ContinuousDistribution.TheVariants.{Always}
use Rattle.meters.specs.Meter.{new_meter}
use Rattle.sender.specs.declared.lossy.Policy.TheVariants.{Held}
use Rattle.toggler.specs.Queue.{no_queued}
use Rattle.remy.specs.declared.network.RemyNetwork.{RemyNetwork}
use Rattle.remy.specs.declared.simulation.Mark.{Mark}
use Rattle.remy.specs.declared.simulation.Simulation.{Simulation}
use Rattle.remy.specs.declared.simulation.TickRecord.{TickRecord}
use Rattle.remy.specs.Network.{between}
use Rattle.remy.specs.State.{has_back, line_count, values_of, line_at, sender_at, meter_at, waiting_items, on_line_items, sender_bits, total_bits, with_line, with_waiting, with_on_line, with_meter}
use Rattle.remy.specs.Build.{new_line, blank_words, blank_waiting, blank_transit, build_of}
use Rattle.remy.specs.Tick.{tick_of}
use Rattle.remy.specs.History.{Call, tick, ticks, after, history, Fresh, id_of, ids, times, PacketId, admissions, dropped_full, lost, dropped_back, lost_back, counted, old, ignored}
use Rattle.remy.specs.History.{starts as startsOn, leaves as leavesOf}
use Rattle.remy.specs.Account.{total, of_sender, is_packet, if_back, waiting, on_line, everywhere, pace, Spaced, Limited, Account}
use Rattle.points.specs.Worked.{none}
use Rattle.points.specs.Unfit.{three, toggle_time, packet_of, waits_of, transit_of, link_sampled, on_since1, on_until101, with_network}

-- ---- a network, a history and a last state, and what each clause of the account says of them

pub record Case : Type 0 where
  pub network : RemyNetwork
  pub past : List TickRecord
  pub last : Simulation

pub data Clause : Type 0 where
  network sent books once meter : Clause
  -- of line l
  starts leaves arrival spacing bits carried limit : ℕ → Clause

abbrev pub line_clauses : ℕ → List Clause
line_clauses l = starts l ∷ leaves l ∷ arrival l ∷ spacing l ∷ bits l ∷ carried l ∷ limit l ∷ []

abbrev pub clauses_of : RemyNetwork → List Clause
clauses_of n = network ∷ sent ∷ books ∷ once ∷ meter ∷ (line_clauses 0 ++ cond (has_back n.back) (line_clauses 1) [])

abbrev pub size_of : RemyNetwork → PacketId → ℕ
size_of n x = (sender_bits n x.sender).0

abbrev pub Says : RemyNetwork → List TickRecord → Simulation → Clause → Type 0
Says n h s network = s.network ≡ n
Says n h s sent = (i : ℕ) → i < n.senders → (sender_at s i).packets_sent ≡ total (of_sender i) (ids (admissions 0 h)) + total (of_sender i) (dropped_full h)
Says n h s books =
    (i : ℕ) → i < n.senders
    → (sender_at s i).packets_sent
    ≡ total (of_sender i) (dropped_full h)
    + total (of_sender i) (waiting s 0)
    + total (of_sender i) (on_line s 0)
    + total (of_sender i) (lost h)
    + total (of_sender i) (if_back n (dropped_back h))
    + total (of_sender i) (if_back n (waiting s 1))
    + total (of_sender i) (if_back n (on_line s 1))
    + total (of_sender i) (if_back n (lost_back h))
    + total (of_sender i) (counted h)
    + total (of_sender i) (old h)
    + total (of_sender i) (ignored h)
Says n h s once = (i m : ℕ) → total (is_packet i m) (everywhere n h s) ≡ cond (ltb i n.senders && between 1 (sender_at s i).packets_sent m) 1 0
Says n h s meter = (i : ℕ) → i < n.senders → (meter_at s i).records ≡ total (of_sender i) (counted h)
Says n h s (starts l) = ids (admissions l h) ≡ ids (startsOn n l h) ++ map (λ x. id_of x.packet) (waiting_items s l)
Says n h s (leaves l) = ids (startsOn n l h) ≡ ids (leavesOf n l h) ++ map (λ x. id_of x.packet) (on_line_items s l)
Says n h s (arrival l) = times (leavesOf n l h) ≡ map (λ t. span_after t (span_of (values_of n l).delay)) (take (length (leavesOf n l h)) (times (startsOn n l h)))
Says n h s (spacing l) = Spaced (pace (values_of n l) (size_of n)) (startsOn n l h)
Says n h s (bits l) = (line_at s l).buffer_contains.0 ≡ total_bits (waiting_items s l)
Says n h s (carried l) = map (λ x. x.bits.0) (waiting_items s l) ≡ map (λ x. size_of n (id_of x.packet)) (waiting_items s l)
Says n h s (limit l) = Limited (values_of n l).limit (line_at s l).buffer_contains.0

-- clauses by their places, and whether one is in a list
abbrev pub place_of : Clause → ℕ
place_of network = 0
place_of sent = 1
place_of books = 2
place_of once = 3
place_of meter = 4
place_of (starts l) = 5 + 7 * l
place_of (leaves l) = 6 + 7 * l
place_of (arrival l) = 7 + 7 * l
place_of (spacing l) = 8 + 7 * l
place_of (bits l) = 9 + 7 * l
place_of (carried l) = 10 + 7 * l
place_of (limit l) = 11 + 7 * l

abbrev pub is_in : List Clause → Clause → Bool
is_in [] c = false
is_in (x ∷ xs) c = eqb (place_of x) (place_of c) || is_in xs c

-- every clause that is not in the list holds, of those from here on
abbrev pub OthersOf : List Clause → Case → List Clause → Type 0
OthersOf but k [] = Unit {0}
OthersOf but k (c ∷ cs) = cond (is_in but c) (OthersOf but k cs) (Says k.network k.past k.last c × OthersOf but k cs)

abbrev pub Others : List Clause → Case → Type 0
Others but k = OthersOf but k (clauses_of k.network)

abbrev pub Accounted : Case → Type 0
Accounted k = Account k.network k.past k.last

-- there is no account, and every clause but these holds
abbrev pub Refuted : List Clause → Case → Type 0
Refuted by k = (Accounted k → ⊥) × Others by k

-- ---- ten ticks

-- delay 2, rate 8, this loss, this limit, bits 8, one sender, on always 100, off always 1, held 6
abbrev pub network_with : Float → Option ℕ → RemyNetwork
network_with loss most =
    record {
      line = record { delay = power 1; rate = power 3; loss = loss; limit = most };
      back = None;
      bits = replicate 16 8;
      senders = 1;
      on = Always (fin false 25 (pos 2));
      off = Always (power 0);
      policy = Held 6;
    }

abbrev pub plan : RemyNetwork
plan = network_with zero_f (Some 32)

abbrev pub its : ℕ → Option (ℕ × ℕ)
its m = Some (0, m)

abbrev pub note_at : Float → ℕ → Mark → Option (ℕ × ℕ) → Option (ℕ × ℕ) → TickRecord
note_at time part mark packet started = record { time = time_of time; part = part; mark = mark; packet = packet; started = started }

-- A history: the sender is switched on and sends the packets a to e, and f is dropped full. Packet a starts at 1, b at this time and c at that;
-- when c starts, a leaves with a mark.
abbrev pub history_with : ℕ → ℕ → ℕ → ℕ → ℕ → ℕ → Float → Float → Mark → List TickRecord
history_with a b c d e f second third left =
    note_at (power 0) 2 Mark.Enabled none none
    ∷ note_at (power 0) 1 Mark.Sent (its a) none
    ∷ note_at (power 0) 0 Mark.None none (its a)
    ∷ note_at (power 0) 1 Mark.Sent (its b) none
    ∷ note_at (power 0) 1 Mark.Sent (its c) none
    ∷ note_at (power 0) 1 Mark.Sent (its d) none
    ∷ note_at (power 0) 1 Mark.Sent (its e) none
    ∷ note_at (power 0) 1 Mark.Full (its f) none
    ∷ note_at second 0 Mark.None none (its b)
    ∷ note_at third 0 left (its a) (its c)
    ∷ []

-- 0:1 is counted at 3, 0:2 and 0:3 are on the line, 0:4 and 0:5 wait, 0:6 was dropped full
abbrev pub ten : List TickRecord
ten = history_with 1 2 3 4 5 6 (power 1) three Mark.Counted

-- the state then: clock 3, the sender next
unfoldable pub tenth : Simulation
tenth =
    record {
      network = plan;
      head = record { clock = time_of three; next = Some 1 };
      lines =
          record {
            earliest_transmit = time_of (power 2);
            buffer_contains = amount_of 16;
            waiting = record { start = 3; count = 2 };
            on_line = record { start = 1; count = 2 };
            rng = link_sampled;
          }
          ∷ new_line blank_words
          ∷ [];
      waiting =
          waits_of (packet_of 0 1 (power 0))
          ∷ waits_of (packet_of 0 2 (power 0))
          ∷ waits_of (packet_of 0 3 (power 0))
          ∷ waits_of (packet_of 0 4 (power 0))
          ∷ waits_of (packet_of 0 5 (power 0))
          ∷ replicate 1019 blank_waiting;
      on_line =
          transit_of (packet_of 0 1 (power 0)) three
          ∷ transit_of (packet_of 0 2 (power 0)) (power 2)
          ∷ transit_of (packet_of 0 3 (power 0)) (fin false 5 (pos 0))
          ∷ replicate 1021 blank_transit;
      senders = on_since1 6 6;
      togglers = on_until101;
      meters =
          record { total_time = span_of zero_f; current_start = Some (time_of (power 0)); total = amount_of 8; records = 1; rtt_sum = span_of (power 1) }
          ∷ replicate 15 new_meter;
      queue =
          record { time = Some (time_of (power 2)) }
          ∷ no_queued
          ∷ record { time = Some (time_of toggle_time) }
          ∷ replicate 32 no_queued;
    }

-- ---- one thing changed

abbrev pub case_of : List TickRecord → Simulation → Case
case_of h s = record { network = plan; past = h; last = s }

-- a line with these waiting bits, and so many packets that wait
abbrev pub waiting_with : ℕ → ℕ → Simulation
waiting_with contains count =
    with_line tenth 0
    (record {
      earliest_transmit = (line_at tenth 0).earliest_transmit;
      buffer_contains = amount_of contains;
      waiting = record { start = 3; count = count };
      on_line = (line_at tenth 0).on_line;
      rng = (line_at tenth 0).rng;
    })

-- packets d and e wait; b and c are on the line
abbrev pub waiting_are : Simulation → ℕ → ℕ → Simulation
waiting_are s d e = with_waiting s (set (set s.waiting 3 (waits_of (packet_of 0 d (power 0)))) 4 (waits_of (packet_of 0 e (power 0))))

abbrev pub on_line_are : Simulation → ℕ → ℕ → Simulation
on_line_are s b c = with_on_line s (set (set s.on_line 1 (transit_of (packet_of 0 b (power 0)) (power 2))) 2 (transit_of (packet_of 0 c (power 0)) (fin false 5 (pos 0))))

-- so many records in the sender's meter
abbrev pub records_are : Simulation → ℕ → Simulation
records_are s x =
    with_meter s 0
    (record { total_time = span_of zero_f; current_start = Some (time_of (power 0)); total = amount_of 8; records = x; rtt_sum = span_of (power 1) })

-- the network at hand has another loss, which no other clause reads
abbrev pub another_network : Case
another_network = record { network = network_with (power 0) (Some 32); past = ten; last = tenth }

-- the S record of 0:5 is missing, though it waits
abbrev pub unrecorded : Case
unrecorded =
    case_of
    (note_at (power 0) 2 Mark.Enabled none none
    ∷ note_at (power 0) 1 Mark.Sent (its 1) none
    ∷ note_at (power 0) 0 Mark.None none (its 1)
    ∷ note_at (power 0) 1 Mark.Sent (its 2) none
    ∷ note_at (power 0) 1 Mark.Sent (its 3) none
    ∷ note_at (power 0) 1 Mark.Sent (its 4) none
    ∷ note_at (power 0) 1 Mark.Full (its 6) none
    ∷ note_at (power 1) 0 Mark.None none (its 2)
    ∷ note_at three 0 Mark.Counted (its 1) (its 3)
    ∷ [])
    tenth

-- 0:5 is gone from the queue
abbrev pub mislaid : Case
mislaid = case_of ten (waiting_with 8 1)

-- the meter has a second record of the packet that was counted
abbrev pub recorded_twice : Case
recorded_twice = case_of ten (records_are tenth 2)

-- 0:5 waits before 0:4
abbrev pub passed_over : Case
passed_over = case_of ten (waiting_are tenth 5 4)

-- 0:3 is before 0:2 on the line
abbrev pub overtaken : Case
overtaken = case_of ten (on_line_are tenth 3 2)

-- 0:1 leaves at 4, three seconds after its start
abbrev pub late : Case
late = case_of (history_with 1 2 3 4 5 6 (power 1) (power 2) Mark.Counted) tenth

-- 0:2 starts at 1.5, half a second after 0:1
abbrev pub too_close : Case
too_close = case_of (history_with 1 2 3 4 5 6 (fin false 3 (negsuc 0)) three Mark.Counted) tenth

-- the bits of a packet were added to the tally a second time
abbrev pub tallied_twice : Case
tallied_twice = case_of ten (waiting_with 24 2)

-- two packets of 8 bits wait at a limit of 8
abbrev pub overfull : Case
overfull = record { network = network_with zero_f (Some 8); past = ten; last = with_network tenth (network_with zero_f (Some 8)) }

-- ---- packets in two places, in none, and never sent

-- As it was, but for the packets' numbers and the mark: 0:a left with it, 0:b and 0:c are on the line, 0:d and 0:e wait, 0:f was dropped full. The meter has so
-- many records.
abbrev pub numbered_case : ℕ → ℕ → ℕ → ℕ → ℕ → ℕ → Mark → ℕ → Case
numbered_case a b c d e f mark records = case_of (history_with a b c d e f (power 1) three mark) (records_are (on_line_are (waiting_are tenth d e) b c) records)

-- 0:5 was dropped full, and waits
abbrev pub full_and_waiting : Case
full_and_waiting = numbered_case 1 2 3 4 5 5 Mark.Counted 1

-- 0:3 waits, and is on the line
abbrev pub waiting_and_on_line : Case
waiting_and_on_line = numbered_case 1 2 3 3 5 6 Mark.Counted 1

-- 0:3 is on the line, and was dropped full
abbrev pub on_line_and_full : Case
on_line_and_full = numbered_case 1 2 3 4 5 3 Mark.Counted 1

-- 0:2 left the line with this mark, and is on it
abbrev pub left_and_on_line : Mark → ℕ → Case
left_and_on_line mark records = numbered_case 2 2 3 4 5 6 mark records

-- 0:7 was dropped full, and 0:6 is nowhere
abbrev pub nowhere : Case
nowhere = numbered_case 1 2 3 4 5 7 Mark.Counted 1

-- a packet of a sender that is not there was dropped full
abbrev pub never_sent : Case
never_sent = case_of (ten ++ note_at three 1 Mark.Full (Some (1, 1)) none ∷ []) tenth

-- ---- the claims

abbrev pub refutations : List (Type 0)
refutations =
    -- What the clauses say is the account, all of it and no more.
    ((k : Case) → Accounted k → Others [] k)
    ∷ ((k : Case) → Others [] k → Accounted k)
    -- The ten ticks are those of a fresh simulation, so there is an account of them.
    ∷ Fresh plan (build_of plan 1).simulation
    ∷ (history (ticks 10) (build_of plan 1).simulation ≡ ten)
    ∷ (after (ticks 10) (build_of plan 1).simulation ≡ tenth)
    ∷ Account plan ten tenth
    -- One clause is broken and all others hold.
    ∷ Refuted (network ∷ []) another_network
    ∷ Refuted (meter ∷ []) recorded_twice
    ∷ Refuted (starts 0 ∷ []) passed_over
    ∷ Refuted (leaves 0 ∷ []) overtaken
    ∷ Refuted (arrival 0 ∷ []) late
    ∷ Refuted (spacing 0 ∷ []) too_close
    ∷ Refuted (bits 0 ∷ []) tallied_twice
    ∷ Refuted (limit 0 ∷ []) overfull
    -- So it is with `once`: a packet in each of the seven places and elsewhere, a packet in none, and one that was never sent. The four places of a return line are in Returned.
    ∷ Refuted (once ∷ []) full_and_waiting
    ∷ Refuted (once ∷ []) waiting_and_on_line
    ∷ Refuted (once ∷ []) on_line_and_full
    ∷ Refuted (once ∷ []) (left_and_on_line Mark.Lost 0)
    ∷ Refuted (once ∷ []) (left_and_on_line Mark.Counted 1)
    ∷ Refuted (once ∷ []) (left_and_on_line Mark.Old 0)
    ∷ Refuted (once ∷ []) (left_and_on_line Mark.Ignored 0)
    ∷ Refuted (once ∷ []) nowhere
    ∷ Refuted (once ∷ []) never_sent
    -- `books` follows from `once`, and `sent` from `once`, `starts` and `leaves`: where one of them is broken, so is another.
    ∷ ((n : RemyNetwork) (h : List TickRecord) (s : Simulation) → Says n h s once → Says n h s books)
    ∷ ((n : RemyNetwork) (h : List TickRecord) (s : Simulation) → Says n h s once
    → ((l : ℕ) → l < line_count n → Says n h s (starts l)) → ((l : ℕ) → l < line_count n → Says n h s (leaves l)) → Says n h s sent)
    ∷ Refuted (books ∷ once ∷ starts 0 ∷ []) mislaid
    ∷ Refuted (sent ∷ starts 0 ∷ []) unrecorded
    -- Fresh is the state that an unrefused build returned: every one, of every network and at every seed.
    ∷ ((n : RemyNetwork) (seed : ℕ) → (build_of n seed).number ≡ 0 → Fresh n (build_of n seed).simulation)
    -- The history is the records of ticks that moved since the build: each of them, in order, and no others.
    ∷ ((s : Simulation) → history [] s ≡ [])
    ∷ ((s : Simulation) (cs : List Call) → (tick_of s).moved ≡ true → history (tick ∷ cs) s ≡ (tick_of s).note ∷ history cs (tick_of s).simulation)
    ∷ ((s : Simulation) (cs : List Call) → (tick_of s).moved ≡ false → history (tick ∷ cs) s ≡ history cs (tick_of s).simulation)
    -- Each call is given the state that the one before it returned, refused and idle ones included.
    ∷ ((s : Simulation) → after [] s ≡ s)
    ∷ ((s : Simulation) (cs : List Call) → after (tick ∷ cs) s ≡ after cs (tick_of s).simulation)
    ∷ []
