-- The groups of tests together are `fit`; and what each result of a group says of it. Assumes nothing.
use Rattle.std.proofs.Common.{Option, Some, None}
use Prim.Native.Nat.{ℕ, ◌≤◌, ◌<◌}
use mathlib.Core.Path.{◌≡◌, refl, sym, ap, ap₂, subst, ◌∙◌}
use mathlib.Core.Bool.{Bool, true, false, not, ◌&&◌, ◌||◌}
use mathlib.Core.List.{List, map}
use native.Mathlib.Omega.{arith}
use lib.Dec.{leb, eqb}
use lib.ListN.{get_or}
use lib.Ieee.{le}
use Rattle.quantities.specs.declared.time.Time.{Time}
use Rattle.quantities.specs.Doubles.{zero_f}
use Rattle.draws.specs.Generator.{all_zero}
use Rattle.link.specs.declared.packet.Packet.{Packet}
use Rattle.link.specs.declared.packet.Waiting.{Waiting}
use Rattle.link.specs.declared.packet.Transit.{Transit}
use Rattle.toggler.specs.declared.tick_queue.Queued.{Queued}
use Rattle.toggler.specs.Queue.{queue_places}
use Rattle.remy.specs.declared.simulation.Simulation.{Simulation}
use Rattle.remy.specs.Network.{up_to, network_stop}
use Rattle.remy.specs.State.{has_back, line_count, line_at, sender_at, toggler_at, meter_at, queued_at, waiting_items, waiting_packets, on_line_items, on_line_packets, sender_bits, total_bits}
use Rattle.remy.specs.Queue.{next_time_of}
use Rattle.remy.specs.Fit.{every, each_line, network_fit, rings_fit, packet_fit, packets_fit, bits_fit, clock_fit, held, held_if_any, held_sender, held_queued, is_next, held_times_fit, since_start, started_fit, meter_start_fit, past_fit, totals_fit, sums_fit, records_fit, rising, due_fit, ack_fit, counts_fit, windows_fit, timers_fit, togglers_agree, meters_agree, meter_bits_fit, same_time, next_fit, queue_fit, carries, carried_fit, fit}
use Rattle.remy.proofs.Facts.{FitState, fit-state, FitWords, words_apart, words-joined, both_l, both_r, both_i, up_to-at}
use Rattle.ranges.specs.Frame.{rings_test, line_test, lines_test, clock_held, frame_test}
use Rattle.ranges.proofs.UpTo.{up_same}
use Rattle.clauses.specs.Tests.{packet_test, waits_test, transit_test, waiting_test, on_line_test, due_test, line_packets_test, packets_test, line_of, lines_of, Counts, senders_test, link_time, LinkTimes, part_time, place_test, empty_test, next_test, places_test, queue_test}
use Rattle.clauses.proofs.Members.{senders-same}
use Rattle.fitness.proofs.Clauses.{same_test, and_2, and_3, and_4, and_5, every_imp, every-and, every_map, up_to_i, packet_clauses, clauses_packet, SenderClauses, sender_clauses, clauses_sender, part_same, queued_same}

module _ (s : Simulation) where
  -- ---- the groups' tests of the state

  abbrev pub frame : Bool
  frame = frame_test s.network s.head s.lines

  abbrev pub packets : Bool
  packets =
      packets_test s.senders s.network.bits s.network.senders s.head.clock s.waiting s.on_line s.lines (line_count s.network)

  -- the bits of sender i's packets, and how many of them wait or are on a line
  abbrev sizes : ℕ → ℕ
  sizes i = (sender_bits s.network i).0

  abbrev ways : ℕ → ℕ
  ways i = lines_of s.waiting s.on_line s.lines (line_count s.network) i

  abbrev pub senders : Bool
  senders = senders_test s.network.policy sizes s.head.clock ways s.network.senders s.senders s.togglers s.meters

  abbrev place_held : ℕ → Bool
  place_held k = held_queued s (queued_at s k)

  abbrev place_own : ℕ → Bool
  place_own k = is_next s.head.next k || same_time (queued_at s k) (next_time_of s k)

  abbrev pub queue : Bool
  queue = next_fit s s.head.next && up_to queue_places (λ k. place_held k && place_own k)

  -- ---- every line

  abbrev there : ℕ → Type 0
  there l = l < line_count s.network

  each_line_lem : (f : ℕ → Bool) → ((l : ℕ) → there l → f l ≡ true) → each_line s f ≡ true
  each_line_lem f = up_to_i (line_count s.network) f

  at-line : (f : ℕ → Bool) → each_line s f ≡ true → (l : ℕ) → there l → f l ≡ true
  at-line f = up_to-at (line_count s.network) f

  -- ---- network, head and lines

  -- the clauses of line l that do not read the packets
  record LineFrame (l : ℕ) : Type 0 where
    rings : rings_test (line_at s l) ≡ true
    earliest : held (line_at s l).earliest_transmit ≡ true
    words : not (all_zero (line_at s l).rng) ≡ true

  record Frame : Type 0 where
    network : network_fit s ≡ true
    clock : clock_fit s ≡ true
    clock-held : clock_held s.head ≡ true
    lines : (l : ℕ) → there l → LineFrame l

  from_frame : frame ≡ true → Frame
  unfolding frame_test lines_test line_test network_fit clock_fit
  from_frame e =
      let x = and_4 (eqb (network_stop s.network) 0) (le zero_f s.head.clock.0.0) (clock_held s.head) (lines_test s.lines (line_count s.network)) e in
      record {
        network = x.0;
        clock = x.1;
        clock-held = x.2;
        lines = λ l h.
            let y = and_3 (rings_test (line_at s l)) (held (line_at s l).earliest_transmit) (not (all_zero (line_at s l).rng)) (at-line _ x.3 l h) in
            record { rings = y.0; earliest = y.1; words = y.2 };
      }

  to_frame : Frame → frame ≡ true
  unfolding frame_test lines_test line_test network_fit clock_fit
  to_frame f =
      rw (f.network, f.clock, f.clock-held)
      (each_line_lem _ (λ l h. let x = f.lines l h in both_i _ _ (both_i _ _ x.rings x.earliest) x.words))

  from_rings : rings_fit s ≡ true → (l : ℕ) → there l → rings_test (line_at s l) ≡ true
  unfolding rings_test rings_fit
  from_rings e = at-line _ e

  to_rings : ((l : ℕ) → there l → rings_test (line_at s l) ≡ true) → rings_fit s ≡ true
  unfolding rings_test rings_fit
  to_rings all = each_line_lem _ all

  -- ---- packets

  abbrev passes : Packet → Bool
  passes = packet_test s.senders s.network.senders s.head.clock

  -- the clauses of packets
  record Passing (ps : List Packet) : Type 0 where
    known : every (packet_fit s) ps ≡ true
    times : every (λ p. held p.sent_time) ps ≡ true
    past : every (λ p. since_start s p.sent_time) ps ≡ true

  from_passing : (ps : List Packet) → every passes ps ≡ true → Passing ps
  from_passing ps e = record {
    known = every_imp passes (packet_fit s) (λ p h. (packet_clauses s p h).0) ps e;
    times = every_imp passes (λ p. held p.sent_time) (λ p h. (packet_clauses s p h).1) ps e;
    past = every_imp passes (λ p. since_start s p.sent_time) (λ p h. (packet_clauses s p h).2) ps e;
  }

  to_passing : (ps : List Packet) → Passing ps → every passes ps ≡ true
  to_passing ps p =
      let h : Packet → Bool = λ q. held q.sent_time in
      let r : Packet → Bool = λ q. since_start s q.sent_time in
      every_imp (λ q. packet_fit s q && h q && r q) passes
      (λ q k. let x = and_3 (packet_fit s q) (h q) (r q) k in clauses_packet s q x.0 x.1 x.2) ps
      (every-and (λ q. packet_fit s q && h q) r ps (every-and (packet_fit s) h ps p.known p.times) p.past)

  -- what holding a packet each, where the test is the packet's and one more
  module _ {A : Type 0} (packet : A → Packet) (more : A → Bool) where
    abbrev holding : A → Bool
    holding x = passes (packet x) && more x

    from_holding : (xs : List A) → every holding xs ≡ true → Passing (map packet xs) × (every more xs ≡ true)
    from_holding xs e = (
      from_passing (map packet xs) (every_map passes packet xs ∙ every_imp holding (λ x. passes (packet x)) (λ x h. both_l (passes (packet x)) (more x) h) xs e),
      every_imp holding more (λ x h. both_r (passes (packet x)) (more x) h) xs e,
    )

    to_holding : (xs : List A) → Passing (map packet xs) → every more xs ≡ true → every holding xs ≡ true
    to_holding xs p m = every-and (λ x. passes (packet x)) more xs (sym (every_map passes packet xs) ∙ to_passing (map packet xs) p) m

  abbrev waits : Waiting → Bool
  waits = holding (λ x. x.packet) (carries s)

  abbrev moves : Transit → Bool
  moves = holding (λ x. x.packet) (λ x. held x.due)

  abbrev summed : ℕ → Bool
  summed l = eqb (line_at s l).buffer_contains.0 (total_bits (waiting_items s l))

  -- the clauses of the packets of line l
  record LinePackets (l : ℕ) : Type 0 where
    waiting : Passing (waiting_packets s l)
    carried : every (carries s) (waiting_items s l) ≡ true
    bits : summed l ≡ true
    on_line : Passing (on_line_packets s l)
    due_held : every (λ x. held x.due) (on_line_items s l) ≡ true
    due : rising (on_line_items s l) ≡ true

  from_packets : packets ≡ true → (l : ℕ) → there l → LinePackets l
  unfolding packets_test line_packets_test waiting_test waits_test on_line_test transit_test due_test
  from_packets e l h =
      let a = and_3 (every waits (waiting_items s l) && summed l) (every moves (on_line_items s l)) (rising (on_line_items s l)) (at-line _ e l h) in
      let b = and_2 (every waits (waiting_items s l)) (summed l) a.0 in
      let w = from_holding (λ x. x.packet) (carries s) (waiting_items s l) b.0 in
      let o = from_holding (λ x. x.packet) (λ x. held x.due) (on_line_items s l) a.1 in
      record { waiting = w.0; carried = w.1; bits = b.1; on_line = o.0; due_held = o.1; due = a.2 }

  to_packets : ((l : ℕ) → there l → LinePackets l) → packets ≡ true
  unfolding packets_test line_packets_test waiting_test waits_test on_line_test transit_test due_test
  to_packets all =
      each_line_lem _
      (λ l h.
      let p = all l h in
      let w = to_holding (λ x. x.packet) (carries s) (waiting_items s l) p.waiting p.carried in
      let o = to_holding (λ x. x.packet) (λ x. held x.due) (on_line_items s l) p.on_line p.due_held in
      both_i (every waits (waiting_items s l) && summed l && every moves (on_line_items s l)) (rising (on_line_items s l))
      (both_i (every waits (waiting_items s l) && summed l) (every moves (on_line_items s l)) (both_i (every waits (waiting_items s l)) (summed l) w p.bits) o) p.due)

  -- the test of so many lines as there are is the test
  pub by_lines : (count : ℕ) → count ≡ line_count s.network → (r : Bool)
      → r
      ≡ packets_test s.senders s.network.bits s.network.senders s.head.clock s.waiting s.on_line s.lines count
      → r ≡ packets
  by_lines count e r q =
      q ∙ ap (packets_test s.senders s.network.bits s.network.senders s.head.clock s.waiting s.on_line s.lines) e

  -- ---- senders

  -- the test through the counts of the lines is the test
  pub by_counts : (count : ℕ) → count ≡ line_count s.network → s.network.senders ≤ 16 → (counts : List ℕ)
      → Counts 2048 (lines_of s.waiting s.on_line s.lines count) counts → (r : Bool)
      → r ≡ senders_test s.network.policy sizes s.head.clock (λ i. get_or counts i 0) s.network.senders s.senders s.togglers s.meters
      → r ≡ senders
  by_counts count e few counts c r q =
      q
      ∙ senders-same _ _ _ _ _ _ _ ways s.network.senders
      (λ i h. c.each i (omega arith) ∙ ap (λ (n : ℕ). lines_of s.waiting s.on_line s.lines n i) e)

  from_senders : senders ≡ true → (i : ℕ) → i < s.network.senders → SenderClauses s i (ways i)
  unfolding senders_test
  from_senders e i h = sender_clauses s i (ways i) (up_to-at s.network.senders _ e i h)

  to_senders : ((i : ℕ) → i < s.network.senders → SenderClauses s i (ways i)) → senders ≡ true
  unfolding senders_test
  to_senders all = up_to_i s.network.senders _ (λ i h. clauses_sender s i (ways i) (all i h))

  -- ---- the queue

  -- the test through the times of the links is the test
  module _ (links : List Queued) (t : LinkTimes (link_time s.lines s.on_line s.head.clock) (line_count s.network) links) where
    abbrev own : ℕ → Option Time
    own k = part_time s.network.senders (has_back s.network.back) links s.head.clock s.senders s.togglers k

    next-same : (next : Option ℕ)
        → next_test s.network.senders (has_back s.network.back) links s.head.clock s.senders s.togglers s.queue next
        ≡ next_fit s next
    unfolding next_test empty_test
    next-same None = refl
    next-same (Some j) = ap (same_time (Some s.head.clock)) (part_same s links t j)

    place_same : (k : ℕ) → place_test s.head.next s.head.clock k (queued_at s k) (own k) ≡ (place_held k && place_own k)
    unfolding place_test
    place_same k =
        ap₂ (λ (h : Bool) (u : Option Time). h && (is_next s.head.next k || same_time (queued_at s k) u)) (queued_same s (queued_at s k)) (part_same s links t k)

    links_same : queue_test s.network.senders (has_back s.network.back) links s.head.clock s.senders s.togglers s.queue s.head.next ≡ queue
    unfolding queue_test places_test
    links_same = ap₂ (λ (a b : Bool). a && b) (next-same s.head.next) (up_same _ _ queue_places (λ k h. place_same k))

  pub by_links : (count : ℕ) → count ≡ line_count s.network → (links : List Queued) → LinkTimes (link_time s.lines s.on_line s.head.clock) count links
      → (back : Bool) → back ≡ has_back s.network.back → (r : Bool)
      → r ≡ queue_test s.network.senders back links s.head.clock s.senders s.togglers s.queue s.head.next
      → r ≡ queue
  by_links count e links t back f r q =
      q
      ∙ ap (λ (b : Bool). queue_test s.network.senders b links s.head.clock s.senders s.togglers s.queue s.head.next) f
      ∙ links_same links (subst (λ (n : ℕ). LinkTimes (link_time s.lines s.on_line s.head.clock) n links) e t)

  from_queue : queue ≡ true → (next_fit s s.head.next ≡ true) × (up_to queue_places place_held ≡ true) × (up_to queue_places place_own ≡ true)
  from_queue e =
      let a = and_2 (next_fit s s.head.next) (up_to queue_places (λ k. place_held k && place_own k)) e in (
        a.0,
        up_to_i queue_places place_held (λ k h. both_l (place_held k) (place_own k) (up_to-at queue_places (λ j. place_held j && place_own j) a.1 k h)),
        up_to_i queue_places place_own (λ k h. both_r (place_held k) (place_own k) (up_to-at queue_places (λ j. place_held j && place_own j) a.1 k h)),
      )

  to_queue : next_fit s s.head.next ≡ true → up_to queue_places place_held ≡ true → up_to queue_places place_own ≡ true → queue ≡ true
  to_queue e f g =
      both_i (next_fit s s.head.next) (up_to queue_places (λ k. place_held k && place_own k)) e
      (up_to_i queue_places _ (λ k h. both_i (place_held k) (place_own k) (up_to-at queue_places place_held f k h) (up_to-at queue_places place_own g k h)))

  -- ---- the clauses of which several groups test a part

  abbrev each : (ℕ → Bool) → Bool
  each f = up_to s.network.senders f

  record HeldTimes : Type 0 where
    clock : clock_held s.head ≡ true
    earliest : each_line s (λ l. held (line_at s l).earliest_transmit) ≡ true
    waiting : each_line s (λ l. every (λ p. held p.sent_time) (waiting_packets s l)) ≡ true
    on_line : each_line s (λ l. every (λ p. held p.sent_time) (on_line_packets s l)) ≡ true
    due : each_line s (λ l. every (λ x. held x.due) (on_line_items s l)) ≡ true
    states : each (λ i. held_sender (sender_at s i).state) ≡ true
    toggles : each (λ i. held (toggler_at s i).next_toggle) ≡ true
    starts : each (λ i. held_if_any (meter_at s i).current_start) ≡ true
    queued : up_to queue_places place_held ≡ true

  to_held : HeldTimes → held_times_fit s ≡ true
  unfolding held_times_fit clock_held
  to_held h =
      both_i _ _
      (both_i _ _
      (both_i _ _
      (both_i _ _ (both_i _ _ (both_i _ _ (both_i _ _ (both_i _ _ h.clock h.earliest) h.waiting) h.on_line) h.due) h.states)
      h.toggles)
      h.starts)
      h.queued

  from_held : held_times_fit s ≡ true → HeldTimes
  unfolding held_times_fit clock_held
  from_held e =
      let a = clock_held s.head in
      let b = each_line s (λ l. held (line_at s l).earliest_transmit) in
      let c = each_line s (λ l. every (λ p. held p.sent_time) (waiting_packets s l)) in
      let d = each_line s (λ l. every (λ p. held p.sent_time) (on_line_packets s l)) in
      let f = each_line s (λ l. every (λ x. held x.due) (on_line_items s l)) in
      let g = each (λ i. held_sender (sender_at s i).state) in
      let h = each (λ i. held (toggler_at s i).next_toggle) in
      let k = each (λ i. held_if_any (meter_at s i).current_start) in
      let l = up_to queue_places place_held in
      let y = and_5 (a && b && c && d && f) g h k l e in
      let x = and_5 a b c d f y.0 in
      record { clock = x.0; earliest = x.1; waiting = x.2; on_line = x.3; due = x.4; states = y.1; toggles = y.2; starts = y.3; queued = y.4 }

  record Past : Type 0 where
    waiting : each_line s (λ l. every (λ p. since_start s p.sent_time) (waiting_packets s l)) ≡ true
    on_line : each_line s (λ l. every (λ p. since_start s p.sent_time) (on_line_packets s l)) ≡ true
    started : each (λ i. started_fit s (sender_at s i).state) ≡ true
    starts : each (λ i. meter_start_fit s (meter_at s i).current_start) ≡ true

  to_past : Past → past_fit s ≡ true
  unfolding past_fit
  to_past p = both_i _ _ (both_i _ _ (both_i _ _ p.waiting p.on_line) p.started) p.starts

  from_past : past_fit s ≡ true → Past
  unfolding past_fit
  from_past e =
      let x =
      and_4 (each_line s (λ l. every (λ p. since_start s p.sent_time) (waiting_packets s l)))
      (each_line s (λ l. every (λ p. since_start s p.sent_time) (on_line_packets s l)))
      (each (λ i. started_fit s (sender_at s i).state)) (each (λ i. meter_start_fit s (meter_at s i).current_start)) e in
      record { waiting = x.0; on_line = x.1; started = x.2; starts = x.3 }

  -- the clauses of the packets, line by line
  all_packets : ((l : ℕ) → there l → LinePackets l) → (packets_fit s ≡ true) × (bits_fit s ≡ true) × (carried_fit s ≡ true) × (due_fit s ≡ true)
  unfolding packets_fit bits_fit carried_fit due_fit
  all_packets all = (
    each_line_lem _ (λ l h. both_i _ _ (all l h).waiting.known (all l h).on_line.known),
    each_line_lem _ (λ l h. (all l h).bits),
    each_line_lem _ (λ l h. (all l h).carried),
    each_line_lem _ (λ l h. (all l h).due),
  )

  line-packets : FitState s → HeldTimes → Past → (l : ℕ) → there l → LinePackets l
  unfolding packets_fit bits_fit carried_fit due_fit
  line-packets f t p l h =
      let known = and_2 (every (packet_fit s) (waiting_packets s l)) (every (packet_fit s) (on_line_packets s l)) (at-line _ f.packets l h) in
      record {
        waiting = record { known = known.0; times = at-line _ t.waiting l h; past = at-line _ p.waiting l h };
        carried = at-line _ f.carried l h;
        bits = at-line _ f.bits l h;
        on_line = record { known = known.1; times = at-line _ t.on_line l h; past = at-line _ p.on_line l h };
        due_held = at-line _ t.due l h;
        due = at-line _ f.due l h;
      }

  queue_parts : queue_fit s ≡ (next_fit s s.head.next && up_to queue_places place_own)
  unfolding queue_fit
  queue_parts = refl

  -- ---- the clauses of the senders

  all_senders : ((i : ℕ) → i < s.network.senders → SenderClauses s i (ways i)) → (totals_fit s ≡ true)
      × (sums_fit s ≡ true)
      × (records_fit s ≡ true)
      × (counts_fit s ≡ true)
      × (windows_fit s ≡ true)
      × (timers_fit s ≡ true)
      × (togglers_agree s ≡ true)
      × (meters_agree s ≡ true)
      × (meter_bits_fit s ≡ true)
  unfolding totals_fit sums_fit records_fit counts_fit windows_fit timers_fit togglers_agree meters_agree meter_bits_fit lines_of line_of
  all_senders c =
      let n = s.network.senders in (
        up_to_i n _ (λ i h. (c i h).total),
        up_to_i n _ (λ i h. (c i h).sum),
        up_to_i n _ (λ i h. (c i h).records),
        up_to_i n _ (λ i h. both_i _ _ (c i h).few (c i h).state.ack),
        up_to_i n _ (λ i h. (c i h).state.window),
        up_to_i n _ (λ i h. (c i h).state.timer),
        up_to_i n _ (λ i h. (c i h).toggler_on),
        up_to_i n _ (λ i h. (c i h).meter-on),
        up_to_i n _ (λ i h. (c i h).bits),
      )

  each-sender : FitState s → HeldTimes → Past → FitWords s → (i : ℕ) → i < s.network.senders → SenderClauses s i (ways i)
  unfolding totals_fit sums_fit records_fit counts_fit windows_fit timers_fit togglers_agree meters_agree meter_bits_fit lines_of line_of
  each-sender f t p w i h =
      let n = s.network.senders in
      let few = and_2 (leb (sender_at s i).packets_sent 16777216) (ack_fit (sender_at s i).state) (up_to-at n _ f.counts i h) in
      record {
        state = record {
          times = up_to-at n _ t.states i h;
          started = up_to-at n _ p.started i h;
          ack = few.1;
          window = up_to-at n _ f.windows i h;
          timer = up_to-at n _ f.timers i h;
        };
        toggle = up_to-at n _ t.toggles i h;
        meter-held = up_to-at n _ t.starts i h;
        meter-start = up_to-at n _ p.starts i h;
        total = up_to-at n _ f.totals i h;
        sum = up_to-at n _ f.sums i h;
        bits = up_to-at n _ f.meter-bits i h;
        few = few.0;
        records = up_to-at n _ f.records i h;
        toggler_on = up_to-at n _ f.togglers i h;
        meter-on = up_to-at n _ f.meters i h;
        words = up_to-at n _ w.senders i h;
        toggler_words_lem = up_to-at n _ w.togglers i h;
      }

  -- ---- all of them

  state_of : frame ≡ true → packets ≡ true → senders ≡ true → queue ≡ true → FitState s
  state_of a b d e =
      let n = s.network.senders in
      let f = from_frame a in
      let p = from_packets b in
      let c = from_senders d in
      let q = from_queue e in
      let x = all_senders c in
      let y = all_packets p in
      record {
        network = f.network;
        rings = to_rings (λ l h. (f.lines l h).rings);
        packets = y.0;
        bits = y.1;
        clock = f.clock;
        held = to_held
            (record {
              clock = f.clock-held;
              earliest = each_line_lem _ (λ l h. (f.lines l h).earliest);
              waiting = each_line_lem _ (λ l h. (p l h).waiting.times);
              on_line = each_line_lem _ (λ l h. (p l h).on_line.times);
              due = each_line_lem _ (λ l h. (p l h).due_held);
              states = up_to_i n _ (λ i h. (c i h).state.times);
              toggles = up_to_i n _ (λ i h. (c i h).toggle);
              starts = up_to_i n _ (λ i h. (c i h).meter-held);
              queued = q.1;
            });
        past = to_past
            (record {
              waiting = each_line_lem _ (λ l h. (p l h).waiting.past);
              on_line = each_line_lem _ (λ l h. (p l h).on_line.past);
              started = up_to_i n _ (λ i h. (c i h).state.started);
              starts = up_to_i n _ (λ i h. (c i h).meter-start);
            });
        totals = x.0;
        sums = x.1;
        records = x.2;
        due = y.3;
        counts = x.3;
        windows = x.4;
        timers = x.5;
        togglers = x.6;
        meters = x.7;
        meter-bits = x.8;
        queue = queue_parts ∙ both_i _ _ q.0 q.2;
        carried = y.2;
        words = words-joined s
            (record {
              link = each_line_lem _ (λ l h. (f.lines l h).words);
              senders = up_to_i n _ (λ i h. (c i h).words);
              togglers = up_to_i n _ (λ i h. (c i h).toggler_words_lem);
            });
      }

  fit_of : FitState s → fit s ≡ true
  unfolding fit
  fit_of f =
      rw (
        f.network,
        f.rings,
        f.packets,
        f.bits,
        f.clock,
        f.held,
        f.past,
        f.totals,
        f.sums,
        f.records,
        f.due,
        f.counts,
        f.windows,
        f.timers,
        f.togglers,
        f.meters,
        f.meter-bits,
        f.queue,
        f.carried,
        f.words,
      )

  tests_of : FitState s → (frame && packets && senders && queue) ≡ true
  tests_of f =
      let t = from_held f.held in
      let p = from_past f.past in
      let g = words_apart s f.words in
      let q = and_2 (next_fit s s.head.next) (up_to queue_places place_own) (sym queue_parts ∙ f.queue) in
      both_i (frame && packets && senders) queue
      (both_i (frame && packets) senders
      (both_i frame packets
      (to_frame
      (record {
        network = f.network;
        clock = f.clock;
        clock-held = t.clock;
        lines = λ l h. record { rings = from_rings f.rings l h; earliest = at-line _ t.earliest l h; words = at-line _ g.link l h };
      }))
      (to_packets (line-packets f t p)))
      (to_senders (each-sender f t p g)))
      (to_queue q.0 t.queued q.1)

  pub groups_fit : (frame && packets && senders && queue) ≡ fit s
  groups_fit =
      same_test (frame && packets && senders && queue) (fit s)
      (λ e. let a = and_4 frame packets senders queue e in fit_of (state_of a.0 a.1 a.2 a.3))
      (λ e. tests_of (fit-state s e))

  -- ---- the groups' tests, one after the other

  pub stops_frame : frame ≡ false → false ≡ fit s
  stops_frame e = rw (← groups_fit, e)

  module _ (a : frame ≡ true) where
    pub stops_packets : packets ≡ false → false ≡ fit s
    stops_packets e = rw (← groups_fit, a, e)

    module _ (b : packets ≡ true) where
      pub stops_senders : senders ≡ false → false ≡ fit s
      stops_senders e = rw (← groups_fit, a, b, e)

      pub ends_queue : senders ≡ true → (r : Bool) → r ≡ queue → r ≡ fit s
      ends_queue c r e = rw (← groups_fit, a, b, c, e)
