-- A packet that leaves, starts or arrives keeps the facts of its line, and a state with that line keeps its own, the queue apart. Assumes nothing.
use mathlib.Core.Path.{◌≡◌, refl, sym, ap, ap₂, subst, ◌∙◌}
use mathlib.Core.Bool.{true, false, cond}
use mathlib.Core.List.{List, [], ◌∷◌, ◌++◌, map}
use Prim.Native.Nat.{ℕ, ◌+◌, ◌≤◌, ◌<◌}
use native.Mathlib.Nat.{add-zero}
use native.Mathlib.Decide.{ℕ_discrete}
use native.Mathlib.Omega.{arith}
use borrow.Author.Tests.{leb-false, eqb-true}
use lib.Dec.{leb, eqb}
use lib.ListN.{get_or, set}
use lib.Ieee.{le}
use lib.Ieee.Bits.{is_true}
use Rattle.quantities.specs.declared.time.Time.{Time}
use Rattle.quantities.specs.Units.{span_of, rate_of, amount_of, amount_over_rate, span_after}
use Rattle.quantities.specs.Doubles.{power}
use Rattle.quantities.proofs.Order.{le_known_r, le_refl}
use Rattle.quantities.proofs.Ranges.{Within}
use Rattle.draws.specs.Draws.{unit_of}
use Rattle.draws.proofs.ZeroWords.{zero_words}
use Rattle.link.specs.declared.packet.Packet.{Packet}
use Rattle.link.specs.declared.packet.Waiting.{Waiting}
use Rattle.link.specs.declared.packet.Transit.{Transit}
use Rattle.link.specs.declared.link.Line.{Line}
use Rattle.link.specs.Ring.{places, slot_of, place_after, pushed, popped, items}
use Rattle.link.specs.Link.{admitted, departed, is_due, is_free, started_line}
use Rattle.link.proofs.Items.{items_push, items_pop, push_sound, pop_sound}
use Rattle.link.proofs.Limits.{due_count, free_count}
use Rattle.remy.specs.declared.network.RemyNetwork.{RemyNetwork}
use Rattle.remy.specs.declared.simulation.Simulation.{Simulation}
use Rattle.remy.specs.State.{has_back, line_count, values_of, no_waiting, no_transit, no_line, line_at, sender_at, meter_at, front_of, waiting_items, waiting_packets, on_line_items, on_line_packets, packet_bits, total_bits, with_line, with_waiting, with_on_line}
use Rattle.remy.specs.Tick.{waits_with}
use Rattle.remy.specs.Fit.{count_of, rising, under_way}
use Rattle.remy.proofs.Lists.{map_append, bits_append, All, all_append, all_map}
use Rattle.remy.proofs.Facts.{both_l, both_r, both_i, lines_few}
use Rattle.remy.proofs.Networks.{FitNetwork, fit-network, delay_within, sending-within}
use Rattle.remy.proofs.Steps.{cond_elim}
use Rattle.steady.proofs.Facts.{NotAfter, PacketOk, WaitsOk, TransitOk, LineOk, sent_of, all_under_way, Body, Loose}
use Rattle.steady.proofs.Lists.{count-append, sum_but}
use Rattle.steady.proofs.Stores.{Anew, set_at, Beside, beside_self, beside_set, beside_items}
use Rattle.steady.proofs.Times.{Early, new_held, new_ahead}

-- ---- lists with one member more at the end

count_end : (i : ℕ) (xs : List Packet) (p : Packet) → count_of i (xs ++ (p ∷ [])) ≡ count_of i xs + cond (eqb p.sender i) 1 0
count_end i xs p = count-append i xs (p ∷ []) ∙ ap (λ n. count_of i xs + n) (add-zero (cond (eqb p.sender i) 1 0))

rising-rest : (x : Transit) (xs : List Transit) → rising (x ∷ xs) ≡ true → rising xs ≡ true
rising-rest x [] e = refl
rising-rest x (y ∷ ys) e = both_r (le x.due.0.0 y.due.0.0) (rising (y ∷ ys)) e

rising_end : (y : Transit) (xs : List Transit) → rising xs ≡ true → All (λ x. NotAfter x.due y.due) xs → rising (xs ++ (y ∷ [])) ≡ true
rising_end y [] e a = refl
rising_end y (x ∷ []) e a = both_i (le x.due.0.0 y.due.0.0) true (is_true (le x.due.0.0 y.due.0.0) a.0) refl
rising_end y (x ∷ (z ∷ zs)) e a =
    both_i (le x.due.0.0 z.due.0.0) (rising ((z ∷ zs) ++ (y ∷ []))) (both_l (le x.due.0.0 z.due.0.0) (rising (z ∷ zs)) e)
    (rising_end y (z ∷ zs) (both_r (le x.due.0.0 z.due.0.0) (rising (z ∷ zs)) e) a.1)

-- ---- a line anew

-- how many packets of sender i line l has, where x is held for it
abbrev pub count_in : ℕ → ℕ → Line → List Waiting → List Transit → ℕ
count_in i l x waiting moving =
    count_of i (map (λ y. y.packet) (items no_waiting waiting l x.waiting)) + count_of i (map (λ y. y.packet) (items no_transit moving l x.on_line))

-- x for line l, and slots that differ from the state's in ring l alone
pub record LineNew (s : Simulation) (l : ℕ) (x : Line) (waiting : List Waiting) (moving : List Transit) : Type 0 where
  pub ok : LineOk s.network (sent_of s) s.head.clock l x waiting moving
  pub waits : Beside no_waiting s.waiting l waiting
  pub moves : Beside no_transit s.on_line l moving

-- the state with them
abbrev pub renewed : Simulation → ℕ → Line → List Waiting → List Transit → Simulation
renewed s l x waiting moving = with_line (with_on_line (with_waiting s waiting) moving) l x

-- another line keeps its facts
line_beside : (net : RemyNetwork) (sent : ℕ → ℕ) (clock : Time) (l m : ℕ) (x : Line) {waiting waiting' : List Waiting} {moving moving' : List Transit}
    → Beside no_waiting waiting l waiting' → Beside no_transit moving l moving' → (m ≡ l → ⊥) → LineOk net sent clock m x waiting moving → LineOk net sent clock m x waiting' moving'
line_beside net sent clock l m x {waiting} {waiting'} {moving} {moving'} w v other k =
    let waits : items no_waiting waiting m x.waiting ≡ items no_waiting waiting' m x.waiting = sym (beside_items no_waiting waiting l w m x.waiting other) in
    let moves : items no_transit moving m x.on_line ≡ items no_transit moving' m x.on_line = sym (beside_items no_transit moving l v m x.on_line other) in
    record {
      waits = w.sound k.waits;
      moves = v.sound k.moves;
      bits = k.bits ∙ ap total_bits waits;
      waiting_ok = subst (All (WaitsOk net sent clock)) waits k.waiting_ok;
      moving_ok = subst (All (TransitOk net sent clock m)) moves k.moving_ok;
      order = subst (λ (xs : List Transit). rising xs ≡ true) moves k.order;
      free = k.free;
      words = k.words;
    }

module _ (s : Simulation) (b : Body s) (l : ℕ) (h : l < line_count s.network) (x : Line) (waiting : List Waiting) (moving : List Transit) (new : LineNew s l x waiting moving) where
  line_set : Anew no_line s.lines l x (set s.lines l x)
  line_set = set_at no_line s.lines l x (let full = b.full.lines in let few = lines_few (has_back s.network.back) in omega (arith, h, full, few))

  line-at : (m : ℕ) → m < line_count s.network → Dec (m ≡ l)
      → LineOk s.network (sent_of s) s.head.clock m (get_or (set s.lines l x) m no_line) waiting moving
  line-at m g (yes same) =
      subst (λ (k : ℕ). LineOk s.network (sent_of s) s.head.clock k (get_or (set s.lines l x) k no_line) waiting moving) (sym same)
      (subst (λ (y : Line). LineOk s.network (sent_of s) s.head.clock l y waiting moving) (sym line_set.at) new.ok)
  line-at m g (no other) =
      subst (λ (y : Line). LineOk s.network (sent_of s) s.head.clock m y waiting moving) (sym (line_set.others m other))
      (line_beside s.network (sent_of s) s.head.clock l m (line_at s m) new.waits new.moves other (b.lines m g))

  same_count : (i m : ℕ) → (m ≡ l → ⊥) → under_way (renewed s l x waiting moving) i m ≡ under_way s i m
  same_count i m other =
      ap (λ (y : Line). count_in i m y waiting moving) (line_set.others m other)
      ∙ ap₂ (λ (ws : List Waiting) (vs : List Transit). count_of i (map (λ y. y.packet) ws) + count_of i (map (λ y. y.packet) vs))
      (beside_items no_waiting s.waiting l new.waits m (line_at s m).waiting other) (beside_items no_transit s.on_line l new.moves m (line_at s m).on_line other)

  all_count : (i : ℕ) → all_under_way (renewed s l x waiting moving) i + under_way s i l ≡ all_under_way s i + count_in i l x waiting moving
  all_count i =
      sum_but (under_way s i) (under_way (renewed s l x waiting moving) i) l (same_count i) (line_count s.network) h
      ∙ ap (λ (y : Line). all_under_way s i + count_in i l y waiting moving) line_set.at

  pub line-body : ((i : ℕ) → i < s.network.senders → (meter_at s i).records + all_under_way s i + count_in i l x waiting moving ≤ (sender_at s i).packets_sent + under_way s i l)
      → Body (renewed s l x waiting moving)
  line-body room =
      record {
        full = record {
          lines = line_set.size ∙ b.full.lines;
          waiting = new.waits.size ∙ b.full.waiting;
          moving = new.moves.size ∙ b.full.moving;
          senders = b.full.senders;
          togglers = b.full.togglers;
          meters = b.full.meters;
          queue = b.full.queue;
        };
        network = b.network;
        clock = b.clock;
        held = b.held;
        lines = λ m g. line-at m g (ℕ_discrete m l);
        parts = b.parts;
        records = λ i g. omega (arith, room i g, all_count i);
      }

  -- a packet that the line has no more
  pub line_loose : (p : Packet) → PacketOk s.network.senders (sent_of s) s.head.clock p
      → count_in p.sender l x waiting moving + 1 ≤ under_way s p.sender l → Loose (renewed s l x waiting moving) p
  line_loose p ok fewer = record { packet = ok; room = omega (arith, b.records p.sender ok.own, fewer, all_count p.sender) }

-- ---- the steps

-- the first packet that waits where x is held for line l, that packet on the line from the clock on, and the line and its slots then
abbrev pub first_by : Simulation → ℕ → Line → Waiting
first_by s l x = get_or s.waiting (slot_of l x.waiting.start) no_waiting

abbrev pub begun : Simulation → ℕ → Line → Transit
begun s l x = record { packet = (first_by s l x).packet; due = span_after s.head.clock (span_of (values_of s.network l).delay) }

abbrev pub started : Simulation → ℕ → Line → Line
started s l x = started_line x (first_by s l x).bits (span_after s.head.clock (amount_over_rate (first_by s l x).bits (rate_of (values_of s.network l).rate)))

abbrev pub with_begun : Simulation → ℕ → Line → List Transit
with_begun s l x = set s.on_line (slot_of l (place_after x.on_line)) (begun s l x)

-- the slots with a packet at the end of those that wait
abbrev pub with_arrived : Simulation → ℕ → Packet → List Waiting
with_arrived s l p = set s.waiting (slot_of l (place_after (line_at s l).waiting)) (waits_with s p)

module _ (s : Simulation) (b : Body s) (l : ℕ) (h : l < line_count s.network) where
  -- the line as it is
  pub line_now : LineNew s l (line_at s l) s.waiting s.on_line
  line_now = record { ok = b.lines l h; waits = beside_self no_waiting s.waiting l; moves = beside_self no_transit s.on_line l }

  -- ---- the first packet on the line leaves
  module _ (e : is_due (line_at s l) s.head.clock (front_of s l) ≡ true) where
    behind : List Transit
    behind = items no_transit s.on_line l (popped (line_at s l).on_line)

    some_move : 0 < (line_at s l).on_line.count
    some_move = due_count (line_at s l) s.head.clock (front_of s l) e

    split_moving : on_line_items s l ≡ front_of s l ∷ behind
    unfolding behind
    split_moving = items_pop (b.lines l h).moves no_transit some_move

    moving_now : All (TransitOk s.network (sent_of s) s.head.clock l) (front_of s l ∷ behind)
    moving_now = subst (All (TransitOk s.network (sent_of s) s.head.clock l)) split_moving (b.lines l h).moving_ok

    pub leave_line : LineNew s l (departed (line_at s l)) s.waiting s.on_line
    unfolding behind
    leave_line =
        let k = b.lines l h in
        record {
          ok =
              record {
                waits = k.waits;
                moves = pop_sound k.moves some_move;
                bits = k.bits;
                waiting_ok = k.waiting_ok;
                moving_ok = moving_now.1;
                order = rising-rest (front_of s l) behind (subst (λ (xs : List Transit). rising xs ≡ true) split_moving k.order);
                free = k.free;
                words = unfold unit_of in zero_words.step (line_at s l).rng k.words;
              };
          waits = line_now.waits;
          moves = line_now.moves;
        }

    pub leave_packet : PacketOk s.network.senders (sent_of s) s.head.clock (front_of s l).packet
    leave_packet = moving_now.0.packet

    pub leave_count : (i : ℕ) → count_in i l (departed (line_at s l)) s.waiting s.on_line + cond (eqb (front_of s l).packet.sender i) 1 0 ≡ under_way s i l
    unfolding behind
    leave_count i =
        let fewer : count_of i (on_line_packets s l) ≡ cond (eqb (front_of s l).packet.sender i) 1 0 + count_of i (map (λ x. x.packet) behind) =
        ap (λ (xs : List Transit). count_of i (map (λ x. x.packet) xs)) split_moving in
        omega (arith, fewer)

  -- ---- the first packet that waits starts, on a line that one may have left
  module _ (early : Early s.head.clock) (x : Line) (now : LineNew s l x s.waiting s.on_line) (e : is_free x s.head.clock ≡ true)
      (room : leb places x.on_line.count ≡ false) where
    ok : FitNetwork s.network
    ok = fit-network s.network b.network

    still : List Waiting
    still = items no_waiting s.waiting l (popped x.waiting)

    some_wait : 0 < x.waiting.count
    some_wait = free_count x s.head.clock e

    split_waiting : items no_waiting s.waiting l x.waiting ≡ first_by s l x ∷ still
    unfolding still
    split_waiting = items_pop now.ok.waits no_waiting some_wait

    waiting_now : All (WaitsOk s.network (sent_of s) s.head.clock) (first_by s l x ∷ still)
    waiting_now = subst (All (WaitsOk s.network (sent_of s) s.head.clock)) split_waiting now.ok.waiting_ok

    -- it carries its sender's bits, so the time that it takes to start is small
    sends-within : Within (amount_over_rate (first_by s l x).bits (rate_of (values_of s.network l).rate)).0 (power 40)
    sends-within =
        subst (λ (n : ℕ). Within (amount_over_rate (amount_of n) (rate_of (values_of s.network l).rate)).0 (power 40)) (sym waiting_now.0.carries)
        (sending-within ok l (first_by s l x).packet.sender waiting_now.0.packet.own)

    grown-moving : items no_transit (with_begun s l x) l (pushed x.on_line) ≡ items no_transit s.on_line l x.on_line ++ (begun s l x ∷ [])
    grown-moving = items_push now.ok.moves no_transit (begun s l x) (leb-false places x.on_line.count room)

    begun_ok : TransitOk s.network (sent_of s) s.head.clock l (begun s l x)
    begun_ok =
        let span = span_of (values_of s.network l).delay in
        let ahead : NotAfter s.head.clock (begun s l x).due = new_ahead s.head.clock span early (delay_within ok l) in
        record {
          packet = waiting_now.0.packet;
          held = new_held s.head.clock span early (delay_within ok l);
          ahead = ahead;
          soon = le_refl (begun s l x).due.0.0 (le_known_r s.head.clock.0.0 (begun s l x).due.0.0 ahead);
        }

    pub start-line : LineNew s l (started s l x) s.waiting (with_begun s l x)
    unfolding still
    start-line =
        let k = now.ok in
        let Ok : Transit → Type 0 = TransitOk s.network (sent_of s) s.head.clock l in
        let moving : List Transit = items no_transit s.on_line l x.on_line in
        let total : x.buffer_contains.0 ≡ (first_by s l x).bits.0 + total_bits still = k.bits ∙ ap total_bits split_waiting in
        record {
          ok =
              record {
                waits = pop_sound k.waits some_wait;
                moves = push_sound k.moves (begun s l x) (leb-false places x.on_line.count room);
                bits = omega (arith, total);
                waiting_ok = waiting_now.1;
                moving_ok = subst (All Ok) (sym grown-moving) (all_append Ok moving (begun s l x ∷ []) k.moving_ok (begun_ok, tt));
                order =
                    subst (λ (xs : List Transit). rising xs ≡ true) (sym grown-moving)
                    (rising_end (begun s l x) moving k.order (all_map Ok (λ y. NotAfter y.due (begun s l x).due) (λ y q. q.soon) moving k.moving_ok));
                free = new_held s.head.clock _ early sends-within;
                words = k.words;
              };
          waits = now.waits;
          moves = beside_set no_transit s.on_line l (place_after x.on_line) (begun s l x) (omega arith);
        }

    -- the line has as many as before
    pub start-count : (i : ℕ) → count_in i l (started s l x) s.waiting (with_begun s l x) ≡ count_in i l x s.waiting s.on_line
    unfolding still
    start-count i =
        let one : ℕ = cond (eqb (first_by s l x).packet.sender i) 1 0 in
        let moving : List Transit = items no_transit s.on_line l x.on_line in
        let fewer : count_of i (map (λ y. y.packet) (items no_waiting s.waiting l x.waiting)) ≡ one + count_of i (map (λ y. y.packet) still) =
        ap (λ (xs : List Waiting). count_of i (map (λ y. y.packet) xs)) split_waiting in
        let more : count_of i (map (λ y. y.packet) (items no_transit (with_begun s l x) l (pushed x.on_line))) ≡ count_of i (map (λ y. y.packet) moving) + one =
        ap (λ (xs : List Transit). count_of i (map (λ y. y.packet) xs)) grown-moving
        ∙ ap (count_of i) (map_append (λ (y : Transit). y.packet) moving (begun s l x ∷ []))
        ∙ count_end i (map (λ y. y.packet) moving) (first_by s l x).packet in
        omega (arith, fewer, more)

  -- ---- a loose packet is put at the end of those that wait
  module _ (p : Packet) (loose : Loose s p) (room : leb places (line_at s l).waiting.count ≡ false) where
    grown-waiting : items no_waiting (with_arrived s l p) l (pushed (line_at s l).waiting) ≡ waiting_items s l ++ (waits_with s p ∷ [])
    grown-waiting = items_push (b.lines l h).waits no_waiting (waits_with s p) (leb-false places (line_at s l).waiting.count room)

    pub arrive_line : LineNew s l (admitted (line_at s l) (packet_bits s.network p)) (with_arrived s l p) s.on_line
    arrive_line =
        let k = b.lines l h in
        let new = waits_with s p in
        let Ok : Waiting → Type 0 = WaitsOk s.network (sent_of s) s.head.clock in
        let total : total_bits (items no_waiting (with_arrived s l p) l (pushed (line_at s l).waiting)) ≡ total_bits (waiting_items s l) + (new.bits.0 + 0) =
        ap total_bits grown-waiting ∙ bits_append (waiting_items s l) (new ∷ []) in
        record {
          ok =
              record {
                waits = push_sound k.waits new (leb-false places (line_at s l).waiting.count room);
                moves = k.moves;
                bits = omega (arith, k.bits, total);
                waiting_ok = subst (All Ok) (sym grown-waiting) (all_append Ok (waiting_items s l) (new ∷ []) k.waiting_ok (record { packet = loose.packet; carries = refl }, tt));
                moving_ok = k.moving_ok;
                order = k.order;
                free = k.free;
                words = k.words;
              };
          waits = beside_set no_waiting s.waiting l (place_after (line_at s l).waiting) new (omega arith);
          moves = line_now.moves;
        }

    -- each sender has room for what of it arrives
    room_for : (i : ℕ) → i < s.network.senders → (meter_at s i).records + all_under_way s i + cond (eqb p.sender i) 1 0 ≤ (sender_at s i).packets_sent
    room_for i g =
        cond_elim (λ (n : ℕ). (meter_at s i).records + all_under_way s i + n ≤ (sender_at s i).packets_sent) (eqb p.sender i) 1 0
        (λ own. subst (λ (j : ℕ). (meter_at s j).records + all_under_way s j + 1 ≤ (sender_at s j).packets_sent) (eqb-true p.sender i own) loose.room)
        (λ other. omega (arith, b.records i g))

    pub arrive_room : (i : ℕ) → i < s.network.senders
        → (meter_at s i).records + all_under_way s i + count_in i l (admitted (line_at s l) (packet_bits s.network p)) (with_arrived s l p) s.on_line
        ≤ (sender_at s i).packets_sent + under_way s i l
    arrive_room i g =
        let more : count_of i (map (λ x. x.packet) (items no_waiting (with_arrived s l p) l (pushed (line_at s l).waiting))) ≡ count_of i (waiting_packets s l) + cond (eqb p.sender i) 1 0 =
        ap (λ (xs : List Waiting). count_of i (map (λ x. x.packet) xs)) grown-waiting
        ∙ ap (count_of i) (map_append (λ (x : Waiting). x.packet) (waiting_items s l) (waits_with s p ∷ []))
        ∙ count_end i (waiting_packets s l) p in
        omega (arith, room_for i g, more)
