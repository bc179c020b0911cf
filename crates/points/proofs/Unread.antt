-- No stop of a network and no clause of fit reads the bits of places from the number of senders on, and no clause what is held past the network's lines. Assumes nothing.
use Rattle.std.proofs.Common.{Option, Some, None}
use mathlib.Core.Path.{◌≡◌, refl, sym, ap, ap₂, ◌∙◌}
use mathlib.Core.Bool.{Bool, true, false, not, ◌&&◌, ◌||◌}
use mathlib.Core.List.{List, [], ◌∷◌, map}
use Prim.Native.Nat.{ℕ, zero, suc, ◌+◌, ◌*◌, ◌%◌, ◌<◌}
use native.Mathlib.Omega.{arith}
use borrow.Author.Tests.{ltb-true}
use lib.Dec.{leb, ltb, eqb}
use lib.ListN.{get_or}
use Rattle.quantities.specs.declared.time.Time.{Time}
use Rattle.draws.specs.Generator.{all_zero}
use Rattle.link.specs.declared.packet.Waiting.{Waiting}
use Rattle.link.specs.declared.packet.Transit.{Transit}
use Rattle.link.specs.declared.link.Line.{Line}
use Rattle.link.specs.Ring.{places, slot_of, items_from, items}
use Rattle.link.specs.Link.{next_tick}
use Rattle.sender.specs.declared.lossy.SenderState.{SenderState}
use Rattle.sender.specs.declared.lossy.SenderState.TheVariants as State
use Rattle.toggler.specs.Queue.{queue_places}
use Rattle.remy.specs.declared.network.RemyNetwork.{RemyNetwork}
use Rattle.remy.specs.declared.simulation.Simulation.{Simulation}
use Rattle.remy.specs.Network.{up_to, between, network_stop}
use Rattle.remy.specs.State.{line_count, Role, link, bouncer, sender, toggler, nobody, no_waiting, no_transit, line_at, sender_at, meter_at, queued_at, front_of, waiting_items, waiting_packets, on_line_items, on_line_packets, total_bits}
use Rattle.remy.specs.Queue.{own_time, next_time_of}
use Rattle.remy.specs.Fit.{every, packet_fit, held, held_queued, is_next, since_start, started_fit, meter_start_fit, same_time, next_fit, carries, count_of, sum_to, under_way, rising, network_fit, rings_fit, packets_fit, bits_fit, clock_fit, held_times_fit, past_fit, totals_fit, sums_fit, records_fit, due_fit, counts_fit, windows_fit, timers_fit, togglers_agree, meters_agree, meter_bits_fit, queue_fit, carried_fit, words_fit, fit}
use Rattle.remy.proofs.Facts.{both_l, both_r, up_to-at, fit-state}
use Rattle.remy.proofs.Fresh.{up_to_intro, fit_intro}
use Rattle.remy.proofs.Roles.{Real, role_at}
use Rattle.points.specs.Unfit.{with_network, with_held, SameHeld}
use Rattle.points.specs.Sizes.{with_bits_of, SameBits}

-- two tests that agree below n
up_to-same : (n : ℕ) (f g : ℕ → Bool) → ((i : ℕ) → i < n → f i ≡ g i) → up_to n f ≡ up_to n g
up_to-same zero f g h = refl
up_to-same (suc n) f g h = rw (up_to-same n f g (λ i k. h i (omega arith)), h n (omega arith))

pub stop_unread : (n : RemyNetwork) (x : List ℕ) → SameBits n x → network_stop (with_bits_of n x) ≡ network_stop n
unfolding network_stop
stop_unread n x same =
    rw (up_to-same n.senders (λ i. between 1 16777216 (get_or x i 0)) (λ i. between 1 16777216 (get_or n.bits i 0)) (λ i h. ap (between 1 16777216) (same i h)))

-- two numbers that agree at each line below n
sum_to-same : (n : ℕ) (f g : ℕ → ℕ) → ((l : ℕ) → l < n → f l ≡ g l) → sum_to n f ≡ sum_to n g
sum_to-same zero f g h = refl
sum_to-same (suc n) f g h = rw (sum_to-same n f g (λ l k. h l (omega arith)), h n (omega arith))

-- the items of a ring that is there
items-same : {A : Type 0} (d : A) (xs ys : List A) (n : ℕ) → ((k : ℕ) → k < places * n → get_or xs k d ≡ get_or ys k d)
    → (l : ℕ) → l < n → (at count : ℕ) → items_from d xs l at count ≡ items_from d ys l at count
items-same d xs ys n same l there at zero = refl
items-same d xs ys n same l there at (suc count) =
    ap₂ (λ y (zs : List _). y ∷ zs) (same (slot_of l (at % places)) (omega (arith, there))) (items-same d xs ys n same l there (at + 1) count)

module _ (s : Simulation) (x : List ℕ) (lines : List Line) (waiting : List Waiting) (on_line : List Transit) (same : SameBits s.network x) (kept : SameHeld s lines waiting on_line) where
  abbrev other : Simulation
  other = with_held (with_network s (with_bits_of s.network x)) lines waiting on_line

  abbrev count : ℕ
  count = line_count s.network

  waiting-same : (l : ℕ) → l < count → waiting_items other l ≡ waiting_items s l
  waiting-same l h =
      ap (λ y. items no_waiting waiting l y.waiting) (kept.line l h)
      ∙ items-same no_waiting waiting s.waiting count kept.waits l h (line_at s l).waiting.start (line_at s l).waiting.count

  moving_same : (l : ℕ) → l < count → on_line_items other l ≡ on_line_items s l
  moving_same l h =
      ap (λ y. items no_transit on_line l y.on_line) (kept.line l h)
      ∙ items-same no_transit on_line s.on_line count kept.moves l h (line_at s l).on_line.start (line_at s l).on_line.count

  -- a test of each line, of what waits for it, of what is on it
  line_same : (f : Line → Bool) → up_to count (λ l. f (line_at other l)) ≡ up_to count (λ l. f (line_at s l))
  line_same f = up_to-same count (λ l. f (line_at other l)) (λ l. f (line_at s l)) (λ l h. ap f (kept.line l h))

  waits-same : (f : List Waiting → Bool) → up_to count (λ l. f (waiting_items other l)) ≡ up_to count (λ l. f (waiting_items s l))
  waits-same f = up_to-same count (λ l. f (waiting_items other l)) (λ l. f (waiting_items s l)) (λ l h. ap f (waiting-same l h))

  moves-same : (f : List Transit → Bool) → up_to count (λ l. f (on_line_items other l)) ≡ up_to count (λ l. f (on_line_items s l))
  moves-same f = up_to-same count (λ l. f (on_line_items other l)) (λ l. f (on_line_items s l)) (λ l h. ap f (moving_same l h))

  rings_same : rings_fit other ≡ rings_fit s
  unfolding rings_fit
  rings_same = line_same (λ y. leb y.waiting.count places && leb y.on_line.count places && ltb y.waiting.start places && ltb y.on_line.start places)

  packets-same : packets_fit other ≡ packets_fit s
  unfolding packets_fit
  packets-same =
      let test : List Waiting → List Transit → Bool = λ xs ys. every (packet_fit s) (map (λ y. y.packet) xs) && every (packet_fit s) (map (λ y. y.packet) ys) in
      up_to-same count (λ l. test (waiting_items other l) (on_line_items other l)) (λ l. test (waiting_items s l) (on_line_items s l))
      (λ l h. ap₂ test (waiting-same l h) (moving_same l h))

  bits_same : bits_fit other ≡ bits_fit s
  unfolding bits_fit
  bits_same =
      let test : Line → List Waiting → Bool = λ y xs. eqb y.buffer_contains.0 (total_bits xs) in
      up_to-same count (λ l. test (line_at other l) (waiting_items other l)) (λ l. test (line_at s l) (waiting_items s l)) (λ l h. ap₂ test (kept.line l h) (waiting-same l h))

  records_same : records_fit other ≡ records_fit s
  unfolding records_fit
  records_same =
      let found : ℕ → List Waiting → List Transit → ℕ = λ i xs ys. count_of i (map (λ y. y.packet) xs) + count_of i (map (λ y. y.packet) ys) in
      up_to-same s.network.senders
      (λ i. leb ((meter_at s i).records + sum_to count (under_way other i)) (sender_at s i).packets_sent)
      (λ i. leb ((meter_at s i).records + sum_to count (under_way s i)) (sender_at s i).packets_sent)
      (λ i h.
      ap (λ n. leb ((meter_at s i).records + n) (sender_at s i).packets_sent)
      (sum_to-same count (under_way other i) (under_way s i) (λ l k. ap₂ (found i) (waiting-same l k) (moving_same l k))))

  due_same : due_fit other ≡ due_fit s
  unfolding due_fit
  due_same = moves-same rising

  words_same : words_fit other ≡ words_fit s
  unfolding words_fit
  words_same = rw (line_same (λ y. not (all_zero y.rng)))

  -- a packet of one of the senders carries its bits by either
  carried_same : (xs : List Waiting) → every (packet_fit s) (map (λ y. y.packet) xs) ≡ true → every (carries s) xs ≡ true → every (carries other) xs ≡ true
  carried_same [] e c = refl
  carried_same (y ∷ ys) e c =
      let first = packet_fit s y.packet in
      let rest = every (packet_fit s) (map (λ z. z.packet) ys) in
      let there : y.packet.sender < s.network.senders =
      ltb-true y.packet.sender s.network.senders
      (both_l (ltb y.packet.sender s.network.senders) (between 1 (sender_at s y.packet.sender).packets_sent y.packet.seq) (both_l first rest e)) in
      let own : carries other y ≡ true = ap (eqb y.bits.0) (same y.packet.sender there) ∙ both_l (carries s y) (every (carries s) ys) c in
      rw (own, carried_same ys (both_r first rest e) (both_r (carries s y) (every (carries s) ys) c))

  -- tests that go by cases, and read neither
  queued_same : (o : Option Time) → held_queued other o ≡ held_queued s o
  queued_same None = refl
  queued_same (Some t) = refl

  started-same : (y : SenderState) → started_fit other y ≡ started_fit s y
  started-same State.WaitingForEnable = refl
  started-same (State.Enabled e) = refl

  start-same : (o : Option Time) → meter_start_fit other o ≡ meter_start_fit s o
  start-same None = refl
  start-same (Some t) = refl

  held_same : held_times_fit other ≡ held_times_fit s
  unfolding held_times_fit
  held_same =
      rw (
        line_same (λ y. held y.earliest_transmit),
        waits-same (λ xs. every (λ p. held p.sent_time) (map (λ y. y.packet) xs)),
        moves-same (λ xs. every (λ p. held p.sent_time) (map (λ y. y.packet) xs)),
        moves-same (λ xs. every (λ y. held y.due) xs),
        up_to-same queue_places (λ k. held_queued other (queued_at s k)) (λ k. held_queued s (queued_at s k)) (λ k h. queued_same (queued_at s k)),
      )

  past_same : past_fit other ≡ past_fit s
  unfolding past_fit
  past_same =
      rw (
        waits-same (λ xs. every (λ p. since_start s p.sent_time) (map (λ y. y.packet) xs)),
        moves-same (λ xs. every (λ p. since_start s p.sent_time) (map (λ y. y.packet) xs)),
        up_to-same s.network.senders (λ i. started_fit other (sender_at s i).state) (λ i. started_fit s (sender_at s i).state) (λ i h. started-same (sender_at s i).state),
        up_to-same s.network.senders (λ i. meter_start_fit other (meter_at s i).current_start) (λ i. meter_start_fit s (meter_at s i).current_start)
            (λ i h. start-same (meter_at s i).current_start),
      )

  -- where the rings' starts are in range, the front of a line is one of its slots
  module _ (sound : rings_fit s ≡ true) where
    start-within : (l : ℕ) → l < count → (line_at s l).on_line.start < places
    unfolding rings_fit
    start-within l h =
        let y = line_at s l in
        ltb-true y.on_line.start places
        (both_r (leb y.waiting.count places && leb y.on_line.count places && ltb y.waiting.start places) (ltb y.on_line.start places)
        (up_to-at count
        (λ j. leb (line_at s j).waiting.count places && leb (line_at s j).on_line.count places && ltb (line_at s j).waiting.start places && ltb (line_at s j).on_line.start places)
        sound l h))

    front_same : (l : ℕ) → l < count → front_of other l ≡ front_of s l
    front_same l h =
        let within = start-within l h in
        ap (λ y. get_or on_line (slot_of l y.on_line.start) no_transit) (kept.line l h) ∙ kept.moves (slot_of l (line_at s l).on_line.start) (omega (arith, within, h))

    own_same : (role : Role) → Real s.network role → own_time other role ≡ own_time s role
    unfolding own_time
    own_same (link l) there = ap₂ (λ y z. next_tick y s.head.clock z.due) (kept.line l there) (front_same l there)
    own_same bouncer there = refl
    own_same (sender i) there = refl
    own_same (toggler i) there = refl
    own_same nobody there = refl

    part_same : (k : ℕ) → next_time_of other k ≡ next_time_of s k
    unfolding own_time
    part_same k = role_at (λ role. own_time other role ≡ own_time s role) s.network k (λ role there e. own_same role there) refl

    next-same : (y : Option ℕ) → next_fit other y ≡ next_fit s y
    next-same None = refl
    next-same (Some j) = ap (same_time (Some s.head.clock)) (part_same j)

    queue-same : queue_fit other ≡ queue_fit s
    unfolding queue_fit
    queue-same =
        let place : (ℕ → Option Time) → ℕ → Bool = λ own k. is_next s.head.next k || same_time (queued_at s k) (own k) in
        ap₂ (λ (a b : Bool). a && b) (next-same s.head.next)
        (up_to-same queue_places (place (next_time_of other)) (place (next_time_of s)) (λ k h. ap (λ o. is_next s.head.next k || same_time (queued_at s k) o) (part_same k)))

  fit_kept : fit s ≡ true → fit other ≡ true
  unfolding network_fit packets_fit clock_fit totals_fit sums_fit counts_fit windows_fit timers_fit togglers_agree meters_agree meter_bits_fit carried_fit
  fit_kept e =
      let f = fit-state s e in
      fit_intro other (ap (λ n. eqb n 0) (stop_unread s.network x same) ∙ f.network) (rings_same ∙ f.rings) (packets-same ∙ f.packets) (bits_same ∙ f.bits) f.clock (held_same ∙ f.held)
      (past_same ∙ f.past) f.totals f.sums (records_same ∙ f.records) (due_same ∙ f.due) f.counts f.windows f.timers f.togglers f.meters
      (up_to-same s.network.senders (λ i. eqb (meter_at s i).total.0 ((meter_at s i).records * get_or x i 0))
      (λ i. eqb (meter_at s i).total.0 ((meter_at s i).records * get_or s.network.bits i 0)) (λ i h. ap (λ b. eqb (meter_at s i).total.0 ((meter_at s i).records * b)) (same i h))
      ∙ f.meter-bits)
      (queue-same f.rings ∙ f.queue)
      (waits-same (every (carries other))
      ∙ up_to_intro count (λ l. every (carries other) (waiting_items s l))
      (λ l h.
      carried_same (waiting_items s l)
      (both_l (every (packet_fit s) (waiting_packets s l)) (every (packet_fit s) (on_line_packets s l))
      (up_to-at count (λ k. every (packet_fit s) (waiting_packets s k) && every (packet_fit s) (on_line_packets s k)) f.packets l h))
      (up_to-at count (λ k. every (carries s) (waiting_items s k)) f.carried l h)))
      (words_same ∙ f.words)

-- two tests of which each passes where the other does
alike : (a b : Bool) → (a ≡ true → b ≡ true) → (b ≡ true → a ≡ true) → a ≡ b
alike true b f g = sym (f refl)
alike false true f g = g refl
alike false false f g = refl

fit_same : (s : Simulation) (x : List ℕ) (lines : List Line) (waiting : List Waiting) (on_line : List Transit) → SameBits s.network x → SameHeld s lines waiting on_line
    → fit (with_held (with_network s (with_bits_of s.network x)) lines waiting on_line) ≡ fit s
fit_same s x lines waiting on_line same kept =
    let other = with_held (with_network s (with_bits_of s.network x)) lines waiting on_line in
    alike (fit other) (fit s)
    (fit_kept other s.network.bits s.lines s.waiting s.on_line (λ i h. sym (same i h))
    (record { line = λ l h. sym (kept.line l h); waits = λ k h. sym (kept.waits k h); moves = λ k h. sym (kept.moves k h) }))
    (fit_kept s x lines waiting on_line same kept)

pub fit_unread : (s : Simulation) (x : List ℕ) → SameBits s.network x → fit (with_network s (with_bits_of s.network x)) ≡ fit s
fit_unread s x same = fit_same s x s.lines s.waiting s.on_line same (record { line = λ l h. refl; waits = λ k h. refl; moves = λ k h. refl })

pub lines_unread : (s : Simulation) (lines : List Line) (waiting : List Waiting) (on_line : List Transit) → SameHeld s lines waiting on_line → fit (with_held s lines waiting on_line) ≡ fit s
lines_unread s lines waiting on_line kept = fit_same s s.network.bits lines waiting on_line (λ i h. refl) kept
