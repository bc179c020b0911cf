-- A built simulation is fit, whatever the network and the seed are. A build that is refused gives the empty simulation, so this holds of it too.
-- A network's floats may be any, also those that no 64 bits hold. Assumes nothing.
use Rattle.std.proofs.Common.{Option, Some, None}
use mathlib.Core.Path.{◌≡◌, refl, sym, ap, ap₂, ◌∙◌, subst}
use mathlib.Core.Bool.{Bool, true, false, not, ◌&&◌, ◌||◌}
use mathlib.Core.List.{List, [], ◌∷◌}
use Prim.Native.Nat.{ℕ, zero, suc, ◌+◌, ◌/◌, ◌≤◌, ◌<◌}
use native.Mathlib.Nat.{zero-add, add-zero, zero-mul}
use native.Mathlib.Omega.{arith}
use borrow.Author.Tests.{eqb-true, eqb-false}
use lib.Dec.{T, eqb}
use lib.Ieee.{Float, binary64, add, mul, of_int, lt, le, eq}
use lib.Ieee.Bits.{is_true}
use lib.ListN.{length, get_or, set, replicate, length-set, get_or-replicate}
use lib.Seq.{get_or-set_other}
use Rattle.quantities.proofs.Order.{lt→le, le_trans, le_known_l, eq_refl}
use Rattle.quantities.proofs.Ranges.{Within, add_within}
use Rattle.quantities.proofs.Uniform.{sample-within, draw-fine}
use Rattle.quantities.specs.declared.time.Time.{Time}
use Rattle.quantities.specs.Doubles.{zero_f, power, largest, least}
use Rattle.draws.specs.declared.generator.Rng.{Rng}
use Rattle.draws.specs.declared.distribution.ContinuousDistribution.{ContinuousDistribution}
use Rattle.draws.specs.declared.distribution.ContinuousDistribution.TheVariants.{Always, Uniform}
use Rattle.draws.specs.Generator.{output_of, from_seed, all_zero, child_of}
use Rattle.draws.specs.Draws.{sample_of, unit_of, uniform_of, draw_of, PositiveDraw, redraw, positive_of}
use Rattle.draws.proofs.ZeroWords.{zero_words}
use Rattle.meters.specs.Meter.{new_meter, is_on}
use Rattle.toggler.proofs.Least.{picked-there, picked-inside, picked-le, picked-nothing}
use Rattle.link.specs.declared.link.Line.{Line}
use Rattle.sender.specs.declared.lossy.LossySender.{LossySender}
use Rattle.toggler.specs.declared.toggler.Toggler.{Toggler}
use Rattle.toggler.specs.declared.toggler.Toggled.{Toggled}
use Rattle.toggler.specs.declared.tick_queue.Queued.{Queued}
use Rattle.toggler.specs.declared.tick_queue.Picked.{Picked}
use Rattle.link.specs.Link.{next_transmit, next_deliver, next_tick}
use Rattle.sender.specs.Sender.{sender_next}
use Rattle.toggler.specs.Toggler.{new_toggler}
use Rattle.toggler.specs.Queue.{queue_places, no_queued, pick_of}
use Rattle.remy.specs.declared.network.RemyNetwork.{RemyNetwork}
use Rattle.remy.specs.declared.simulation.Head.{Head}
use Rattle.remy.specs.declared.simulation.Simulation.{Simulation}
use Rattle.remy.specs.declared.simulation.Built.{Built}
use Rattle.remy.specs.Network.{up_to, times_fit, network_stop}
use Rattle.remy.specs.State.{has_back, line_count, Role, link, bouncer, sender, toggler, nobody, no_line, no_sender, no_toggler, no_meter, line_at, sender_at, toggler_at, meter_at, queued_at, waiting_packets, on_line_items, on_line_packets, with_head, with_queue}
use Rattle.remy.specs.Queue.{own_time, next_time_of, head_of, removed, picked}
use Rattle.remy.specs.Build.{new_line, new_sender, Parts, no_parts, populate, back_words, unqueued, own_times, queued_all, not_built, build_from, build_of}
use Rattle.remy.specs.Fit.{every, each_sender, each_line, sum_to, under_way, held, held_if_any, is_idle, held_sender, held_queued, is_next, since_start, started_fit, meter_start_fit, same_time, next_fit, network_fit, rings_fit, packets_fit, bits_fit, clock_fit, held_times_fit, past_fit, totals_fit, sums_fit, records_fit, due_fit, counts_fit, windows_fit, timers_fit, togglers_agree, meters_agree, meter_bits_fit, queue_fit, carried_fit, words_fit, fit}
use Rattle.remy.proofs.Facts.{both_l, both_r, holds, lines_few, words-joined}
use Rattle.remy.proofs.Networks.{fit-network, few_senders}
use Rattle.remy.proofs.Lists.{All}
use Rattle.remy.proofs.Kept.{at_set}
use Rattle.remy.proofs.Steps.{cond_elim}
use Rattle.remy.proofs.Roles.{Real, role_at}
use Rattle.remy.proofs.Empty.{empty-fit}

-- ---- tests

-- the second of two tests is needed only where the first fails
pub or_else : (a b : Bool) → (a ≡ false → b ≡ true) → (a || b) ≡ true
or_else true b h = refl
or_else false b h = h refl

pub up_to_intro : (n : ℕ) (f : ℕ → Bool) → ((i : ℕ) → i < n → f i ≡ true) → up_to n f ≡ true
up_to_intro zero f h = refl
up_to_intro (suc n) f h = rw (up_to_intro n f (λ i k. h i (omega arith)), h n (omega arith))

-- a state is fit where every clause holds
pub fit_intro : (s : Simulation) → network_fit s ≡ true → rings_fit s ≡ true → packets_fit s ≡ true → bits_fit s ≡ true → clock_fit s ≡ true
    → held_times_fit s ≡ true → past_fit s ≡ true → totals_fit s ≡ true → sums_fit s ≡ true → records_fit s ≡ true → due_fit s ≡ true → counts_fit s ≡ true
    → windows_fit s ≡ true → timers_fit s ≡ true → togglers_agree s ≡ true → meters_agree s ≡ true → meter_bits_fit s ≡ true → queue_fit s ≡ true → carried_fit s ≡ true → words_fit s ≡ true → fit s ≡ true
unfolding fit
fit_intro s a b c d e f g h i j k l m n o p q r t u = rw (a, b, c, d, e, f, g, h, i, j, k, l, m, n, o, p, q, r, t, u)

-- a sum of zeros
sum_none : (n : ℕ) (f : ℕ → ℕ) → ((l : ℕ) → l < n → f l ≡ 0) → sum_to n f ≡ 0
sum_none zero f h = refl
sum_none (suc n) f h = rw (sum_none n f (λ l k. h l (omega arith)), h n (omega arith))

-- ---- draws are in 0..2^20

zero_within : Within zero_f (power 20)
unfolding le
zero_within = (tt, tt)

-- an output is below 2 ^ 64, so a 4,096th of it is below 2 ^ 52
unit_within : (g : Rng) → Within (unit_of g).value (power 0)
unfolding unit_of sample_of output_of
unit_within g = sample-within (output_of g / 4096) (omega arith)

draw-within : (d : ContinuousDistribution) → times_fit d ≡ true → (g : Rng) → Within (draw_of d g).value (power 20)
unfolding draw_of uniform_of
draw-within (Always v) h g = (lt→le zero_f v (holds (lt zero_f v) (both_l (lt zero_f v) (le v (power 20)) h)), holds (le v (power 20)) (both_r (lt zero_f v) (le v (power 20)) h))
draw-within (Uniform lo hi) h g =
    let ends = both_l (le zero_f lo && lt lo hi) (le hi (power 20)) h in
    (draw-fine (unit_of g).value lo hi (unit_within g)
    (holds (le zero_f lo) (both_l (le zero_f lo) (lt lo hi) ends), lt→le lo hi (holds (lt lo hi) (both_r (le zero_f lo) (lt lo hi) ends)))
    (holds (le hi (power 20)) (both_r (le zero_f lo && lt lo hi) (le hi (power 20)) h))).1

-- a draw that is spent has the value 0
pub redraw-within : (tries : ℕ) (d : ContinuousDistribution) → times_fit d ≡ true → (g : Rng) → Within (redraw tries d g).value (power 20)
unfolding redraw
redraw-within zero d h g = zero_within
redraw-within (suc tries) d h g =
    let s = draw_of d g in
    cond_elim (λ (x : PositiveDraw). Within x.value (power 20)) (lt zero_f s.value) _ _ (λ t. draw-within d h g) (λ t. redraw-within tries d h s.rng)

-- ---- the parts as they are made

-- a sender that is off and has sent nothing, with words that are not all zero
pub record Off (x : LossySender) : Type 0 where
  pub off : x ≡ new_sender x.rng
  pub words : all_zero x.rng ≡ false

-- a toggler that is off, with a toggle in 0..2^20 and words that are not all zero
pub record Waits (t : Toggler) : Type 0 where
  pub off : t.enabled ≡ false
  pub soon : Within t.next_toggle.0.0 (power 20)
  pub words : all_zero t.rng ≡ false

-- the first toggle is 0 + a draw
sum_within : (x : Float) → Within x (power 20) → Within (add binary64 zero_f x) (power 20)
unfolding le add
sum_within x w = (add_within binary64 zero_f zero_f x (power 20) (power 20) (tt, tt) w tt tt tt tt).1

new_toggler_lem : (g : Rng) (d : ContinuousDistribution) → all_zero g ≡ false → times_fit d ≡ true → Waits (new_toggler g d).toggler
unfolding new_toggler
new_toggler_lem g d w h =
    cond_elim (λ (x : Toggled). Waits x.toggler) (eqb (positive_of d g).number 0) _ _
    (λ t. record { off = refl; soon = sum_within (positive_of d g).value (redraw-within 8 d h g); words = zero_words.redrawn d g w })
    (λ t. record { off = refl; soon = zero_within; words = w })

-- each of 16 elements has P
abbrev pub Filled : {A : Type 0} → (A → Type 0) → List A → Type 0
Filled P l = (length l ≡ 16) × All P l

module _ {A : Type 0} (P : A → Type 0) where
  all_set : (l : List A) (i : ℕ) (x : A) → P x → All P l → All P (set l i x)
  all_set [] i x p h = h
  all_set (y ∷ l) zero x p h = (p, h.1)
  all_set (y ∷ l) (suc i) x p h = (h.0, all_set l i x p h.1)

  all_at : (l : List A) (i : ℕ) (d : A) → i < length l → All P l → P (get_or l i d)
  all_at [] i d k h = absurd (omega arith)
  all_at (y ∷ l) zero d k h = h.0
  all_at (y ∷ l) (suc i) d k h = all_at l i d (omega arith) h.1

  all_replicate : (n : ℕ) (x : A) → P x → All P (replicate n x)
  all_replicate zero x p = tt
  all_replicate (suc n) x p = (p, all_replicate n x p)

  filled-set : (l : List A) (i : ℕ) (x : A) → P x → Filled P l → Filled P (set l i x)
  filled-set l i x p h = (length-set l i x ∙ h.0, all_set l i x p h.1)

  filled_at : (l : List A) (i : ℕ) (d : A) → i < 16 → Filled P l → P (get_or l i d)
  filled_at l i d k h = all_at l i d (omega (arith, h.0)) h.1

pub record New (parts : Parts) : Type 0 where
  pub senders : Filled Off parts.senders
  pub togglers : Filled Waits parts.togglers

pub no_parts_lem : (root : Rng) → New (no_parts root)
no_parts_lem root =
    record {
      senders = (refl, all_replicate Off 16 _ (record { off = refl; words = zero_words.seed 0 }));
      togglers = (refl, all_replicate Waits 16 _ (record { off = refl; soon = zero_within; words = zero_words.seed 0 }));
    }

-- Whether a draw was spent or not, every part is new.
pub populate_new : (left i : ℕ) (d : ContinuousDistribution) (parts : Parts) → times_fit d ≡ true → New parts → New (populate left i d parts)
unfolding populate
populate_new zero i d parts h w = w
populate_new (suc left) i d parts h w =
    let c = child_of parts.root in
    let e = child_of c.parent in
    let t = new_toggler e.child d in
    let more : Parts = record { number = t.number; root = e.parent; senders = set parts.senders i (new_sender c.child); togglers = set parts.togglers i t.toggler } in
    let w' : New more =
    record {
      senders = filled-set Off parts.senders i (new_sender c.child) (record { off = refl; words = zero_words.child parts.root }) w.senders;
      togglers = filled-set Waits parts.togglers i t.toggler (new_toggler_lem e.child d (zero_words.child c.parent) h) w.togglers;
    } in
    cond_elim New (eqb t.number 0) (populate left (i + 1) d more) more (λ z. populate_new left (i + 1) d more h w') (λ z. w')

-- ---- a state in which nothing has happened, whatever its head and its queue are

-- a line that no packet came to, with words that are not all zero
record Unused (x : Line) : Type 0 where
  new : x ≡ new_line x.rng
  words : all_zero x.rng ≡ false

record Blank (s : Simulation) : Type 0 where
  network : network_stop s.network ≡ 0
  lines : (l : ℕ) → l < line_count s.network → Unused (line_at s l)
  senders : (i : ℕ) → i < s.network.senders → Off (sender_at s i)
  togglers : (i : ℕ) → i < s.network.senders → Waits (toggler_at s i)
  meters : (i : ℕ) → i < s.network.senders → meter_at s i ≡ new_meter

-- the second link's words too, which without a return line are those of seed 0
back_words_lem : (n : RemyNetwork) (root : Rng) → all_zero (back_words n root) ≡ false
unfolding back_words
back_words_lem n root = cond_elim (λ (g : Rng). all_zero g ≡ false) (has_back n.back) _ _ (λ e. zero_words.child root) (λ e. zero_words.seed 0)

-- what holds of the two new lines holds of every line of the network
pub new_lines : (P : ℕ → Line → Type 0) (n : RemyNetwork) (g back : Rng) → P 0 (new_line g) → P 1 (new_line back)
    → (l : ℕ) → l < line_count n → P l (get_or (new_line g ∷ (new_line back ∷ [])) l no_line)
new_lines P n g back p q zero h = p
new_lines P n g back p q (suc zero) h = q
new_lines P n g back p q (suc (suc l)) h =
    let few = lines_few (has_back n.back) in
    absurd (omega arith)

unqueued_blank : (n : RemyNetwork) (g back : Rng) (parts : Parts) → network_stop n ≡ 0 → all_zero g ≡ false → all_zero back ≡ false → New parts → Blank (unqueued n g back parts)
unqueued_blank n g back parts e some others w =
    let few : n.senders ≤ 16 = few_senders (fit-network n e) in
    record {
      network = e;
      lines = new_lines (λ l. Unused) n g back (record { new = refl; words = some }) (record { new = refl; words = others });
      senders = λ i h. filled_at Off parts.senders i no_sender (omega arith) w.senders;
      togglers = λ i h. filled_at Waits parts.togglers i no_toggler (omega arith) w.togglers;
      meters = λ i h. get_or-replicate 16 i new_meter no_meter (omega arith);
    }

-- ---- the clauses that do not read the head or the queue

module _ (s : Simulation) (b : Blank s) where
  network-fit : network_fit s ≡ true
  unfolding network_fit
  network-fit = rw b.network

  rings_fit_lem : rings_fit s ≡ true
  unfolding rings_fit
  rings_fit_lem = up_to_intro _ _ (λ l h. rw (b.lines l h).new)

  packets-fit : packets_fit s ≡ true
  unfolding packets_fit
  packets-fit = up_to_intro _ _ (λ l h. rw (b.lines l h).new)

  bits_fit_lem : bits_fit s ≡ true
  unfolding bits_fit
  bits_fit_lem = up_to_intro _ _ (λ l h. rw (b.lines l h).new)

  due_fit_lem : due_fit s ≡ true
  unfolding due_fit
  due_fit_lem = up_to_intro _ _ (λ l h. rw (b.lines l h).new)

  totals-fit : totals_fit s ≡ true
  unfolding totals_fit le
  totals-fit = up_to_intro _ _ (λ i h. rw (b.meters i h))

  sums-fit : sums_fit s ≡ true
  unfolding sums_fit le mul of_int
  sums-fit = up_to_intro _ _ (λ i h. rw (b.meters i h))

  records_fit_lem : records_fit s ≡ true
  unfolding records_fit
  records_fit_lem =
      up_to_intro _ _
      (λ i h.
      let none : sum_to (line_count s.network) (under_way s i) ≡ 0 = sum_none _ (under_way s i) (λ l k. rw (b.lines l k).new) in
      rw (none, b.meters i h, (b.senders i h).off))

  counts-fit : counts_fit s ≡ true
  unfolding counts_fit
  counts-fit = up_to_intro _ _ (λ i h. rw (b.senders i h).off)

  windows_fit_lem : windows_fit s ≡ true
  unfolding windows_fit
  windows_fit_lem = up_to_intro _ _ (λ i h. rw (b.senders i h).off)

  timers_fit_lem : timers_fit s ≡ true
  unfolding timers_fit
  timers_fit_lem = up_to_intro _ _ (λ i h. rw (b.senders i h).off)

  togglers_agree_lem : togglers_agree s ≡ true
  unfolding togglers_agree
  togglers_agree_lem = up_to_intro _ _ (λ i h. rw ((b.togglers i h).off, (b.senders i h).off))

  meters_agree_lem : meters_agree s ≡ true
  unfolding meters_agree
  meters_agree_lem = up_to_intro _ _ (λ i h. rw (b.meters i h, (b.senders i h).off))

  meter-bits_fit : meter_bits_fit s ≡ true
  unfolding meter_bits_fit
  meter-bits_fit = up_to_intro _ _ (λ i h. rw (b.meters i h, zero-mul))

  carried_fit_lem : carried_fit s ≡ true
  unfolding carried_fit
  carried_fit_lem = up_to_intro _ _ (λ l h. rw (b.lines l h).new)

  words-fit : words_fit s ≡ true
  words-fit =
      words-joined s
      (record {
        link = up_to_intro _ _ (λ l h. rw (b.lines l h).words);
        senders = up_to_intro _ _ (λ i h. rw (b.senders i h).words);
        togglers = up_to_intro _ _ (λ i h. rw (b.togglers i h).words);
      })

  past_fit_lem : past_fit s ≡ true
  unfolding past_fit
  past_fit_lem =
      let off : each_sender s (λ i. started_fit s (sender_at s i).state) ≡ true = up_to_intro _ _ (λ i h. rw (b.senders i h).off) in
      let empty : each_sender s (λ i. meter_start_fit s (meter_at s i).current_start) ≡ true = up_to_intro _ _ (λ i h. rw (b.meters i h)) in
      let waiting : each_line s (λ l. every (λ p. since_start s p.sent_time) (waiting_packets s l)) ≡ true = up_to_intro _ _ (λ l h. rw (b.lines l h).new) in
      let moving : each_line s (λ l. every (λ p. since_start s p.sent_time) (on_line_packets s l)) ≡ true = up_to_intro _ _ (λ l h. rw (b.lines l h).new) in
      rw (waiting, moving, off, empty)

-- ---- the clauses that read them

-- The clock and the next part fit, every other place is queued at its part's own next time, and what is queued is held and not below the clock.
record Ready (s : Simulation) : Type 0 where
  clock : T (le zero_f s.head.clock.0.0)
  now : (held s.head.clock || (is_idle s.head.next && eq s.head.clock.0.0 largest)) ≡ true
  next : next_fit s s.head.next ≡ true
  own : (k : ℕ) → k < queue_places → is_next s.head.next k ≡ false → same_time (queued_at s k) (next_time_of s k) ≡ true
  later : (k : ℕ) → k < queue_places → held_queued s (queued_at s k) ≡ true

-- -MAX is below 2^41, and so is what is in 0..2^20
least-held : le least (power 41) ≡ true
unfolding le
least-held = refl

held_soon : (x : Float) → Within x (power 20) → le x (power 41) ≡ true
unfolding le
held_soon x w = is_true (le x (power 41)) (le_trans x (power 20) (power 41) w.1 tt)

module _ (s : Simulation) (b : Blank s) (a : Ready s) where
  clock-fit : clock_fit s ≡ true
  unfolding clock_fit
  clock-fit = is_true _ a.clock

  queue-fit : queue_fit s ≡ true
  unfolding queue_fit
  queue-fit =
      let others : up_to queue_places (λ k. is_next s.head.next k || same_time (queued_at s k) (next_time_of s k)) ≡ true =
      up_to_intro _ _ (λ k h. or_else _ _ (a.own k h)) in
      rw (a.next, others)

  held-times-fit : held_times_fit s ≡ true
  unfolding held_times_fit
  held-times-fit =
      let off : each_sender s (λ i. held_sender (sender_at s i).state) ≡ true = up_to_intro _ _ (λ i h. rw (b.senders i h).off) in
      let toggles : each_sender s (λ i. held (toggler_at s i).next_toggle) ≡ true = up_to_intro _ _ (λ i h. held_soon _ (b.togglers i h).soon) in
      let empty : each_sender s (λ i. held_if_any (meter_at s i).current_start) ≡ true = up_to_intro _ _ (λ i h. rw (b.meters i h)) in
      let queued : up_to queue_places (λ k. held_queued s (queued_at s k)) ≡ true = up_to_intro _ _ a.later in
      let free : each_line s (λ l. held (line_at s l).earliest_transmit) ≡ true = up_to_intro _ _ (λ l h. rw ((b.lines l h).new, least-held)) in
      let waiting : each_line s (λ l. every (λ p. held p.sent_time) (waiting_packets s l)) ≡ true = up_to_intro _ _ (λ l h. rw (b.lines l h).new) in
      let moving : each_line s (λ l. every (λ p. held p.sent_time) (on_line_packets s l)) ≡ true = up_to_intro _ _ (λ l h. rw (b.lines l h).new) in
      let due : each_line s (λ l. every (λ x. held x.due) (on_line_items s l)) ≡ true = up_to_intro _ _ (λ l h. rw (b.lines l h).new) in
      rw (a.now, free, waiting, moving, due, off, toggles, empty, queued)

  blank_fit : fit s ≡ true
  blank_fit =
      fit_intro s (network-fit s b) (rings_fit_lem s b) (packets-fit s b) (bits_fit_lem s b) clock-fit held-times-fit (past_fit_lem s b) (totals-fit s b) (sums-fit s b)
      (records_fit_lem s b) (due_fit_lem s b) (counts-fit s b) (windows_fit_lem s b) (timers_fit_lem s b) (togglers_agree_lem s b) (meters_agree_lem s b) (meter-bits_fit s b)
      queue-fit (carried_fit_lem s b) (words-fit s b)

-- ---- the queue: each part at its own next time

-- a time that is there is in 0..2^20
abbrev Soon : Option Time → Type 0
Soon None = Unit {0}
Soon (Some t) = Within t.0.0 (power 20)

pub times-length : (s : Simulation) (left k : ℕ) → length (own_times s left k) ≡ left
unfolding own_times
times-length s zero k = refl
times-length s (suc left) k = ap suc (times-length s left (k + 1))

times-at : (s : Simulation) (left k i : ℕ) → i < left → (get_or (own_times s left k) i no_queued).time ≡ next_time_of s (k + i)
unfolding own_times
times-at s zero k i h = absurd (omega arith)
times-at s (suc left) k zero h = rw add-zero
times-at s (suc left) k (suc i) h =
    let e : k + 1 + i ≡ k + suc i = omega arith in
    rw (← e) (times-at s left (k + 1) i (omega arith))

module _ (s : Simulation) (b : Blank s) where
  -- only togglers have a next time
  role_soon : (role : Role) → Real s.network role → Soon (own_time s role)
  unfolding own_time next_tick next_transmit next_deliver sender_next
  role_soon (link l) h = rw (b.lines l h).new tt
  role_soon bouncer h = tt
  role_soon (sender i) h = rw (b.senders i h).off tt
  role_soon (toggler i) h = (b.togglers i h).soon
  role_soon nobody h = tt

  soon : (k : ℕ) → Soon (next_time_of s k)
  soon k = role_at (λ (role : Role). Soon (own_time s role)) s.network k (λ role h e. role_soon role h) (unfold own_time in tt)

  -- a toggle is read from its toggler, so that another head or queue changes no next time
  module _ (head : Head) (queue : List Queued) where
    role_same : (role : Role) → Real s.network role → own_time (with_head (with_queue s queue) head) role ≡ own_time s role
    unfolding own_time next_tick next_transmit sender_next
    role_same (link l) h = rw (b.lines l h).new
    role_same bouncer h = refl
    role_same (sender i) h = rw (b.senders i h).off
    role_same (toggler i) h = refl
    role_same nobody h = refl

    own_same : (k : ℕ) → next_time_of (with_head (with_queue s queue) head) k ≡ next_time_of s k
    own_same k =
        role_at (λ (role : Role). own_time (with_head (with_queue s queue) head) role ≡ own_time s role) s.network k (λ role h e. role_same role h) (unfold own_time in refl)

-- a time in 0..2^20 is no NaN, so it is the same as itself
same_self : (x : Option Time) → Soon x → same_time x x ≡ true
same_self None w = refl
same_self (Some t) w = is_true (eq t.0.0 t.0.0) (eq_refl t.0.0 (le_known_l t.0.0 (power 20) w.1))

-- ---- the first pick

-- the queue before the pick, and what the pick gives
abbrev all_queued : Simulation → List Queued
all_queued s = own_times s queue_places 0

abbrev first : Simulation → Picked
first s = pick_of (all_queued s)

-- the state after a pick that gives this time
abbrev after : Simulation → Option Time → Simulation
after s time = with_head (with_queue s (removed (all_queued s) (first s) time)) (head_of (first s) time)

module _ (s : Simulation) (b : Blank s) where
  queued_own : (k : ℕ) → k < queue_places → (get_or (all_queued s) k no_queued).time ≡ next_time_of s k
  queued_own k h = times-at s queue_places 0 k h ∙ ap (next_time_of s) (zero-add k)

  after_blank : (time : Option Time) → Blank (after s time)
  after_blank time =
      record { network = b.network; lines = b.lines; senders = b.senders; togglers = b.togglers; meters = b.meters }

  -- a place that the pick left as it was is queued at the part's own next time
  place_same : (time x : Option Time) (k : ℕ) → k < queue_places → x ≡ (get_or (all_queued s) k no_queued).time → same_time x (next_time_of (after s time) k) ≡ true
  place_same time x k h e = ap₂ same_time (e ∙ queued_own k h) (own_same s b _ _ k) ∙ same_self (next_time_of s k) (soon s b k)

  -- nothing is queued
  idle : (first s).time ≡ None → Ready (after s None)
  unfolding le
  idle e =
      record {
        clock = tt;
        now = refl;
        next = up_to_intro queue_places (λ k. not (is_on (queued_at (after s None) k))) (λ k h. rw (picked-nothing (all_queued s) e k));
        own = λ k h z. place_same None (queued_at (after s None) k) k h refl;
        later = λ k h. rw (picked-nothing (all_queued s) e k);
      }

  module _ (t : Time) (e : (first s).time ≡ Some t) where
    -- the picked time is the part's own next time
    there : next_time_of s (first s).part ≡ Some t
    there = sym (queued_own _ (omega (arith, picked-inside (all_queued s) e, times-length s queue_places 0))) ∙ picked-there (all_queued s) e

    first_soon : Within t.0.0 (power 20)
    first_soon = subst Soon there (soon s b (first s).part)

    -- no queued time is before the picked one
    not_before_lem : (k : ℕ) (x : Option Time) → (get_or (all_queued s) k no_queued).time ≡ x → Soon x → held_queued (after s (Some t)) x ≡ true
    not_before_lem k None i w = refl
    not_before_lem k (Some v) i w =
        let least = picked-le (all_queued s) e k i (le_known_l v.0.0 (power 20) w.1) (le_known_l t.0.0 (power 20) first_soon.1) in
        rw (held_soon v.0.0 w, is_true (le t.0.0 v.0.0) least)

    -- the pick empties only the place of its part
    kept : (k : ℕ) → eqb (first s).part k ≡ false → queued_at (after s (Some t)) k ≡ (get_or (all_queued s) k no_queued).time
    kept k z = ap (λ (q : Queued). q.time) (get_or-set_other (all_queued s) _ k no_queued no_queued (λ same. eqb-false (first s).part k z (sym same)))

    busy : Ready (after s (Some t))
    busy =
        record {
          clock = first_soon.0;
          now = rw (held_soon t.0.0 first_soon);
          next = ap (same_time (Some t)) (own_same s b _ _ _ ∙ there) ∙ same_self (Some t) first_soon;
          own = λ k h z. place_same (Some t) (queued_at (after s (Some t)) k) k h (kept k z);
          later = λ k h.
              at_set (λ (x : Queued). held_queued (after s (Some t)) x.time ≡ true) no_queued (all_queued s) (first s).part no_queued k
              (not_before_lem k (get_or (all_queued s) k no_queued).time refl (rw (queued_own k h) (soon s b k))) refl;
        }

  ready : (time : Option Time) → (first s).time ≡ time → Ready (after s time)
  ready None e = idle e
  ready (Some t) e = busy t e

  fit-picked : fit (picked (queued_all s)) ≡ true
  unfolding picked queued_all
  fit-picked =
      let time = (first s).time in
      blank_fit (after s time) (after_blank time) (ready time refl)

-- ---- the built simulation

pub fresh_fit : (n : RemyNetwork) (seed : ℕ) → fit (build_of n seed).simulation ≡ true
unfolding build_of
fresh_fit n seed =
    let Fit : Built → Type 0 = λ x. fit x.simulation ≡ true in
    let c = child_of (from_seed seed) in
    let parts = populate n.senders 0 n.off (no_parts c.parent) in
    cond_elim Fit (eqb (network_stop n) 0) (build_from n c.child parts) (not_built (network_stop n))
    (λ t.
    let e = eqb-true (network_stop n) 0 t in
    let off = both_r (times_fit n.on) (times_fit n.off) (fit-network n e).times in
    let new = populate_new n.senders 0 n.off (no_parts c.parent) off (no_parts_lem c.parent) in
    cond_elim Fit (eqb parts.number 0) _ (not_built parts.number)
    (λ z. fit-picked _ (unqueued_blank n c.child (back_words n parts.root) parts e (zero_words.child (from_seed seed)) (back_words_lem n parts.root) new)) (λ z. empty-fit))
    (λ t. empty-fit)
