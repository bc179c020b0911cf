-- The loop of ticks: whose turn it is, what is in range then, and the equation that the loop keeps. Assumes nothing.
use Rattle.std.proofs.Common.{Option, Some, None}
use mathlib.Core.Path.{◌≡◌, refl, sym, ap, subst, ◌∙◌}
use mathlib.Core.Bool.{Bool, true, false, ◌&&◌, cond}
use mathlib.Core.List.{List, [], ◌∷◌, map}
use Prim.Native.Nat.{ℕ, suc, ◌+◌, ◌*◌, ◌-◌, ◌%◌, ◌≤◌, ◌<◌, ◌^◌}
use native.Mathlib.Omega.{arith}
use lib.ListN.{length, set, replicate, length-set}
use lib.Dec.{leb, eqb}
use lib.Ieee.{lt, eq}
use borrow.Author.Tests.{leb-true, eqb-true, lt-ltb}
use Rattle.quantities.specs.declared.time.Time.{Time}
use Rattle.quantities.specs.Doubles.{power}
use Rattle.draws.specs.Draws.{unit_of}
use Rattle.link.specs.declared.packet.Packet.{Packet}
use Rattle.link.specs.declared.packet.Waiting.{Waiting}
use Rattle.link.specs.declared.link.Left.{Left}
use Rattle.link.specs.declared.link.Delivered.{Delivered}
use Rattle.link.specs.Link.{is_due, departed, try_deliver}
use Rattle.toggler.specs.declared.tick_queue.Picked.{Picked}
use Rattle.toggler.specs.Queue.{queue_places, no_queued, pick_of}
use Rattle.link.proofs.Items.{Sound, items-length}
use Rattle.remy.specs.declared.network.RemyNetwork.{RemyNetwork}
use Rattle.remy.specs.declared.simulation.Simulation.{Simulation}
use Rattle.remy.specs.declared.simulation.TickRecord.{TickRecord}
use Rattle.remy.specs.declared.simulation.Ticked.{Ticked}
use Rattle.remy.specs.declared.simulation.Noted.{Noted}
use Rattle.remy.specs.declared.simulation.Recorded.{Recorded}
use Rattle.remy.specs.State.{has_back, line_count, values_of, Role, link, sender, toggler, role_in, part_count, no_waiting, line_at, front_of, first_of, waiting_items, waiting_packets, on_line_packets, sender_bits, packet_bits, total_bits}
use Rattle.remy.specs.HeldTimes.{Full}
use Rattle.remy.specs.Fit.{every, each_line, packet_fit, packets_fit, bits_fit, carries, carried_fit, fit}
use Rattle.remy.specs.Tick.{moves, outcome_of, acts_of, unmoved, ticked, tick_next, tick_of}
use Rattle.remy.specs.Queue.{removed, picked}
use Rattle.remy.specs.Run.{batch, no_noted, noted_with, noted_of}
use Rattle.remy.proofs.Facts.{both_l, both_r, up_to-at, first-there, second_there, FitState, fit-state}
use Rattle.remy.proofs.Networks.{few_senders, few_bits}
use Rattle.remy.proofs.Front.{accepted, rings, names_sender, front-sender}
use Rattle.remy.proofs.Roles.{role_elim}
use Rattle.steady.specs.Clock.{Typed}
use Rattle.steady.proofs.Clock.{tick_typed}
use Rattle.steady.proofs.Steady.{Steady, tick_steady}
use Rattle.queueing.specs.declared.Now.{Now}
use Rattle.turns.specs.declared.LinkActed.{LinkActed}
use Rattle.toggler.proofs.Pick.{NoneFrom}
use Rattle.queueing.specs.Queueing.{now_role, now_next, now_of}
use Rattle.turns.specs.Turns.{owner_of, link_values, link_acted}
use Rattle.advance.specs.Advance.{advance_of}

-- ---- whose turn it is

abbrev pub TickAs : Simulation → Now → Type 0
TickAs s (Now.Stop k) = tick_of s ≡ unmoved s k
TickAs s (Now.Link l) = (fit s ≡ true) × (l < line_count s.network) × (tick_of s ≡ ticked s (outcome_of s (link l)))
TickAs s (Now.Sender i) = (fit s ≡ true) × (i < s.network.senders) × (tick_of s ≡ ticked s (outcome_of s (sender i)))
TickAs s (Now.Toggler i) = (fit s ≡ true) × (i < s.network.senders) × (tick_of s ≡ ticked s (outcome_of s (toggler i)))

module _ (s : Simulation) (f : fit s ≡ true) where
  by_role : (k : ℕ) → tick_of s ≡ ticked s (outcome_of s (role_in s.network k)) → TickAs s (now_role (role_in s.network k))
  unfolding outcome_of acts_of
  by_role k =
      let back = has_back s.network.back in
      role_elim (λ (r : Role). tick_of s ≡ ticked s (outcome_of s r) → TickAs s (now_role r)) s.network.senders back k
      (λ e. (f, first-there back, e))
      (λ i h e. (f, h, e))
      (λ i h e. (f, h, e))
      (λ b e. e)
      (λ b e. (f, second_there back b, e))
      (λ e. e)

  by_next : (next : Option ℕ) → tick_of s ≡ tick_next s next → TickAs s (now_next next s.head.clock s.network.senders (has_back s.network.back))
  by_next None e = e
  by_next (Some k) e = late (lt (power 40) s.head.clock.0.0) e
    where
      late : (b : Bool) → tick_of s ≡ cond b (unmoved s 10) (ticked s (outcome_of s (role_in s.network k))) → TickAs s (cond b (Now.Stop 10) (now_role (role_in s.network k)))
      late true e = e
      late false e = by_role k e

pub now_tick : (s : Simulation) (w : Now) → w ≡ now_of (fit s) s.head s.network.senders (has_back s.network.back) → TickAs s w
unfolding now_of tick_of
now_tick s w e = subst (TickAs s) (sym e) (by (fit s) refl)
  where
    by : (b : Bool) → fit s ≡ b → TickAs s (cond b (now_next s.head.next s.head.clock s.network.senders (has_back s.network.back)) (Now.Stop 9))
    by true f = by_next s f s.head.next (rw f)
    by false f = rw f

-- ---- the loop's equation

pub begins : (n : ℕ) (notes : List Noted) (s : Simulation) → notes ≡ replicate batch no_noted → advance_of (n - 0) 0 notes s ≡ advance_of n 0 (replicate batch no_noted) s
begins n notes s e = let all : n - 0 ≡ n = omega arith in rw (all, e)

module _ (n d : ℕ) (notes : List Noted) (s : Simulation) where
  goes_on : d < n → (x : TickRecord) (m : Simulation) → tick_of s ≡ ticked s (moves x m) → advance_of (n - (d + 1)) (d + 1) (set notes (d % batch) (noted_of x m)) m ≡ advance_of (n - d) d notes s
  unfolding advance_of
  goes_on h x m e = let one : n - d ≡ suc (n - (d + 1)) = omega (arith, h) in rw (one, e)

  stops_there : d < n → (k : ℕ) → tick_of s ≡ unmoved s k → record { done = d; number = k; records = notes; simulation = s } ≡ advance_of (n - d) d notes s
  unfolding advance_of
  stops_there h k e = let one : n - d ≡ suc (n - (d + 1)) = omega (arith, h) in rw (one, e)

  all_done : n ≤ d → record { done = d; number = 0; records = notes; simulation = s } ≡ advance_of (n - d) d notes s
  unfolding advance_of
  all_done h = let none : n - d ≡ 0 = omega (arith, h) in rw none

-- how many parts a network has
abbrev pub parts_of : RemyNetwork → ℕ
parts_of n = part_count n.senders (has_back n.back)

-- ---- what the loop keeps, with so many ticks done

-- of a state whose part has its turn next: the ticks left give what all give from the start; what the types of code say; and it is steady, where the loop began with such a state
pub record Due (all : Recorded) (steady : Bool) (n d : ℕ) (notes : List Noted) (s : Simulation) : Type 0 where
  pub same : advance_of (n - d) d notes s ≡ all
  pub typed : Typed s
  pub keeps : steady ≡ true → Steady s

-- of a state that is ripe for the pick, after a turn with this record: the picked state is due, and no place but those of the parts holds a time
pub record Ripe (all : Recorded) (steady : Bool) (n parts d : ℕ) (notes : List Noted) (note : TickRecord) (m : Simulation) : Type 0 where
  pub left : d < n
  pub few : parts ≤ queue_places
  pub none : NoneFrom parts m.queue
  pub next : Due all steady n (d + 1) (set notes (d % batch) (noted_of note (picked m))) (picked m)

abbrev pub Kept : Bool → Recorded → Bool → ℕ → ℕ → ℕ → List Noted → TickRecord → Simulation → Type 0
Kept false all steady n parts d notes note s = Due all steady n d notes s
Kept true all steady n parts d notes note s = Ripe all steady n parts d notes note s

module _ (all : Recorded) (steady : Bool) (n d : ℕ) (notes : List Noted) (s : Simulation) (k : Due all steady n d notes s) where
  -- a tick that does not move ends the loop
  pub ends : d < n → (number : ℕ) → tick_of s ≡ unmoved s number → record { done = d; number = number; records = notes; simulation = s } ≡ all
  ends h number e = stops_there n d notes s h number e ∙ k.same

  ends_done : n ≤ d → record { done = d; number = 0; records = notes; simulation = s } ≡ all
  ends_done h = all_done n d notes s h ∙ k.same

  -- a turn makes it ripe
  pub ripens : d < n → (parts : ℕ) → parts ≤ queue_places → (x : TickRecord) (m : Simulation) → tick_of s ≡ ticked s (moves x (picked m)) → NoneFrom parts m.queue → Ripe all steady n parts d notes x m
  ripens h parts few x m e none =
      record {
        left = h;
        few = few;
        none = none;
        next =
            record {
              same = goes_on n d notes s h x (picked m) e ∙ k.same;
              typed = subst (λ (y : Ticked). Typed y.simulation) e (tick_typed s k.typed);
              keeps = λ t. subst (λ (y : Ticked). Steady y.simulation) e (tick_steady s (k.keeps t));
            };
      }

module _ (all : Recorded) (steady : Bool) (n parts d : ℕ) (notes : List Noted) (note : TickRecord) (m : Simulation) where
  -- a state that is ripe is none to end with: its tick is left
  pub ends_kept : (b : Bool) → Kept b all steady n parts d notes note m → n ≤ d → record { done = d; number = 0; records = notes; simulation = m } ≡ all
  ends_kept false k h = ends_done all steady n d notes m k h
  ends_kept true k h = let more = k.left in absurd (omega (arith, more, h))

  module _ (k : Ripe all steady n parts d notes note m) where
    picked-long : (p : Picked) (t : Option Time) → length (removed m.queue p t) ≡ length m.queue
    picked-long p None = refl
    picked-long p (Some t) = length-set m.queue p.part no_queued

    pub ripe_full : length m.queue ≡ queue_places
    unfolding picked
    ripe_full = let p = pick_of m.queue in sym (picked-long p p.time) ∙ k.next.typed.full.queue

    -- the pick makes it due
    pub picked-due : (s : Simulation) → s ≡ picked m → (at : ℕ) → at ≡ d % batch → (x : Noted) → x ≡ noted_with note (line_at m 0) → Due all steady n (d + 1) (set notes at x) s
    unfolding picked
    picked-due s e at ea x ex = rw (e, ea, ex) k.next

-- ---- what is in range in a fit state

module _ (s : Simulation) (e : fit s ≡ true) where
  pub senders_few : s.network.senders ≤ 16
  senders_few = few_senders (accepted s (fit-state s e))

  -- the bits that waiting packets carry, each its sender's
  carried_few : FitState s → (xs : List Waiting) → every (carries s) xs ≡ true → every (packet_fit s) (map (λ x. x.packet) xs) ≡ true → total_bits xs ≤ length xs * 16777216
  carried_few f [] own named = omega arith
  carried_few f (x ∷ xs) own named =
      let same : x.bits.0 ≡ (packet_bits s.network x.packet).0 = eqb-true _ _ (both_l (carries s x) (every (carries s) xs) own) in
      let there = names_sender s f x.packet (both_l (packet_fit s x.packet) (every (packet_fit s) (map (λ y. y.packet) xs)) named) in
      let rest = carried_few f xs (both_r (carries s x) (every (carries s) xs) own) (both_r (packet_fit s x.packet) (every (packet_fit s) (map (λ y. y.packet) xs)) named) in
      omega (arith, same, few_bits (accepted s f) x.packet.sender there, rest)

  -- of line l, which is there
  module _ (full : Full s) (l : ℕ) (there : l < line_count s.network) where
    pub waits : Sound s.waiting l (line_at s l).waiting
    waits = (rings s (fit-state s e) l there full).0

    pub moving : Sound s.on_line l (line_at s l).on_line
    moving = (rings s (fit-state s e) l there full).1

    at-line : (g : ℕ → Bool) → each_line s g ≡ true → g l ≡ true
    at-line g h = up_to-at (line_count s.network) g h l there

    -- a sender's packet finds room in the waiting bits
    pub room : (i : ℕ) → i < s.network.senders → (line_at s l).buffer_contains.0 + (sender_bits s.network i).0 < 2 ^ 64
    unfolding bits_fit packets_fit carried_fit
    room i h =
        let f = fit-state s e in
        let held : (line_at s l).buffer_contains.0 ≡ total_bits (waiting_items s l) = eqb-true _ _ (at-line (λ j. eqb (line_at s j).buffer_contains.0 (total_bits (waiting_items s j))) f.bits) in
        let many : length (waiting_items s l) ≡ (line_at s l).waiting.count = items-length no_waiting s.waiting l (line_at s l).waiting in
        let carried = at-line (λ j. every (carries s) (waiting_items s j)) f.carried in
        let packets = at-line (λ j. every (packet_fit s) (waiting_packets s j) && every (packet_fit s) (on_line_packets s j)) f.packets in
        let few = carried_few f (waiting_items s l) carried (both_l (every (packet_fit s) (waiting_packets s l)) (every (packet_fit s) (on_line_packets s l)) packets) in
        omega (arith, waits.count, held, many, few, few_bits (accepted s f) i h)

    -- the packet that leaves is its owner's, a sender that is there
    pub own-packet : (k : ℕ) → k ≡ owner_of (front_of s l).packet → (c : LinkActed) → c ≡ link_acted (link_values (values_of s.network l)) (line_at s l) s.head.clock (front_of s l) (first_of s l)
        → (p : Packet) → c.left ≡ Left.Out p → (p.sender ≡ k) × (k < s.network.senders)
    unfolding link_acted try_deliver is_due
    own-packet k owns c g p h =
        by (leb 1 (line_at s l).on_line.count) (eq (front_of s l).due.0.0 s.head.clock.0.0) (lt (unit_of (line_at s l).rng).value (values_of s.network l).loss) refl
        (sym (ap (λ (x : LinkActed). x.left) g) ∙ h)
      where
        delivered : Bool → Bool → Bool → Delivered
        delivered a b c =
            cond (a && b)
            (cond c (record { left = Left.Lost (front_of s l).packet; line = departed (line_at s l) }) (record { left = Left.Out (front_of s l).packet; line = departed (line_at s l) }))
            (record { left = Left.Nobody; line = line_at s l })

        by : (a b c : Bool) → leb 1 (line_at s l).on_line.count ≡ a → (delivered a b c).left ≡ Left.Out p → (p.sender ≡ k) × (k < s.network.senders)
        by true true true n o = let no : ◌≡◌ {A = ℕ} 0 1 = cc in absurd (omega arith)
        by true true false n o =
            let some : 0 < (line_at s l).on_line.count = leb-true 1 _ n in
            let named = front-sender s (fit-state s e) l there moving some in
            let one : (front_of s l).packet.sender < 16 = omega (arith, named, senders_few) in
            let same : p ≡ (front_of s l).packet = cc in
            let owner : k ≡ (front_of s l).packet.sender = owns ∙ rw (lt-ltb _ _ one) in
            (ap (λ (q : Packet). q.sender) same ∙ sym owner, omega (arith, named, owner))
        by true false c n o = let no : ◌≡◌ {A = ℕ} 0 1 = cc in absurd (omega arith)
        by false b c n o = let no : ◌≡◌ {A = ℕ} 0 1 = cc in absurd (omega arith)
