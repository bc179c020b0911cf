-- A turn's outcome, as the loop stores it. One variable and one equation for each call of an arm would not do more: these laws hold at the definitions themselves. Assumes nothing.
use Rattle.std.proofs.Common.{Option, Some, None}
use mathlib.Core.Path.{◌≡◌, refl, sym, ap, ◌∙◌}
use mathlib.Core.Bool.{Bool, true, false, cond, true≢false}
use Prim.Native.Nat.{ℕ, ◌+◌, ◌*◌, ◌<◌}
use native.Mathlib.Omega.{arith}
use lib.ListN.{length, get_or, set, length-set}
use lib.Seq.{set-get_or, get_or-set_same, get_or-set_other}
use lib.Dec.{eqb, leb}
use borrow.Author.Tests.{eq-eqb}
use Rattle.link.specs.declared.packet.Transit.{Transit}
use Rattle.quantities.specs.declared.information.Information.{Information}
use Rattle.quantities.specs.Units.{span_of, rate_of, amount_of}
use Rattle.meters.specs.declared.meter.AverageFlowMeter.{AverageFlowMeter}
use Rattle.meters.specs.Meter.{switched_of}
use Rattle.link.specs.declared.packet.Packet.{Packet}
use Rattle.link.specs.declared.link.Line.{Line}
use Rattle.link.specs.declared.link.Arrival.{Arrival}
use Rattle.link.specs.declared.link.Left.{Left}
use Rattle.link.specs.declared.link.Delivered.{Delivered}
use Rattle.link.specs.declared.link.Transmitted.{Transmitted}
use Rattle.toggler.specs.declared.toggler.Toggler.{Toggler}
use Rattle.toggler.specs.declared.toggler.Toggled.{Toggled}
use Rattle.link.specs.Ring.{places, slot_of, place_after}
use Rattle.toggler.specs.Toggler.{toggle_of}
use Rattle.sender.specs.declared.lossy.LossySender.{LossySender}
use Rattle.sender.specs.declared.lossy.SenderState.{SenderState}
use Rattle.sender.specs.declared.lossy.SenderState.TheVariants as State
use Rattle.sender.specs.declared.lossy.Enabled.{Enabled}
use Rattle.sender.specs.declared.lossy.Sent.{Sent}
use Rattle.sender.specs.declared.lossy.Heard.{Heard}
use Rattle.sender.specs.declared.lossy.Returned.{Returned}
use Rattle.link.specs.Link.{admits, admitted, receive_of, try_deliver, try_transmit}
use Rattle.sender.specs.Sender.{returned_of, timer_due, tick_timer, tick_send}
use Rattle.toggler.specs.Queue.{no_queued}
use Rattle.remy.specs.declared.network.RemyNetwork.{RemyNetwork}
use Rattle.remy.specs.declared.simulation.Simulation.{Simulation}
use Rattle.remy.specs.declared.simulation.TickRecord.{TickRecord}
use Rattle.remy.specs.declared.simulation.Mark.TheVariants as Mark
use Rattle.remy.specs.State.{values_of, link, sender, toggler, no_waiting, no_transit, no_line, no_sender, no_toggler, no_meter, line_at, sender_at, toggler_at, meter_at, front_of, first_of, with_line, sender_bits, packet_bits, with_on_line, with_toggler}
use Rattle.remy.specs.Queue.{part_of, own_time, requeue, picked}
use Rattle.remy.specs.Tick.{Acted, named, record_at, marked, arrive_with, arrives, timer_with, send_with, sender_with, sender_acts, toggler_with, toggler_acts, switches, to_bouncer, left_record, left_messages, begun_name, put_on_line, heard_mark, return_with, link_with, link_acts, acts_of, moves, stops, deliver, deliver_all, pick_again, outcome_with, outcome_of}
use Rattle.remy.proofs.Names.{sent_own}
use Rattle.turns.specs.declared.Hearing.{Hearing}
use Rattle.turns.specs.declared.LinkActed.{LinkActed}
use Rattle.turns.specs.declared.SenderActed.{SenderActed}
use Rattle.turns.specs.declared.Arriving.{Arriving}
use Rattle.queueing.specs.Queueing.{link_slot, sender_slot, toggler_slot}
use Rattle.turns.specs.Turns.{link_values, link_acted, on_line_at, passed_on, heard_with, heard_by, link_note, toggler_note, switched_to, sender_acted, timer_took, send_took, sender_took, arrival_mark, arrived_with, arrived_at, waiting_at, sender_note}

-- ---- a packet arrives at the link of line l, sent or passed on

-- the state after it, as the loop stores it
abbrev pub arrived_state : Simulation → ℕ → ℕ → Option Packet → Arriving → Simulation
arrived_state m l bits sending b =
    let slot = slot_of l b.at in
    let place = part_of m.network.senders (link l) in
    record {
      network = m.network;
      head = m.head;
      lines = set m.lines l b.line;
      waiting = set m.waiting slot (waiting_at b.admitted bits sending (get_or m.waiting slot no_waiting));
      on_line = m.on_line;
      senders = m.senders;
      togglers = m.togglers;
      meters = m.meters;
      queue = set m.queue place (link_slot b.arrives b.line m.head.clock (get_or m.on_line (slot_of l b.line.on_line.start) no_transit) (get_or m.queue place no_queued));
    }

-- a packet that is not admitted leaves the line as it was
same_line : (limit : Option ℕ) (x : Line) (bits : Information) → (receive_of limit x bits).admitted ≡ false → (receive_of limit x bits).line ≡ x
unfolding receive_of
same_line limit x bits = by (admits limit x.buffer_contains bits) (leb places x.waiting.count)
  where
    taken-or : Bool → Bool → Arrival
    taken-or t u = cond t (cond u (record { number = 12; admitted = false; line = x }) (record { number = 0; admitted = true; line = admitted x bits })) (record { number = 0; admitted = false; line = x })

    by : (t u : Bool) → (taken-or t u).admitted ≡ false → (taken-or t u).line ≡ x
    by true true e = refl
    by true false e = absurd (true≢false e)
    by false u e = refl

-- nothing arrives
nothing-arrives : (m : Simulation) (l : ℕ) (limit : Option ℕ) (bits : ℕ) → arrived_state m l bits None (arrived_at l limit bits (line_at m l) None) ≡ m
unfolding arrived_at
nothing-arrives m l limit bits =
    rw (set-get_or m.lines l no_line, set-get_or m.waiting (slot_of l (place_after (line_at m l).waiting)) no_waiting, set-get_or m.queue (part_of m.network.senders (link l)) no_queued)

module _ (m : Simulation) (l : ℕ) (full : length m.lines ≡ 2) (few : l < 2) (r : TickRecord) (p : Packet) (bits : ℕ) (own : (packet_bits m.network p).0 ≡ bits) where
  -- as the loop has it
  abbrev received : Arriving
  received = arrived_at l (values_of m.network l).limit bits (line_at m l) (Some p)

  arrives_with : (a : Arrival) (adm : Bool) → a.admitted ≡ adm → (adm ≡ false → a.line ≡ line_at m l) → a.number ≡ 0
      → arrive_with r m l p a ≡ moves (marked r (arrival_mark l a.admitted)) (arrived_state m l bits (Some p) (arrived_with l (line_at m l) a))
  unfolding requeue own_time
  arrives_with a true f g z = rw (eq-eqb _ _ z, f, own, get_or-set_same m.lines l a.line no_line (omega (arith, full, few)))
  arrives_with a false f g z = rw (eq-eqb _ _ z, f, g refl, set-get_or m.lines l no_line, set-get_or m.waiting (slot_of l (place_after (line_at m l).waiting)) no_waiting)

  -- the link reads the bits of the packet's sender
  received-own : deliver r m (arrives l p) ≡ arrive_with r m l p (receive_of (values_of m.network l).limit (line_at m l) (amount_of bits))
  unfolding deliver
  received-own = ap (λ (b : ℕ). arrive_with r m l p (receive_of (values_of m.network l).limit (line_at m l) (amount_of b))) own

  arrives_law : received.number ≡ 0 → deliver r m (arrives l p) ≡ moves (marked r received.mark) (arrived_state m l bits (Some p) received)
  unfolding arrived_at
  arrives_law z =
      let a = receive_of (values_of m.network l).limit (line_at m l) (amount_of bits) in
      received-own ∙ arrives_with a a.admitted refl (same_line (values_of m.network l).limit (line_at m l) (amount_of bits)) z

  arrives_stops : eqb received.number 0 ≡ false → deliver r m (arrives l p) ≡ stops received.number
  unfolding arrived_at
  arrives_stops z = received-own ∙ stop (receive_of (values_of m.network l).limit (line_at m l) (amount_of bits)) z
    where
      stop : (a : Arrival) → eqb a.number 0 ≡ false → arrive_with r m l p a ≡ stops a.number
      stop a y = rw y

-- ---- what the link of line l did

-- the state once the link is queued again, as the loop stores it
abbrev pub acted_state : Simulation → ℕ → ℕ → Line → Option Transit → Simulation
acted_state s l at x begun =
    let on = set s.on_line at (on_line_at begun (get_or s.on_line at no_transit)) in
    let place = part_of s.network.senders (link l) in
    record {
      network = s.network;
      head = s.head;
      lines = set s.lines l x;
      waiting = s.waiting;
      on_line = on;
      senders = s.senders;
      togglers = s.togglers;
      meters = s.meters;
      queue = set s.queue place (link_slot true x s.head.clock (get_or on (slot_of l x.on_line.start) no_transit) (get_or s.queue place no_queued));
    }

put_line : (s : Simulation) (at : ℕ) (begun : Option Transit) → put_on_line s at begun ≡ with_on_line s (set s.on_line at (on_line_at begun (get_or s.on_line at no_transit)))
put_line s at None = rw (set-get_or s.on_line at no_transit)
put_line s at (Some x) = refl

acted : (s : Simulation) (l : ℕ) → length s.lines ≡ 2 → l < 2 → (at : ℕ) (x : Line) (begun : Option Transit) → requeue (with_line (put_on_line s at begun) l x) (link l) ≡ acted_state s l at x begun
unfolding requeue own_time
acted s l full few at x begun =
    ap (λ (m : Simulation). requeue (with_line m l x) (link l)) (put_line s at begun) ∙ rw (get_or-set_same s.lines l x no_line (omega (arith, full, few)))

-- ---- the packet that left comes to its sender, or none left

abbrev pub heard_state : Simulation → ℕ → Hearing → Simulation
heard_state m k h =
    let senders = set m.senders k h.sender in
    record {
      network = m.network;
      head = m.head;
      lines = m.lines;
      waiting = m.waiting;
      on_line = m.on_line;
      senders = senders;
      togglers = m.togglers;
      meters = set m.meters k h.meter;
      queue = set m.queue (1 + 2 * k) (sender_slot h.heard (get_or senders k no_sender) m.head.clock (get_or m.queue (1 + 2 * k) no_queued));
    }

module _ (m : Simulation) (k : ℕ) where
  -- nobody hears of a packet
  unheard : (h : Hearing) → h.heard ≡ false → h.sender ≡ sender_at m k → h.meter ≡ meter_at m k → m ≡ heard_state m k h
  unheard h e f g = rw (e, f, g, set-get_or m.senders k no_sender, set-get_or m.meters k no_meter, set-get_or m.queue (1 + 2 * k) no_queued)

  -- its sender hears of it, and counts with its own bits
  heard_of : (r : TickRecord) (p : Packet) → p.sender ≡ k → (x : Returned) (w : Heard) → x.heard ≡ w
      → return_with r m k p x ≡ moves (marked r (heard_mark x.heard)) (heard_state m k (heard_with (sender_bits m.network k).0 m.head.clock p (meter_at m k) x))
  unfolding requeue own_time
  heard_of r p own x Heard.Ignored e = rw (e, set-get_or m.meters k no_meter)
  heard_of r p own x Heard.Old e = rw (e, set-get_or m.meters k no_meter)
  heard_of r p own x Heard.Counted e = rw (e, own)

  returned_of_lem : (r : TickRecord) (p : Packet) (j : ℕ) → j ≡ k
      → return_with r m j p (returned_of m.network.policy (get_or m.senders j no_sender) p) ≡ return_with r m k p (returned_of m.network.policy (sender_at m k) p)
  returned_of_lem r p j e = rw e

-- a packet that is not passed on comes to its sender
comes_home : (n : RemyNetwork) (l : ℕ) (p : Packet) → passed_on n l (Left.Out p) ≡ None → to_bouncer n l ≡ false
comes_home n l p = by (to_bouncer n l)
  where
    by : (b : Bool) → cond b (Some p) None ≡ None → b ≡ false
    by true e = cc
    by false e = refl

-- and one that is passed on left for the bouncer
pub goes_on : (n : RemyNetwork) (l : ℕ) (left : Left) (p : Packet) → passed_on n l left ≡ Some p → (left ≡ Left.Out p) × (to_bouncer n l ≡ true)
goes_on n l Left.Nobody p e = (cc, cc)
goes_on n l (Left.Lost q) p e = (cc, cc)
goes_on n l (Left.Out q) p e = by (to_bouncer n l) e
  where
    by : (b : Bool) → cond b (Some q) None ≡ Some p → (Left.Out q ≡ Left.Out p) × (b ≡ true)
    by true e = (cc, refl)
    by false e = (cc, cc)

-- m is the state after the link acted
module _ (s m : Simulation) (l k : ℕ) (begun : Option Transit) where
  abbrev hearing : Left → Hearing
  hearing left = heard_by m.network.policy (sender_bits m.network k).0 m.head.clock l left (sender_at m k) (meter_at m k)

  home_law : (left : Left) → ((p : Packet) → left ≡ Left.Out p → p.sender ≡ k) → passed_on s.network l left ≡ None
      → deliver_all (moves (left_record s l left (begun_name begun)) m) (left_messages s.network l left)
      ≡ moves (link_note s.head.clock (part_of s.network.senders (link l)) left begun (hearing left).mark) (heard_state m k (hearing left))
  unfolding heard_by deliver
  home_law Left.Nobody own home = ap (moves (left_record s l Left.Nobody (begun_name begun))) (unheard m k (hearing Left.Nobody) refl refl refl)
  home_law (Left.Lost p) own home = ap (moves (left_record s l (Left.Lost p) (begun_name begun))) (unheard m k (hearing (Left.Lost p)) refl refl refl)
  home_law (Left.Out p) own home =
      rw (comes_home s.network l p home)
      (returned_of_lem m k (left_record s l (Left.Out p) (begun_name begun)) p p.sender (own p refl)
      ∙ heard_of m k (left_record s l (Left.Out p) (begun_name begun)) p (own p refl) (returned_of m.network.policy (sender_at m k) p) _ refl)

-- ---- the packet that left is passed on to the return line

-- the state once the bouncer is queued again, as the loop stores it
abbrev pub bounced_state : Simulation → Simulation
bounced_state m =
    record {
      network = m.network;
      head = m.head;
      lines = m.lines;
      waiting = m.waiting;
      on_line = m.on_line;
      senders = m.senders;
      togglers = m.togglers;
      meters = m.meters;
      queue = set m.queue (1 + 2 * m.network.senders) no_queued;
    }

module _ (s m : Simulation) (l : ℕ) (begun : Option Transit) (p : Packet) (to : to_bouncer s.network l ≡ true) where
  passes : deliver_all (moves (left_record s l (Left.Out p) (begun_name begun)) m) (left_messages s.network l (Left.Out p))
      ≡ deliver (left_record s l (Left.Out p) (begun_name begun)) (bounced_state m) (arrives 1 p)
  unfolding deliver requeue own_time
  passes = rw to

-- ---- a link's turn

-- the packet that leaves, and then the packet that starts
module _ (s : Simulation) (l : ℕ) where
  abbrev delivered : Delivered
  delivered = try_deliver (line_at s l) s.head.clock (front_of s l) (values_of s.network l).loss

  abbrev transmitted : Transmitted
  transmitted = try_transmit delivered.line s.head.clock (first_of s l) (span_of (values_of s.network l).delay) (rate_of (values_of s.network l).rate)

-- what the link did, as the loop has it
module _ (s : Simulation) (l : ℕ) (full : length s.lines ≡ 2) (few : l < 2)
    (c : LinkActed) (e : c ≡ link_acted (link_values (values_of s.network l)) (line_at s l) s.head.clock (front_of s l) (first_of s l)) where
  pub link-stops : eqb c.number 0 ≡ false → outcome_of s (link l) ≡ stops c.number
  unfolding outcome_of acts_of link_acts link_acted
  link-stops z = rw e (by (delivered s l) (transmitted s l) (sym (ap (λ (x : LinkActed). eqb x.number 0) e) ∙ z))
    where
      by : (d : Delivered) (t : Transmitted) → eqb t.number 0 ≡ false → outcome_with (link l) (link_with s l d t) ≡ stops t.number
      by d t z = rw (z, z)

  abbrev acts : Simulation
  acts = acted_state s l (slot_of l c.at) c.line c.begun

  -- then what left is delivered
  link_acted_lem : c.number ≡ 0 → outcome_of s (link l) ≡ pick_again (deliver_all (moves (left_record s l c.left (begun_name c.begun)) acts) (left_messages s.network l c.left))
  unfolding outcome_of acts_of link_acts link_acted
  link_acted_lem z = rw e (by (delivered s l) (transmitted s l) (sym (ap (λ (x : LinkActed). x.number) e) ∙ z))
    where
      by : (d : Delivered) (t : Transmitted) → t.number ≡ 0
          → outcome_with (link l) (link_with s l d t)
          ≡ pick_again (deliver_all (moves (left_record s l d.left (begun_name t.begun)) (acted_state s l (slot_of l (place_after d.line.on_line)) t.line t.begun)) (left_messages s.network l d.left))
      by d t y = rw (eq-eqb _ _ y, acted s l full few (slot_of l (place_after d.line.on_line)) t.line t.begun)

  -- home to its sender k, or nothing left
  pub home_moves : c.number ≡ 0 → (k : ℕ) → ((p : Packet) → c.left ≡ Left.Out p → p.sender ≡ k) → passed_on s.network l c.left ≡ None
      → (h : Hearing) → h ≡ heard_by s.network.policy (sender_bits s.network k).0 s.head.clock l c.left (sender_at s k) (meter_at s k)
      → outcome_of s (link l) ≡ moves (link_note s.head.clock (part_of s.network.senders (link l)) c.left c.begun h.mark) (picked (heard_state acts k h))
  home_moves z k own home h g = rw g (link_acted_lem z ∙ ap pick_again (home_law s acts l k c.begun c.left own home))

  -- on to the return line, by the bouncer
  module _ (p : Packet) (z : c.number ≡ 0) (out : c.left ≡ Left.Out p) (to : to_bouncer s.network l ≡ true) (other : 1 ≡ l → ⊥) (bits : ℕ) (own : (packet_bits s.network p).0 ≡ bits)
      (b : Arriving) (g : b ≡ arrived_at 1 (values_of s.network 1).limit bits (line_at s 1) (Some p)) where
    bounced : outcome_of s (link l) ≡ pick_again (deliver (left_record s l (Left.Out p) (begun_name c.begun)) (bounced_state acts) (arrives 1 p))
    bounced = link_acted_lem z ∙ rw out (ap pick_again (passes s acts l c.begun p to))

    -- the second line is as it was
    arriving : b ≡ arrived_at 1 (values_of s.network 1).limit bits (line_at acts 1) (Some p)
    arriving = g ∙ ap (λ (x : Line). arrived_at 1 (values_of s.network 1).limit bits x (Some p)) (sym (get_or-set_other s.lines l 1 c.line no_line other))

    both : length acts.lines ≡ 2
    both = length-set s.lines l c.line ∙ full

    pub pass_stops : eqb b.number 0 ≡ false → outcome_of s (link l) ≡ stops b.number
    pass_stops y =
        bounced
        ∙ ap pick_again (arrives_stops (bounced_state acts) 1 both (omega arith) (left_record s l (Left.Out p) (begun_name c.begun)) p bits own (sym (ap (λ (x : Arriving). eqb x.number 0) arriving) ∙ y))
        ∙ ap (λ (x : Arriving). stops x.number) (sym arriving)

    pub pass_moves : b.number ≡ 0
        → outcome_of s (link l) ≡ moves (link_note s.head.clock (part_of s.network.senders (link l)) c.left c.begun b.mark) (picked (arrived_state (bounced_state acts) 1 bits (Some p) b))
    pass_moves y =
        rw (out, arriving)
        (bounced
        ∙ ap pick_again (arrives_law (bounced_state acts) 1 both (omega arith) (left_record s l (Left.Out p) (begun_name c.begun)) p bits own (sym (ap (λ (x : Arriving). x.number) arriving) ∙ y)))

-- ---- a toggler's turn

abbrev pub toggler_state : Simulation → ℕ → Toggler → LossySender → AverageFlowMeter → Simulation
toggler_state s i t x m =
    let togglers = set s.togglers i t in
    let senders = set s.senders i x in
    let queue = set s.queue (2 + 2 * i) (toggler_slot (get_or togglers i no_toggler)) in
    record {
      network = s.network;
      head = s.head;
      lines = s.lines;
      waiting = s.waiting;
      on_line = s.on_line;
      senders = senders;
      togglers = togglers;
      meters = set s.meters i m;
      queue = set queue (1 + 2 * i) (sender_slot true (get_or senders i no_sender) s.head.clock (get_or queue (1 + 2 * i) no_queued));
    }

toggler_with_lem : (s : Simulation) (i : ℕ) (t : Toggled) → t.number ≡ 0
    → outcome_with (toggler i) (toggler_with s i t)
    ≡ moves (toggler_note s.head.clock i t.toggler.enabled)
    (picked (toggler_state s i t.toggler (switched_to s.network.policy t.toggler.enabled (sender_at s i) s.head.clock) (switched_of (meter_at s i) t.toggler.enabled s.head.clock).meter))
unfolding deliver requeue own_time
toggler_with_lem s i t z = rw (eq-eqb _ _ z) (by t.toggler.enabled refl)
  where
    by : (b : Bool) → t.toggler.enabled ≡ b
        → pick_again (deliver (record_at s (toggler i) Mark.None None None) (requeue (with_toggler s i t.toggler) (toggler i)) (switches i t.toggler.enabled))
        ≡ moves (toggler_note s.head.clock i t.toggler.enabled)
        (picked (toggler_state s i t.toggler (switched_to s.network.policy t.toggler.enabled (sender_at s i) s.head.clock) (switched_of (meter_at s i) t.toggler.enabled s.head.clock).meter))
    by true e = rw e
    by false e = rw e

pub toggler_moves : (s : Simulation) (i : ℕ) (t : Toggled) → t ≡ toggle_of (toggler_at s i) s.head.clock s.network.on s.network.off → t.number ≡ 0
    → (x : LossySender) → x ≡ switched_to s.network.policy t.toggler.enabled (sender_at s i) s.head.clock
    → (m : AverageFlowMeter) → m ≡ (switched_of (meter_at s i) t.toggler.enabled s.head.clock).meter
    → outcome_of s (toggler i) ≡ moves (toggler_note s.head.clock i t.toggler.enabled) (picked (toggler_state s i t.toggler x m))
unfolding outcome_of acts_of toggler_acts
toggler_moves s i t e z x f m g =
    rw (f, g) (ap (λ (y : Toggled). outcome_with (toggler i) (toggler_with s i y)) (sym e) ∙ toggler_with_lem s i t z)

pub toggler_stops : (s : Simulation) (i : ℕ) (t : Toggled) → t ≡ toggle_of (toggler_at s i) s.head.clock s.network.on s.network.off → eqb t.number 0 ≡ false → outcome_of s (toggler i) ≡ stops t.number
unfolding outcome_of acts_of toggler_acts
toggler_stops s i t e z = ap (λ (y : Toggled). outcome_with (toggler i) (toggler_with s i y)) (sym e) ∙ rw (z, z)

-- ---- a sender's turn

-- the state once the sender is queued again, as the loop stores it
abbrev pub sent_state : Simulation → ℕ → LossySender → Simulation
sent_state s i x =
    let senders = set s.senders i x in
    record {
      network = s.network;
      head = s.head;
      lines = s.lines;
      waiting = s.waiting;
      on_line = s.on_line;
      senders = senders;
      togglers = s.togglers;
      meters = s.meters;
      queue = set s.queue (1 + 2 * i) (sender_slot true (get_or senders i no_sender) s.head.clock (get_or s.queue (1 + 2 * i) no_queued));
    }

abbrev pub sender-state : Simulation → ℕ → SenderActed → Arriving → Simulation
sender-state s i a b = arrived_state (sent_state s i a.sender) 0 (sender_bits s.network i).0 a.sending b

module _ (s : Simulation) (full : length s.lines ≡ 2) (i : ℕ) where
  -- what comes of it at the first line, as the loop has it
  abbrev arriving_at : Option Packet → Arriving
  arriving_at sending = arrived_at 0 s.network.line.limit (sender_bits s.network i).0 (line_at s 0) sending

  -- the sender's turn by what it sends
  by_timer : (t : Enabled)
      → outcome_with (sender i) (timer_with s i t) ≡ moves (sender_note s.head.clock i None Mark.Timer) (picked (sender-state s i (timer_took (sender_at s i) t) (arriving_at None)))
  unfolding requeue own_time
  by_timer t =
      ap (λ (m : Simulation). moves (sender_note s.head.clock i None Mark.Timer) (picked m))
      (sym (nothing-arrives (sent_state s i (timer_took (sender_at s i) t).sender) 0 s.network.line.limit (sender_bits s.network i).0))

  own_bits : {j : ℕ} → j ≡ i → (sender_bits s.network j).0 ≡ (sender_bits s.network i).0
  own_bits own = ap (λ (k : ℕ). (sender_bits s.network k).0) own

  by_send : (t : Sent) → t.packet.sender ≡ i → t.number ≡ 0 → (arriving_at (Some t.packet)).number ≡ 0
      → outcome_with (sender i) (send_with s i t)
      ≡ moves (sender_note s.head.clock i (Some t.packet) (arriving_at (Some t.packet)).mark) (picked (sender-state s i (send_took (sender_at s i) t) (arriving_at (Some t.packet))))
  unfolding requeue own_time
  by_send t own z y =
      rw (eq-eqb _ _ z)
      (ap pick_again
      (arrives_law (sent_state s i (send_took (sender_at s i) t).sender) 0 full (omega arith) (record_at s (sender i) Mark.None (named t.packet) None) t.packet (sender_bits s.network i).0 (own_bits own) y))

  by_full : (t : Sent) → t.packet.sender ≡ i → t.number ≡ 0 → eqb (arriving_at (Some t.packet)).number 0 ≡ false
      → outcome_with (sender i) (send_with s i t) ≡ stops (arriving_at (Some t.packet)).number
  unfolding requeue own_time
  by_full t own z y =
      rw (eq-eqb _ _ z)
      (ap pick_again
      (arrives_stops (sent_state s i (send_took (sender_at s i) t).sender) 0 full (omega arith) (record_at s (sender i) Mark.None (named t.packet) None) t.packet (sender_bits s.network i).0 (own_bits own) y))

  -- by the state of the sender
  abbrev Turn : SenderActed → Arriving → Acted → Type 0
  Turn a b acted = outcome_with (sender i) acted ≡ moves (sender_note s.head.clock i a.sending b.mark) (picked (sender-state s i a b))

  abbrev arriving_of : SenderActed → Arriving
  arriving_of a = arriving_at a.sending

  chosen : (t : Bool) (u : Enabled) (v : Sent) → v.packet.sender ≡ i → (cond t (timer_took (sender_at s i) u) (send_took (sender_at s i) v)).number ≡ 0
      → (arriving_of (cond t (timer_took (sender_at s i) u) (send_took (sender_at s i) v))).number ≡ 0
      → Turn (cond t (timer_took (sender_at s i) u) (send_took (sender_at s i) v)) (arriving_of (cond t (timer_took (sender_at s i) u) (send_took (sender_at s i) v))) (cond t (timer_with s i u) (send_with s i v))
  unfolding arrived_at
  chosen true u v own z y = by_timer u
  chosen false u v own z y = by_send v own z y

  took : (w : SenderState) → (sender_took s.network s.head.clock (sender_at s i) i w).number ≡ 0 → (arriving_of (sender_took s.network s.head.clock (sender_at s i) i w)).number ≡ 0
      → Turn (sender_took s.network s.head.clock (sender_at s i) i w) (arriving_of (sender_took s.network s.head.clock (sender_at s i) i w)) (sender_with s i w)
  took State.WaitingForEnable z y = absurd (omega (arith, z))
  took (State.Enabled e) z y =
      chosen (timer_due e s.head.clock) (tick_timer s.network.policy e s.head.clock) (tick_send (sender_at s i).packets_sent s.network.policy e s.head.clock i) (sent_own (sender_at s i).packets_sent s e i) z y

  pub sender-moves : (a : SenderActed) → a ≡ sender_acted s.network s.head.clock (sender_at s i) i → a.number ≡ 0
      → (b : Arriving) → b ≡ arrived_at 0 s.network.line.limit (sender_bits s.network i).0 (line_at s 0) a.sending → b.number ≡ 0
      → outcome_of s (sender i) ≡ moves (sender_note s.head.clock i a.sending b.mark) (picked (sender-state s i a b))
  unfolding outcome_of acts_of sender_acts sender_acted
  sender-moves a e z b f y =
      rw (f, e)
      (took (sender_at s i).state (sym (ap (λ (x : SenderActed). x.number) e) ∙ z) (sym (ap (λ (x : Arriving). x.number) (f ∙ ap arriving_of e)) ∙ y))

  -- stopped before it sends
  chosen_stops : (t : Bool) (u : Enabled) (v : Sent) → eqb (cond t (timer_took (sender_at s i) u) (send_took (sender_at s i) v)).number 0 ≡ false
      → outcome_with (sender i) (cond t (timer_with s i u) (send_with s i v)) ≡ stops (cond t (timer_took (sender_at s i) u) (send_took (sender_at s i) v)).number
  chosen_stops true u v z = absurd (true≢false z)
  chosen_stops false u v z = rw (z, z)

  took_stops : (w : SenderState) → eqb (sender_took s.network s.head.clock (sender_at s i) i w).number 0 ≡ false
      → outcome_with (sender i) (sender_with s i w) ≡ stops (sender_took s.network s.head.clock (sender_at s i) i w).number
  took_stops State.WaitingForEnable z = refl
  took_stops (State.Enabled e) z =
      chosen_stops (timer_due e s.head.clock) (tick_timer s.network.policy e s.head.clock) (tick_send (sender_at s i).packets_sent s.network.policy e s.head.clock i) z

  pub sender-stops : (a : SenderActed) → a ≡ sender_acted s.network s.head.clock (sender_at s i) i → eqb a.number 0 ≡ false → outcome_of s (sender i) ≡ stops a.number
  unfolding outcome_of acts_of sender_acts sender_acted
  sender-stops a e z = rw e (took_stops (sender_at s i).state (sym (ap (λ (x : SenderActed). eqb x.number 0) e) ∙ z))

  -- stopped where the packet arrives
  chosen_full : (t : Bool) (u : Enabled) (v : Sent) → v.packet.sender ≡ i → (cond t (timer_took (sender_at s i) u) (send_took (sender_at s i) v)).number ≡ 0
      → eqb (arriving_of (cond t (timer_took (sender_at s i) u) (send_took (sender_at s i) v))).number 0 ≡ false
      → outcome_with (sender i) (cond t (timer_with s i u) (send_with s i v)) ≡ stops (arriving_of (cond t (timer_took (sender_at s i) u) (send_took (sender_at s i) v))).number
  unfolding arrived_at
  chosen_full true u v own z y = absurd (true≢false y)
  chosen_full false u v own z y = by_full v own z y

  took_full : (w : SenderState) → (sender_took s.network s.head.clock (sender_at s i) i w).number ≡ 0
      → eqb (arriving_of (sender_took s.network s.head.clock (sender_at s i) i w)).number 0 ≡ false
      → outcome_with (sender i) (sender_with s i w) ≡ stops (arriving_of (sender_took s.network s.head.clock (sender_at s i) i w)).number
  took_full State.WaitingForEnable z y = absurd (omega (arith, z))
  took_full (State.Enabled e) z y =
      chosen_full (timer_due e s.head.clock) (tick_timer s.network.policy e s.head.clock) (tick_send (sender_at s i).packets_sent s.network.policy e s.head.clock i) (sent_own (sender_at s i).packets_sent s e i) z y

  pub sender-full : (a : SenderActed) → a ≡ sender_acted s.network s.head.clock (sender_at s i) i → a.number ≡ 0
      → (b : Arriving) → b ≡ arrived_at 0 s.network.line.limit (sender_bits s.network i).0 (line_at s 0) a.sending → eqb b.number 0 ≡ false → outcome_of s (sender i) ≡ stops b.number
  unfolding outcome_of acts_of sender_acts sender_acted
  sender-full a e z b f y =
      rw (f, e) (took_full (sender_at s i).state (sym (ap (λ (x : SenderActed). x.number) e) ∙ z) (sym (ap (λ (x : Arriving). eqb x.number 0) (f ∙ ap arriving_of e)) ∙ y))
