-- Each part's turn keeps a steady state: what it stores, requeues and picks. Assumes nothing.
use Rattle.std.proofs.Common.{Some, None}
use mathlib.Core.Path.{◌≡◌, refl, sym, subst}
use mathlib.Core.Bool.{Bool, true, false, cond, false≢true}
use mathlib.Core.List.{List, [], ◌∷◌}
use Prim.Native.Nat.{ℕ, zero, suc, ◌+◌, ◌≤◌, ◌<◌}
use native.Mathlib.Nat.{le_of_eq}
use native.Mathlib.Omega.{arith}
use borrow.Author.Tests.{eq-eqb, eqb-true}
use lib.Dec.{T, leb, eqb}
use lib.Ieee.{lt, le}
use Rattle.quantities.specs.Doubles.{power}
use Rattle.quantities.specs.Units.{span_of, rate_of}
use Rattle.draws.specs.Draws.{unit_of}
use Rattle.meters.specs.Meter.{switched_of}
use Rattle.link.specs.declared.packet.Packet.{Packet}
use Rattle.link.specs.declared.packet.Waiting.{Waiting}
use Rattle.link.specs.declared.packet.Transit.{Transit}
use Rattle.link.specs.declared.link.Line.{Line}
use Rattle.link.specs.declared.link.Arrival.{Arrival}
use Rattle.link.specs.declared.link.Left.{Left}
use Rattle.link.specs.declared.link.Delivered.{Delivered}
use Rattle.link.specs.declared.link.Transmitted.{Transmitted}
use Rattle.sender.specs.declared.lossy.SenderState.{SenderState}
use Rattle.sender.specs.declared.lossy.SenderState.TheVariants as State
use Rattle.sender.specs.declared.lossy.LossySender.{LossySender}
use Rattle.sender.specs.declared.lossy.Heard.{Heard}
use Rattle.toggler.specs.declared.toggler.Toggled.{Toggled}
use Rattle.link.specs.Ring.{places}
use Rattle.link.specs.Link.{admits, admitted, receive_of, is_due, departed, try_deliver, is_free, not_started, try_transmit}
use Rattle.sender.specs.Sender.{tick_timer, tick_send, timer_due, returned_of}
use Rattle.toggler.specs.Toggler.{toggle_of}
use Rattle.quantities.specs.NewTime.{Double}
use Rattle.toggler.specs.Queue.{pick_of}
use Rattle.remy.specs.declared.network.RemyNetwork.{RemyNetwork}
use Rattle.remy.specs.declared.simulation.Simulation.{Simulation}
use Rattle.remy.specs.declared.simulation.Mark.TheVariants as Mark
use Rattle.remy.specs.declared.simulation.TickRecord.{TickRecord}
use Rattle.remy.specs.State.{has_back, line_count, values_of, Role, link, bouncer, sender, toggler, nobody, role_in, sender_part, toggler_part, line_at, sender_at, toggler_at, meter_at, first_of, front_of, packet_bits, with_sender, with_toggler, with_meter}
use Rattle.remy.specs.Queue.{own_time, part_of, requeue, picked}
use Rattle.remy.specs.Fit.{under_way}
use Rattle.remy.specs.Tick.{named, record_at, Message, arrives, bounces, returns, switches, Acted, stopped, left_record, to_bouncer, left_messages, link_with, link_acts, enabled_sender, timer_with, send_with, sender_with, sender_acts, toggler_acts, acts_of, Outcome, moves, stops, arrive_with, heard_meter, switched_sender, deliver, deliver_all, pick_again, outcome_with, outcome_of}
use Rattle.remy.proofs.Facts.{first-there, second_there}
use Rattle.remy.proofs.Steps.{cond_elim}
use Rattle.remy.proofs.Outcomes.{OnMoves, on-stopped}
use Rattle.remy.proofs.Roles.{Real, role_at}
use Rattle.steady.proofs.Facts.{PacketOk, sent_of, Body, Loose, QueueBut, QueueOk, Between, all_under_way}
use Rattle.steady.proofs.Requeue.{line_changes, sender_changes, toggler_changes, meter_changes, requeued_ahead, requeued, requeue-body}
use Rattle.steady.proofs.Pick.{some_senders, picked-between}
use Rattle.steady.proofs.Times.{Early}
use Rattle.steady.proofs.LineSteps.{count_in, LineNew, renewed, line-body, line_loose, first_by, begun, started, with_begun, with_arrived, line_now, leave_line, leave_packet, leave_count, start-line, start-count, arrive_line, arrive_room}
use Rattle.steady.proofs.PartSteps.{timer_body, send_body, send_loose, return_body, toggle-body}

-- ---- before the pick, and after it

pub record Ready (s : Simulation) : Type 0 where
  pub body : Body s
  pub queue : QueueOk s
  pub some : 1 ≤ s.network.senders

pub record Landed (s : Simulation) : Type 0 where
  pub part : ℕ
  pub between : Between part s

abbrev ReadyBy : TickRecord → Simulation → Type 0
ReadyBy r m = Ready m

abbrev pub LandedBy : TickRecord → Simulation → Type 0
LandedBy r m = Landed m

land : (m : Simulation) → Ready m → Landed (picked m)
land m k = record { part = (pick_of m.queue).part; between = picked-between m k.body k.queue k.some }

lands : (o : Outcome) → OnMoves ReadyBy o → OnMoves LandedBy (pick_again o)
lands (stops n) k = tt
lands (moves r m) k = land m k

-- a state whose part is queued again
ready : (s : Simulation) (role : Role) → Body s → Real s.network role → QueueBut (part_of s.network.senders role) s → 1 ≤ s.network.senders → Ready (requeue s role)
unfolding requeue
ready s role b real q some = record { body = requeue-body s role b; queue = requeued s role b real q; some = some }

-- every part but one, of a whole queue
but : (s : Simulation) (j : ℕ) → QueueOk s → QueueBut j s
but s j q k h apart = q k h

-- a loose packet is so after a requeue too
loose_requeued : (s : Simulation) (role : Role) (p : Packet) → Loose s p → Loose (requeue s role) p
unfolding requeue
loose_requeued s role p l = record { packet = l.packet; room = l.room }

-- ---- a line anew: its link is queued again

line-ready : (s : Simulation) → Body s → (l : ℕ) → l < line_count s.network → (x : Line) (waiting : List Waiting) (moving : List Transit) → LineNew s l x waiting moving
    → ((i : ℕ) → i < s.network.senders → (meter_at s i).records + all_under_way s i + count_in i l x waiting moving ≤ (sender_at s i).packets_sent + under_way s i l)
    → QueueBut (part_of s.network.senders (link l)) s → 1 ≤ s.network.senders → Ready (requeue (renewed s l x waiting moving) (link l))
line-ready s b l h x waiting moving new room q some =
    ready (renewed s l x waiting moving) (link l) (line-body s b l h x waiting moving new room) h (line_changes s b l x waiting moving new.moves q) some

-- ---- a packet that arrives at line l: admitted, dropped full, or refused

arrival : (s : Simulation) (r : TickRecord) (l : ℕ) (p : Packet) → l < line_count s.network → Ready s → Loose s p → OnMoves ReadyBy (deliver r s (arrives l p))
unfolding deliver receive_of
arrival s r l p h k loose =
    let x = line_at s l in
    let bits = packet_bits s.network p in
    let rest = but s (part_of s.network.senders (link l)) k.queue in
    let dropped : Arrival = record { number = 0; admitted = false; line = x } in
    let taken : Arrival = record { number = 0; admitted = true; line = admitted x bits } in
    let full : Arrival = record { number = 12; admitted = false; line = x } in
    let F : Arrival → Type 0 = λ a. OnMoves ReadyBy (arrive_with r s l p a) in
    cond_elim F (admits (values_of s.network l).limit x.buffer_contains bits) (cond (leb places x.waiting.count) full taken) dropped
    (λ fits. cond_elim F (leb places x.waiting.count) full taken
    (λ none. tt)
    (λ room.
    line-ready s k.body l h (admitted x bits) (with_arrived s l p) s.on_line (arrive_line s k.body l h p loose room) (arrive_room s k.body l h p loose room) rest k.some))
    (λ over. ready s (link l) k.body h rest k.some)

-- ---- a packet that comes back

module _ (s : Simulation) (b : Body s) (q : QueueOk s) (early : Early s.head.clock) (r : TickRecord) (p : Packet) (l : Loose s p) where
  heard_queue : (x : LossySender) (h : Heard) → QueueBut (sender_part p.sender) (heard_meter (with_sender s p.sender x) p.sender p h)
  heard_queue x Heard.Ignored = sender_changes s p.sender x (but s (sender_part p.sender) q)
  heard_queue x Heard.Old = sender_changes s p.sender x (but s (sender_part p.sender) q)
  heard_queue x Heard.Counted =
      meter_changes (sender_part p.sender) (with_sender s p.sender x) p.sender _ (sender_changes s p.sender x (but s (sender_part p.sender) q))

  heard_network : (x : LossySender) (h : Heard) → (heard_meter (with_sender s p.sender x) p.sender p h).network ≡ s.network
  heard_network x Heard.Ignored = refl
  heard_network x Heard.Old = refl
  heard_network x Heard.Counted = refl

  back : OnMoves ReadyBy (deliver r s (returns p))
  unfolding deliver
  back =
      let x = returned_of s.network.policy (sender_at s p.sender) p in
      let m = heard_meter (with_sender s p.sender x.sender) p.sender p x.heard in
      let same : m.network ≡ s.network = heard_network x.sender x.heard in
      ready m (sender p.sender) (return_body s b early p l) (subst (λ (n : RemyNetwork). p.sender < n.senders) (sym same) l.packet.own) (heard_queue x.sender x.heard)
      (subst (λ (n : RemyNetwork). 1 ≤ n.senders) (sym same) (omega (arith, l.packet.own)))

-- ---- a packet that the bouncer passes on to the second line; the bouncer itself is queued at no time

has_back_lem : (n : RemyNetwork) (l : ℕ) → to_bouncer n l ≡ true → has_back n.back ≡ true
has_back_lem n zero e = e
has_back_lem n (suc l) e = absurd (false≢true e)

passed_on_lem : (s : Simulation) (r : TickRecord) (p : Packet) → has_back s.network.back ≡ true → Ready s → Loose s p → OnMoves ReadyBy (deliver_all (moves r s) (bounces p ∷ []))
unfolding deliver
passed_on_lem s r p there k loose =
    arrival (requeue s bouncer) r 1 p (unfold requeue in second_there (has_back s.network.back) there)
    (ready s bouncer k.body there (but s (part_of s.network.senders bouncer) k.queue) k.some) (loose_requeued s bouncer p loose)

-- ---- the turn of line l's link

-- how many of sender i's packets left and are not lost
abbrev out_of : Left → ℕ → ℕ
out_of Left.Nobody i = 0
out_of (Left.Lost p) i = 0
out_of (Left.Out p) i = cond (eqb p.sender i) 1 0

-- such a packet is one that its sender sent
abbrev OutOk : Simulation → Left → Type 0
OutOk s Left.Nobody = Unit {0}
OutOk s (Left.Lost p) = Unit {0}
OutOk s (Left.Out p) = PacketOk s.network.senders (sent_of s) s.head.clock p

module _ (s : Simulation) (l : ℕ) (h : l < line_count s.network) (b : Between (part_of s.network.senders (link l)) s) (early : Early s.head.clock) where
  -- the line after it, with what left: the link is queued again, and what left is delivered
  module _ (r : TickRecord) (x : Line) (moving : List Transit) (new : LineNew s l x s.waiting moving) where
    link-ready : ((i : ℕ) → count_in i l x s.waiting moving ≤ under_way s i l) → Ready (requeue (renewed s l x s.waiting moving) (link l))
    link-ready fewer =
        line-ready s b.body l h x s.waiting moving new (λ i g. omega (arith, b.body.records i g, fewer i)) b.queue (some_senders (part_of s.network.senders (link l)) s b)

    goes_on : (left : Left) → OutOk s left → ((i : ℕ) → count_in i l x s.waiting moving + out_of left i ≤ under_way s i l)
        → OnMoves LandedBy (pick_again (deliver_all (moves r (requeue (renewed s l x s.waiting moving) (link l))) (left_messages s.network l left)))
    goes_on Left.Nobody own fewer = land (requeue (renewed s l x s.waiting moving) (link l)) (link-ready (λ i. omega (arith, fewer i)))
    goes_on (Left.Lost p) own fewer = land (requeue (renewed s l x s.waiting moving) (link l)) (link-ready (λ i. omega (arith, fewer i)))
    goes_on (Left.Out p) own fewer =
        let m = requeue (renewed s l x s.waiting moving) (link l) in
        let k : Ready m = link-ready (λ i. omega (arith, fewer i)) in
        let one : count_in p.sender l x s.waiting moving + 1 ≤ under_way s p.sender l = rw (eq-eqb p.sender p.sender refl) at (fewer p.sender) in
        let loose : Loose m p = loose_requeued (renewed s l x s.waiting moving) (link l) p (line_loose s b.body l h x s.waiting moving new p own one) in
        cond_elim (λ (y : Message). OnMoves LandedBy (pick_again (deliver_all (moves r m) (y ∷ [])))) (to_bouncer s.network l) (bounces p) (returns p)
        (λ e. lands (deliver_all (moves r m) (bounces p ∷ [])) (passed_on_lem m r p (unfold requeue in has_back_lem s.network l e) k loose))
        (λ e. lands (deliver r m (returns p)) (back m k.body k.queue (unfold requeue in early) r p loose))

  -- what left, then a packet that starts or does not
  turn : (left : Left) (x : Line) → LineNew s l x s.waiting s.on_line → OutOk s left → ((i : ℕ) → count_in i l x s.waiting s.on_line + out_of left i ≤ under_way s i l)
      → OnMoves LandedBy
      (outcome_with (link l)
      (link_with s l (record { left = left; line = x })
      (try_transmit x s.head.clock (first_by s l x) (span_of (values_of s.network l).delay) (rate_of (values_of s.network l).rate))))
  unfolding try_transmit
  turn left x new own fewer =
      let clock = s.head.clock in
      let F : Transmitted → Type 0 = λ t. OnMoves LandedBy (outcome_with (link l) (link_with s l (record { left = left; line = x }) t)) in
      let starts : Transmitted = record { number = 0; begun = Some (begun s l x); line = started s l x } in
      cond_elim F (is_free x clock) (cond (leb places x.on_line.count) (not_started x 13) starts) (not_started x 0)
      (λ e. cond_elim F (leb places x.on_line.count) (not_started x 13) starts
      (λ full. tt)
      (λ room.
      goes_on (left_record s l left (named (first_by s l x).packet)) (started s l x) (with_begun s l x) (start-line s b.body l h early x new e room) left own
      (λ i. omega (arith, fewer i, start-count s b.body l h early x new e room i))))
      (λ e. goes_on (left_record s l left None) x s.on_line new left own fewer)

  link_lands : OnMoves LandedBy (outcome_of s (link l))
  unfolding outcome_of acts_of link_acts try_deliver
  link_lands =
      let x = line_at s l in
      let p = (front_of s l).packet in
      let v = values_of s.network l in
      let sample = lt (unit_of x.rng).value v.loss in
      let lost : Delivered = record { left = Left.Lost p; line = departed x } in
      let out : Delivered = record { left = Left.Out p; line = departed x } in
      let G : Delivered → Type 0 = λ d. OnMoves LandedBy (outcome_with (link l) (link_with s l d (try_transmit d.line s.head.clock (first_of s l) (span_of v.delay) (rate_of v.rate)))) in
      cond_elim G (is_due x s.head.clock (front_of s l)) (cond sample lost out) (record { left = Left.Nobody; line = x })
      (λ e. cond_elim G sample lost out
      (λ below. turn (Left.Lost p) (departed x) (leave_line s b.body l h e) tt (λ i. omega (arith, leave_count s b.body l h e i)))
      (λ below. turn (Left.Out p) (departed x) (leave_line s b.body l h e) (leave_packet s b.body l h e) (λ i. le_of_eq (leave_count s b.body l h e i))))
      (λ e. turn Left.Nobody x (line_now s b.body l h) tt (λ i. omega arith))

-- ---- a sender's turn

module _ (s : Simulation) (i : ℕ) (h : i < s.network.senders) (b : Between (sender_part i) s) (early : Early s.head.clock) where
  some_sender : 1 ≤ s.network.senders
  some_sender = omega (arith, h)

  -- the sender anew, queued again
  sender-ready : (x : LossySender) → Body (with_sender s i x) → Ready (requeue (with_sender s i x) (sender i))
  sender-ready x body = ready (with_sender s i x) (sender i) body h (sender_changes s i x b.queue) some_sender

  turn_with : (x : SenderState) → (sender_at s i).state ≡ x → OnMoves LandedBy (outcome_with (sender i) (sender_with s i x))
  turn_with State.WaitingForEnable q = tt
  turn_with (State.Enabled e) q =
      let policy = s.network.policy in
      let clock = s.head.clock in
      let sent = (sender_at s i).packets_sent in
      let t = tick_timer policy e clock in
      let u = tick_send sent policy e clock i in
      let F : Acted → Type 0 = λ a. OnMoves LandedBy (outcome_with (sender i) a) in
      cond_elim F (timer_due e clock) (timer_with s i t) (send_with s i u)
      (λ due. land _ (sender-ready (enabled_sender (sender_at s i) sent t) (timer_body s b.body early i h e q)))
      (λ due. cond_elim F (eqb u.number 0)
      (record {
        number = 0;
        note = record_at s (sender i) Mark.None (named u.packet) None;
        simulation = with_sender s i (enabled_sender (sender_at s i) u.packets_sent u.enabled);
        messages = arrives 0 u.packet ∷ [];
      })
      (stopped s u.number)
      (λ z.
      let x = enabled_sender (sender_at s i) u.packets_sent u.enabled in
      let zero_is = eqb-true u.number 0 z in
      let st = requeue (with_sender s i x) (sender i) in
      let r = record_at s (sender i) Mark.None (named u.packet) None in
      lands (deliver r st (arrives 0 u.packet))
      (arrival st r 0 u.packet (first-there (has_back st.network.back)) (sender-ready x (send_body s b.body early i h e q zero_is))
      (loose_requeued (with_sender s i x) (sender i) u.packet (send_loose s b.body early i h e q zero_is))))
      (λ z. on-stopped LandedBy (sender i) s u.number z))

  sender_lands : OnMoves LandedBy (outcome_of s (sender i))
  unfolding outcome_of acts_of sender_acts
  sender_lands = turn_with (sender_at s i).state refl

-- ---- a toggler's turn

module _ (s : Simulation) (i : ℕ) (h : i < s.network.senders) (b : Between (toggler_part i) s) (early : Early s.head.clock) where
  -- a switched sender reads nothing of the queue
  same_switched : (m : Simulation) (on : Bool) → switched_sender m i on ≡ switched_sender (requeue m (toggler i)) i on
  unfolding requeue
  same_switched m true = refl
  same_switched m false = refl

  -- the toggler is queued again, its sender and meter are switched, and the sender is queued again
  abbrev flipped : Toggled
  flipped = toggle_of (toggler_at s i) s.head.clock s.network.on s.network.off

  abbrev queued_again : Simulation
  queued_again = requeue (with_toggler s i flipped.toggler) (toggler i)

  abbrev Switched : LossySender → Type 0
  Switched x = Ready (requeue (with_meter (with_sender queued_again i x) i (switched_of (meter_at s i) flipped.toggler.enabled s.head.clock).meter) (sender i))

  switched : flipped.number ≡ 0 → Switched (switched_sender queued_again i flipped.toggler.enabled)
  unfolding requeue
  switched z =
      let on = flipped.toggler.enabled in
      let s1 = with_toggler s i flipped.toggler in
      let x = switched_sender s1 i on in
      let m = (switched_of (meter_at s i) on s.head.clock).meter in
      let whole : Body (with_meter (with_sender s1 i x) i m) = toggle-body s b.body early i h z in
      let part = whole.parts i h in
      let queue : QueueOk queued_again =
      requeued_ahead s1 (toggler i) b.body.full.queue (unfold own_time in record { held = part.toggle; from = part.toggle-ahead }) h (toggler_changes s i flipped.toggler b.queue) in
      subst Switched (same_switched s1 on)
      (ready (with_meter (with_sender queued_again i x) i m) (sender i) (unfold requeue own_time in requeue-body (with_meter (with_sender s1 i x) i m) (toggler i) whole) h
      (meter_changes (sender_part i) (with_sender queued_again i x) i m (sender_changes queued_again i x (but queued_again (sender_part i) queue))) (omega (arith, h)))

  toggler_lands : OnMoves LandedBy (outcome_of s (toggler i))
  unfolding outcome_of acts_of toggler_acts deliver
  toggler_lands =
      cond_elim (λ (a : Acted). OnMoves LandedBy (outcome_with (toggler i) a)) (eqb flipped.number 0)
      (record { number = 0; note = record_at s (toggler i) Mark.None None None; simulation = with_toggler s i flipped.toggler; messages = switches i flipped.toggler.enabled ∷ [] })
      (stopped s flipped.number)
      (λ z. land _ (unfold requeue in switched (eqb-true flipped.number 0 z)))
      (λ z. on-stopped LandedBy (toggler i) s flipped.number z)

-- ---- every turn

pub turn_lands : (s : Simulation) (j : ℕ) → Between j s → T (le s.head.clock.0.0 (power 40)) → Double s.head.clock
    → OnMoves LandedBy (outcome_of s (role_in s.network j))
turn_lands s j b high double = role_at (λ (role : Role). OnMoves LandedBy (outcome_of s role)) s.network j at (unfold outcome_of acts_of in tt)
  where
    early : Early s.head.clock
    early = record { low = b.body.clock; high = high; double = double }

    at : (role : Role) → Real s.network role → j ≡ part_of s.network.senders role → OnMoves LandedBy (outcome_of s role)
    at (link l) r e = link_lands s l r (subst (λ (k : ℕ). Between k s) e b) early
    at bouncer r e = unfold outcome_of acts_of in tt
    at (sender i) r e = sender_lands s i r (subst (λ (k : ℕ). Between k s) e b) early
    at (toggler i) r e = toggler_lands s i r (subst (λ (k : ℕ). Between k s) e b) early
    at nobody r e = absurd r
