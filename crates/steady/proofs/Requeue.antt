-- The queue under the stores of a tick: a store that one part alone reads leaves the other places right, and the requeue puts that part's place right. Assumes nothing.
use Rattle.std.proofs.Common.{Option, Some, None}
use mathlib.Core.Path.{◌≡◌, refl, ap, ap₂, subst, ◌∙◌}
use mathlib.Core.Bool.{◌&&◌}
use mathlib.Core.List.{List}
use Prim.Native.Nat.{ℕ, ◌<◌}
use native.Mathlib.Decide.{ℕ_discrete}
use native.Mathlib.Omega.{arith}
use borrow.Author.Tests.{eqb-false}
use lib.Dec.{eqb}
use lib.ListN.{length, get_or, set, length-set}
use lib.Seq.{get_or-set_same, get_or-set_other}
use lib.Ieee.{le}
use Rattle.quantities.specs.declared.time.Time.{Time}
use Rattle.quantities.specs.Units.{latest_of}
use Rattle.meters.specs.declared.meter.AverageFlowMeter.{AverageFlowMeter}
use Rattle.link.specs.declared.packet.Waiting.{Waiting}
use Rattle.link.specs.declared.packet.Transit.{Transit}
use Rattle.link.specs.declared.link.Line.{Line}
use Rattle.sender.specs.declared.lossy.Policy.{Policy}
use Rattle.sender.specs.declared.lossy.Enabled.{Enabled}
use Rattle.sender.specs.declared.lossy.SenderState.{SenderState}
use Rattle.sender.specs.declared.lossy.SenderState.TheVariants as State
use Rattle.sender.specs.declared.lossy.LossySender.{LossySender}
use Rattle.toggler.specs.declared.toggler.Toggler.{Toggler}
use Rattle.toggler.specs.declared.tick_queue.Queued.{Queued}
use Rattle.link.specs.Ring.{slot_of, items, popped}
use Rattle.link.specs.Link.{next_transmit, next_deliver, next_tick}
use Rattle.sender.specs.Sender.{may_send, next_send, state_next, sender_next}
use Rattle.toggler.specs.Queue.{queue_places, no_queued}
use Rattle.link.proofs.Items.{items_pop}
use Rattle.remy.specs.declared.simulation.Simulation.{Simulation}
use Rattle.remy.specs.State.{line_count, Role, link, bouncer, sender, toggler, nobody, sender_part, toggler_part, role_in, no_transit, no_line, no_sender, no_toggler, line_at, sender_at, front_of, queued_at, with_sender, with_toggler, with_meter, with_meters, with_queue, with_queued}
use Rattle.remy.specs.Queue.{own_time, next_time_of, part_of, requeue}
use Rattle.remy.specs.Fit.{held, held_queued, same_time}
use Rattle.remy.proofs.Steps.{cond_elim}
use Rattle.remy.proofs.Roles.{Real, role_at, role_of_lem}
use Rattle.remy.proofs.Lists.{All, all_first}
use Rattle.steady.proofs.Facts.{Held, TransitOk, StateOk, TimerIfAny, Body, sent_of, PlaceOk, QueueBut, QueueOk}
use Rattle.remy.proofs.Full.{full_queue}
use Rattle.steady.proofs.Stores.{Beside}
use Rattle.steady.proofs.LineSteps.{renewed}
use Rattle.steady.proofs.Ahead.{Ahead, ahead-queued, same_self, ahead_now, ahead_latest, ahead_earliest}

-- ---- stores

held_same : (s s' : Simulation) (x : Option Time) → s'.head.clock ≡ s.head.clock → held_queued s' x ≡ held_queued s x
held_same s s' None c = refl
held_same s s' (Some t) c = ap (λ (u : Time). held t && le u.0.0 t.0.0) c

-- a place whose clock, queued time and own next time are as before
place_same : (s s' : Simulation) (k : ℕ) → s'.head.clock ≡ s.head.clock → queued_at s' k ≡ queued_at s k → next_time_of s' k ≡ next_time_of s k
    → PlaceOk s k → PlaceOk s' k
place_same s s' k c q e p =
    record {
      own = ap₂ same_time q e ∙ p.own;
      ahead = held_same s s' (queued_at s' k) c ∙ ap (held_queued s) q ∙ p.ahead;
    }

-- a store that only the part j reads
part_changes : (j : ℕ) (s s' : Simulation) → s'.network ≡ s.network → s'.head.clock ≡ s.head.clock → s'.queue ≡ s.queue
    → ((role : Role) → Real s.network role → (part_of s.network.senders role ≡ j → ⊥) → own_time s' role ≡ own_time s role) → QueueBut j s → QueueBut j s'
part_changes j s s' n c q same but k h other =
    place_same s s' k c (ap (λ (l : List Queued). (get_or l k no_queued).time) q)
    (ap (λ m. own_time s' (role_in m k)) n
    ∙ role_at (λ (role : Role). own_time s' role ≡ own_time s role) s.network k
    (λ role r e. same role r (λ (f : part_of s.network.senders role ≡ j). other (e ∙ f)))
    (unfold own_time in refl))
    (but k h other)

-- line l anew: the other line's next time is read from that line, whose first due time is as it was
pub line_changes : (s : Simulation) → Body s → (l : ℕ) (x : Line) (waiting : List Waiting) (moving : List Transit) → Beside no_transit s.on_line l moving
    → QueueBut (part_of s.network.senders (link l)) s → QueueBut (part_of s.network.senders (link l)) (renewed s l x waiting moving)
line_changes s b l x waiting moving beside = part_changes (part_of s.network.senders (link l)) s (renewed s l x waiting moving) refl refl refl same
  where
    other-line : (m : ℕ) → m < line_count s.network → (m ≡ l → ⊥) → own_time (renewed s l x waiting moving) (link m) ≡ own_time s (link m)
    other-line m r apart =
        unfold own_time in
        ap (λ (y : Line). next_tick y s.head.clock (get_or moving (slot_of m y.on_line.start) no_transit).due) (get_or-set_other s.lines l m x no_line apart)
        ∙ ap (λ (y : Transit). next_tick (line_at s m) s.head.clock y.due) (beside.others m (line_at s m).on_line.start apart (b.lines m r).moves.start)

    same : (role : Role) → Real s.network role → (part_of s.network.senders role ≡ part_of s.network.senders (link l) → ⊥)
        → own_time (renewed s l x waiting moving) role ≡ own_time s role
    same (link m) r other = other-line m r (λ e. other (ap (λ (k : ℕ). part_of s.network.senders (link k)) e))
    same bouncer r other = unfold own_time in refl
    same (sender i) r other = unfold own_time in refl
    same (toggler i) r other = unfold own_time in refl
    same nobody r other = absurd r

pub sender_changes : (s : Simulation) (i : ℕ) (x : LossySender) → QueueBut (sender_part i) s → QueueBut (sender_part i) (with_sender s i x)
sender_changes s i x = part_changes (sender_part i) s (with_sender s i x) refl refl refl same
  where
    same : (role : Role) → Real s.network role → (part_of s.network.senders role ≡ sender_part i → ⊥) → own_time (with_sender s i x) role ≡ own_time s role
    same (link l) r other = unfold own_time in refl
    same bouncer r other = unfold own_time in refl
    same (sender j) r other =
        unfold own_time in
        ap (λ (y : LossySender). sender_next y s.head.clock) (get_or-set_other s.senders i j x no_sender (λ e. other (ap sender_part e)))
    same (toggler j) r other = unfold own_time in refl
    same nobody r other = absurd r

pub toggler_changes : (s : Simulation) (i : ℕ) (x : Toggler) → QueueBut (toggler_part i) s → QueueBut (toggler_part i) (with_toggler s i x)
toggler_changes s i x = part_changes (toggler_part i) s (with_toggler s i x) refl refl refl same
  where
    same : (role : Role) → Real s.network role → (part_of s.network.senders role ≡ toggler_part i → ⊥) → own_time (with_toggler s i x) role ≡ own_time s role
    same (link l) r other = unfold own_time in refl
    same bouncer r other = unfold own_time in refl
    same (sender j) r other = unfold own_time in refl
    same (toggler j) r other =
        unfold own_time in
        ap (λ (y : Toggler). Some y.next_toggle) (get_or-set_other s.togglers i j x no_toggler (λ e. other (ap toggler_part e)))
    same nobody r other = absurd r

-- no part's own next time is read from the meters or the queue
own_apart : (s : Simulation) (meters : List AverageFlowMeter) (queue : List Queued) (role : Role)
    → own_time (with_queue (with_meters s meters) queue) role ≡ own_time s role
unfolding own_time
own_apart s meters queue (link l) = refl
own_apart s meters queue bouncer = refl
own_apart s meters queue (sender i) = refl
own_apart s meters queue (toggler i) = refl
own_apart s meters queue nobody = refl

pub meter_changes : (j : ℕ) (s : Simulation) (i : ℕ) (m : AverageFlowMeter) → QueueBut j s → QueueBut j (with_meter s i m)
meter_changes j s i m =
    part_changes j s (with_meter s i m) refl refl refl (λ role r other. own_apart s (set s.meters i m) s.queue role)

-- ---- own next times are held, and not before the clock

module _ (s : Simulation) (b : Body s) (l : ℕ) (h : l < line_count s.network) where
  -- the first packet on line l
  pub front_ok : 0 < (line_at s l).on_line.count → TransitOk s.network (sent_of s) s.head.clock l (front_of s l)
  front_ok some =
      let Ok : Transit → Type 0 = TransitOk s.network (sent_of s) s.head.clock l in
      all_first Ok (front_of s l) (items no_transit s.on_line l (popped (line_at s l).on_line))
      (subst (All Ok) (items_pop (b.lines l h).moves no_transit some) (b.lines l h).moving_ok)

  pub transmit_ahead : Ahead s.head.clock (next_transmit (line_at s l) s.head.clock)
  unfolding next_transmit
  transmit_ahead =
      cond_elim (Ahead s.head.clock) (eqb (line_at s l).waiting.count 0) None (Some (latest_of s.head.clock (line_at s l).earliest_transmit))
      (λ e. record { held = tt; from = tt })
      (λ e. ahead_latest s.head.clock b.held (line_at s l).earliest_transmit (b.lines l h).free)

  pub deliver-ahead : Ahead s.head.clock (next_deliver (line_at s l) (front_of s l).due)
  unfolding next_deliver
  deliver-ahead =
      cond_elim (Ahead s.head.clock) (eqb (line_at s l).on_line.count 0) None (Some (front_of s l).due)
      (λ e. record { held = tt; from = tt })
      (λ e.
      let none : (line_at s l).on_line.count ≡ 0 → ⊥ = eqb-false (line_at s l).on_line.count 0 e in
      let ok = front_ok (omega arith) in
      record { held = ok.held; from = ok.ahead })

pub timer_ahead : (policy : Policy) (clock : Time) (timer : Option Time) → TimerIfAny policy clock timer → Ahead clock timer
timer_ahead policy clock None ok = record { held = tt; from = tt }
timer_ahead policy clock (Some t) ok = record { held = ok.held; from = ok.ahead }

pub send_ahead : (sent : ℕ) (e : Enabled) (clock : Time) → Held clock → Ahead clock (next_send sent e clock)
send_ahead sent e clock h = cond_elim (Ahead clock) (may_send sent e) (Some clock) None (λ m. ahead_now clock h) (λ m. record { held = tt; from = tt })

state-ahead : (policy : Policy) (sent : ℕ) (x : SenderState) (clock : Time) → Held clock → StateOk policy clock x → Ahead clock (state_next sent x clock)
state-ahead policy sent State.WaitingForEnable clock h ok = record { held = tt; from = tt }
state-ahead policy sent (State.Enabled e) clock h ok =
    ahead_earliest clock (next_send sent e clock) e.timer (send_ahead sent e clock h) (timer_ahead policy clock e.timer ok.timer)

own-ahead : (s : Simulation) (role : Role) → Body s → Real s.network role → Ahead s.head.clock (own_time s role)
unfolding own_time next_tick sender_next
own-ahead s (link l) b r =
    ahead_earliest s.head.clock (next_transmit (line_at s l) s.head.clock) (next_deliver (line_at s l) (front_of s l).due) (transmit_ahead s b l r) (deliver-ahead s b l r)
own-ahead s bouncer b r = record { held = tt; from = tt }
own-ahead s (sender i) b r =
    state-ahead s.network.policy (sender_at s i).packets_sent (sender_at s i).state s.head.clock b.held (b.parts i r).state
own-ahead s (toggler i) b r = record { held = (b.parts i r).toggle; from = (b.parts i r).toggle-ahead }
own-ahead s nobody b r = absurd r

-- ---- the requeue

-- The part is queued at its own next time. Of the state this reads no more than that time, so that it holds between a toggler's tick and its sender's.
pub requeued_ahead : (s : Simulation) (role : Role) → length s.queue ≡ queue_places → Ahead s.head.clock (own_time s role)
    → Real s.network role → QueueBut (part_of s.network.senders role) s → QueueOk (requeue s role)
unfolding requeue
requeued_ahead s role full ahead r but k h = at (ℕ_discrete k (part_of s.network.senders role))
  where
    new : Queued
    new = record { time = own_time s role }

    own : (other : Role) → own_time (requeue s role) other ≡ own_time s other
    own other = unfold requeue in own_apart s s.meters (set s.queue (part_of s.network.senders role) new) other

    at : Dec (k ≡ part_of s.network.senders role) → PlaceOk (requeue s role) k
    at (yes e) =
        let there : queued_at (requeue s role) k ≡ own_time s role =
        rw e (ap (λ (q : Queued). q.time) (get_or-set_same s.queue (part_of s.network.senders role) new no_queued (omega arith))) in
        let mine : next_time_of (requeue s role) k ≡ own_time s role =
        own (role_in s.network k) ∙ ap (own_time s) (ap (role_in s.network) e ∙ role_of_lem s.network role r) in
        record {
          own = ap₂ same_time there mine ∙ same_self (own_time s role) ahead.held;
          ahead = ap (held_queued (requeue s role)) there ∙ ahead-queued (requeue s role) (own_time s role) ahead;
        }
    at (no other) =
        place_same s (requeue s role) k refl (ap (λ (q : Queued). q.time) (get_or-set_other s.queue (part_of s.network.senders role) k new no_queued other))
        (own (role_in s.network k)) (but k h other)

pub requeued : (s : Simulation) (role : Role) → Body s → Real s.network role → QueueBut (part_of s.network.senders role) s → QueueOk (requeue s role)
requeued s role b r = requeued_ahead s role b.full.queue (own-ahead s role b r) r

-- nothing but the queue itself reads the queue
queued_body : (s : Simulation) (k : ℕ) (x : Option Time) → Body s → Body (with_queued s k x)
queued_body s k x b =
    let queue = set s.queue k (record { time = x }) in
    record {
      full = full_queue s s.head queue (length-set s.queue k (record { time = x }) ∙ b.full.queue) b.full;
      network = b.network;
      clock = b.clock;
      held = b.held;
      lines = b.lines;
      parts = b.parts;
      records = b.records;
    }

pub requeue-body : (s : Simulation) (role : Role) → Body s → Body (requeue s role)
unfolding requeue
requeue-body s role b = queued_body s (part_of s.network.senders role) (own_time s role) b
