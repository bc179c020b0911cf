-- Document 01, "Tick and history" and the rows 9 to 13 of "Stops", and document 02, K4: the tick. Definitions only.
use Rattle.std.specs.Prelude.{ℕ, zero, suc, Bool, true, false, cond, List, [], ◌∷◌, set, eqb, Option, Some, None}
use Rattle.std.specs.Float.Ieee.{lt}
use Rattle.link.specs.declared.packet.Transit.{Transit}
use Rattle.quantities.specs.Doubles.{zero_f, power}
use Rattle.quantities.specs.Units.{span_of, time_of, rate_of, since}
use Rattle.meters.specs.Meter.{switched_of, recorded_of}
use Rattle.link.specs.declared.packet.Packet.{Packet}
use Rattle.link.specs.declared.packet.Waiting.{Waiting}
use Rattle.link.specs.declared.link.Arrival.{Arrival}
use Rattle.link.specs.declared.link.Left.{Left}
use Rattle.link.specs.declared.link.Delivered.{Delivered}
use Rattle.link.specs.declared.link.Transmitted.{Transmitted}
use Rattle.sender.specs.declared.lossy.Enabled.{Enabled}
use Rattle.sender.specs.declared.lossy.SenderState.{SenderState}
use Rattle.sender.specs.declared.lossy.SenderState.TheVariants as State
use Rattle.sender.specs.declared.lossy.LossySender.{LossySender}
use Rattle.sender.specs.declared.lossy.Sent.{Sent}
use Rattle.sender.specs.declared.lossy.Heard.{Heard}
use Rattle.sender.specs.declared.lossy.Returned.{Returned}
use Rattle.toggler.specs.declared.toggler.Toggled.{Toggled}
use Rattle.link.specs.Ring.{slot_of, place_after}
use Rattle.link.specs.Link.{receive_of, try_deliver, try_transmit}
use Rattle.sender.specs.Sender.{timer_due, tick_timer, tick_send, enabled_of, disabled_of, returned_of}
use Rattle.toggler.specs.Toggler.{toggle_of}
use Rattle.remy.specs.declared.simulation.Simulation.{Simulation}
use Rattle.remy.specs.declared.simulation.Mark.{Mark}
use Rattle.remy.specs.declared.simulation.TickRecord.{TickRecord}
use Rattle.remy.specs.declared.simulation.Ticked.{Ticked}
use Rattle.remy.specs.declared.network.RemyNetwork.{RemyNetwork}
use Rattle.remy.specs.State.{has_back, values_of, Role, link, bouncer, sender, toggler, nobody, role_in, line_at, sender_at, toggler_at, meter_at, first_of, front_of, packet_bits, with_line, with_waiting, with_on_line, with_sender, with_toggler, with_meter}
use Rattle.remy.specs.Queue.{part_of, requeue, picked}
use Rattle.remy.specs.Fit.{fit}

-- ---- records

abbrev pub named : Packet → Option (ℕ × ℕ)
named p = Some (p.sender, p.seq)

-- an empty record: time 0, part 0, no marks
abbrev pub empty_record : TickRecord
empty_record = record { time = time_of zero_f; part = 0; mark = Mark.None; packet = None; started = None }

-- a record at the clock
abbrev pub record_at : Simulation → Role → Mark → Option (ℕ × ℕ) → Option (ℕ × ℕ) → TickRecord
record_at s role mark packet started = record { time = s.head.clock; part = part_of s.network.senders role; mark = mark; packet = packet; started = started }

abbrev pub marked : TickRecord → Mark → TickRecord
marked r mark = record { time = r.time; part = r.part; mark = mark; packet = r.packet; started = r.started }

-- ---- marks of the lines: S, F and L on the first, P, Q and N on a return line

abbrev pub admitted_mark : ℕ → Mark
admitted_mark zero = Mark.Sent
admitted_mark (suc l) = Mark.Passed

abbrev pub full_mark : ℕ → Mark
full_mark zero = Mark.Full
full_mark (suc l) = Mark.FullBack

abbrev pub lost_mark : ℕ → Mark
lost_mark zero = Mark.Lost
lost_mark (suc l) = Mark.LostBack

-- ---- what a part does: a number, the record so far, the state, and its messages

-- a packet to the link of a line, to the bouncer, and to its sender; on or off to a sender
pub data Message : Type 0 where
  arrives : ℕ → Packet → Message
  bounces : Packet → Message
  returns : Packet → Message
  switches : ℕ → Bool → Message

pub record Acted : Type 0 where
  pub number : ℕ
  pub note : TickRecord
  pub simulation : Simulation
  pub messages : List Message

abbrev pub stopped : Simulation → ℕ → Acted
stopped s n = record { number = n; note = empty_record; simulation = s; messages = [] }

-- Link: first the packet that leaves, then the packet that starts.

-- the packet that started, put into a slot
abbrev pub put_on_line : Simulation → ℕ → Option Transit → Simulation
put_on_line s at None = s
put_on_line s at (Some x) = with_on_line s (set s.on_line at x)

abbrev pub begun_name : Option Transit → Option (ℕ × ℕ)
begun_name None = None
begun_name (Some x) = named x.packet

abbrev pub left_record : Simulation → ℕ → Left → Option (ℕ × ℕ) → TickRecord
left_record s l Left.Nobody started = record_at s (link l) Mark.None None started
left_record s l (Left.Lost p) started = record_at s (link l) (lost_mark l) (named p) started
left_record s l (Left.Out p) started = record_at s (link l) Mark.None (named p) started

-- Where a packet that leaves line l goes: to its sender, but from the first line to the bouncer where there is a return line.
abbrev pub to_bouncer : RemyNetwork → ℕ → Bool
to_bouncer n zero = has_back n.back
to_bouncer n (suc l) = false

abbrev pub left_messages : RemyNetwork → ℕ → Left → List Message
left_messages n l Left.Nobody = []
left_messages n l (Left.Lost p) = []
left_messages n l (Left.Out p) = cond (to_bouncer n l) (bounces p) (returns p) ∷ []

abbrev pub link_with : Simulation → ℕ → Delivered → Transmitted → Acted
link_with s l d t =
    cond (eqb t.number 0)
    (record {
      number = 0;
      note = left_record s l d.left (begun_name t.begun);
      simulation = with_line (put_on_line s (slot_of l (place_after d.line.on_line)) t.begun) l t.line;
      messages = left_messages s.network l d.left;
    })
    (stopped s t.number)

unfoldable pub link_acts : Simulation → ℕ → Acted
link_acts s l =
    let v = values_of s.network l in
    let d = try_deliver (line_at s l) s.head.clock (front_of s l) v.loss in
    link_with s l d (try_transmit d.line s.head.clock (first_of s l) (span_of v.delay) (rate_of v.rate))

-- Sender: a timer equal to the clock goes first and alone; else one packet.

abbrev pub enabled_sender : LossySender → ℕ → Enabled → LossySender
enabled_sender x sent e = record { packets_sent = sent; state = State.Enabled e; rng = x.rng }

abbrev pub timer_with : Simulation → ℕ → Enabled → Acted
timer_with s i e =
    record {
      number = 0;
      note = record_at s (sender i) Mark.Timer None None;
      simulation = with_sender s i (enabled_sender (sender_at s i) (sender_at s i).packets_sent e);
      messages = [];
    }

abbrev pub send_with : Simulation → ℕ → Sent → Acted
send_with s i t =
    cond (eqb t.number 0)
    (record {
      number = 0;
      note = record_at s (sender i) Mark.None (named t.packet) None;
      simulation = with_sender s i (enabled_sender (sender_at s i) t.packets_sent t.enabled);
      messages = arrives 0 t.packet ∷ [];
    })
    (stopped s t.number)

-- An off sender has no next time, so in a fit state it is never the next part.
abbrev pub sender_with : Simulation → ℕ → SenderState → Acted
sender_with s i State.WaitingForEnable = stopped s 9
sender_with s i (State.Enabled e) =
    cond (timer_due e s.head.clock)
    (timer_with s i (tick_timer s.network.policy e s.head.clock))
    (send_with s i (tick_send (sender_at s i).packets_sent s.network.policy e s.head.clock i))

unfoldable pub sender_acts : Simulation → ℕ → Acted
sender_acts s i = sender_with s i (sender_at s i).state

-- Toggler: changes, and tells its sender.

abbrev pub toggler_with : Simulation → ℕ → Toggled → Acted
toggler_with s i t =
    cond (eqb t.number 0)
    (record {
      number = 0;
      note = record_at s (toggler i) Mark.None None None;
      simulation = with_toggler s i t.toggler;
      messages = switches i t.toggler.enabled ∷ [];
    })
    (stopped s t.number)

unfoldable pub toggler_acts : Simulation → ℕ → Acted
toggler_acts s i = toggler_with s i (toggle_of (toggler_at s i) s.head.clock s.network.on s.network.off)

-- In a fit state the next part is there, and is not the bouncer, which has no next time.
unfoldable pub acts_of : Simulation → Role → Acted
acts_of s (link l) = link_acts s l
acts_of s bouncer = stopped s 9
acts_of s (sender i) = sender_acts s i
acts_of s (toggler i) = toggler_acts s i
acts_of s nobody = stopped s 9

-- ---- what a message does: the receiver changes, the record is marked, and the receiver is requeued

pub data Outcome : Type 0 where
  moves : TickRecord → Simulation → Outcome
  stops : ℕ → Outcome

-- a packet waits with its sender's bits
abbrev pub waits_with : Simulation → Packet → Waiting
waits_with s p = record { packet = p; bits = packet_bits s.network p }

-- S sent and admitted, F sent and dropped full, P and Q on a return line; 12 where the link stops
abbrev pub arrive_with : TickRecord → Simulation → ℕ → Packet → Arrival → Outcome
arrive_with r s l p a =
    cond (eqb a.number 0)
    (cond a.admitted
    (moves (marked r (admitted_mark l))
    (requeue (with_line (with_waiting s (set s.waiting (slot_of l (place_after (line_at s l).waiting)) (waits_with s p))) l a.line) (link l)))
    (moves (marked r (full_mark l)) (requeue s (link l))))
    (stops a.number)

-- C counted, O old, I ignored; a counted packet goes into the meter, with the time since it was sent
abbrev pub heard_mark : Heard → Mark
heard_mark Heard.Ignored = Mark.Ignored
heard_mark Heard.Old = Mark.Old
heard_mark Heard.Counted = Mark.Counted

abbrev pub heard_meter : Simulation → ℕ → Packet → Heard → Simulation
heard_meter s i p Heard.Ignored = s
heard_meter s i p Heard.Old = s
heard_meter s i p Heard.Counted =
    with_meter s i (recorded_of (meter_at s i) (packet_bits s.network p) (since s.head.clock p.sent_time) s.head.clock).meter

abbrev pub return_with : TickRecord → Simulation → ℕ → Packet → Returned → Outcome
return_with r s i p x = moves (marked r (heard_mark x.heard)) (requeue (heard_meter (with_sender s i x.sender) i p x.heard) (sender i))

-- E on, D off: the sender and its meter
abbrev pub switched_sender : Simulation → ℕ → Bool → LossySender
switched_sender s i true = enabled_of s.network.policy (sender_at s i) s.head.clock
switched_sender s i false = disabled_of (sender_at s i)

abbrev pub switch_mark : Bool → Mark
switch_mark true = Mark.Enabled
switch_mark false = Mark.Disabled

abbrev pub switch_with : TickRecord → Simulation → ℕ → Bool → Outcome
switch_with r s i on =
    moves (marked r (switch_mark on))
    (requeue (with_meter (with_sender s i (switched_sender s i on)) i (switched_of (meter_at s i) on s.head.clock).meter) (sender i))

unfoldable pub deliver : TickRecord → Simulation → Message → Outcome
deliver r s (arrives l p) = arrive_with r s l p (receive_of (values_of s.network l).limit (line_at s l) (packet_bits s.network p))
deliver r s (bounces p) = moves r (requeue s bouncer)
deliver r s (returns p) = return_with r s p.sender p (returned_of s.network.policy (sender_at s p.sender) p)
deliver r s (switches i on) = switch_with r s i on

-- each in its order
abbrev pub deliver_each : Outcome → List Message → Outcome
deliver_each o [] = o
deliver_each (stops n) (m ∷ ms) = stops n
deliver_each (moves r s) (m ∷ ms) = deliver_each (deliver r s m) ms

-- what receivers answer: the bouncer passes its packet on to the second link, source and destination swapped
abbrev pub answers : List Message → List Message
answers [] = []
answers (arrives l p ∷ ms) = answers ms
answers (bounces p ∷ ms) = arrives 1 p ∷ answers ms
answers (returns p ∷ ms) = answers ms
answers (switches i on ∷ ms) = answers ms

-- messages first in, first out: those of the part, then those of their receivers, which are answered by none
abbrev pub deliver_all : Outcome → List Message → Outcome
deliver_all o ms = deliver_each (deliver_each o ms) (answers ms)

-- ---- the tick

-- picks again
abbrev pub pick_again : Outcome → Outcome
pick_again (stops n) = stops n
pick_again (moves r s) = moves r (picked s)

-- A tick runs that part, requeues it, delivers its messages, requeues each receiver, picks again.
abbrev pub outcome_with : Role → Acted → Outcome
outcome_with role a = cond (eqb a.number 0) (pick_again (deliver_all (moves a.note (requeue a.simulation role)) a.messages)) (stops a.number)

unfoldable pub outcome_of : Simulation → Role → Outcome
outcome_of s role = outcome_with role (acts_of s role)

-- a tick that did not move: the state as it was, and an empty record
abbrev pub unmoved : Simulation → ℕ → Ticked
unmoved s n = record { number = n; moved = false; note = empty_record; simulation = s }

abbrev pub ticked : Simulation → Outcome → Ticked
ticked s (stops n) = unmoved s n
ticked s (moves r m) = record { number = 0; moved = true; note = r; simulation = m }

-- Idle (no next component): number 0, "not moved". 10: clock above 2^40 s.
abbrev pub tick_next : Simulation → Option ℕ → Ticked
tick_next s None = unmoved s 0
tick_next s (Some k) = cond (lt (power 40) s.head.clock.0.0) (unmoved s 10) (ticked s (outcome_of s (role_in s.network k)))

-- A tick tests 9, then idle, then 10, then runs and stops at the first of 8, 11, 12 and 13 that it meets.
unfoldable pub tick_of : Simulation → Ticked
tick_of s = cond (fit s) (tick_next s s.head.next) (unmoved s 9)
