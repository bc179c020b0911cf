-- The pieces of a tick that the loop of ticks calls, on small structs. Definitions only; the crate advance proves that with `queueing` they are the tick definition.
use Rattle.std.specs.Prelude.{ℕ, Bool, true, false, cond, ltb, Option, Some, None}
use Rattle.quantities.specs.declared.time.Time.{Time}
use Rattle.quantities.specs.Units.{span_of, rate_of, amount_of, since}
use Rattle.meters.specs.declared.meter.AverageFlowMeter.{AverageFlowMeter}
use Rattle.meters.specs.Meter.{recorded_of}
use Rattle.link.specs.declared.packet.Packet.{Packet}
use Rattle.link.specs.declared.packet.Waiting.{Waiting}
use Rattle.link.specs.declared.packet.Transit.{Transit}
use Rattle.link.specs.declared.link.Line.{Line}
use Rattle.link.specs.declared.link.LineValues.{LineValues}
use Rattle.link.specs.declared.link.Arrival.{Arrival}
use Rattle.link.specs.declared.link.Left.{Left}
use Rattle.link.specs.declared.link.Delivered.{Delivered}
use Rattle.link.specs.declared.link.Transmitted.{Transmitted}
use Rattle.sender.specs.declared.lossy.Policy.{Policy}
use Rattle.sender.specs.declared.lossy.Enabled.{Enabled}
use Rattle.sender.specs.declared.lossy.SenderState.{SenderState}
use Rattle.sender.specs.declared.lossy.SenderState.TheVariants as State
use Rattle.sender.specs.declared.lossy.LossySender.{LossySender}
use Rattle.sender.specs.declared.lossy.Sent.{Sent}
use Rattle.sender.specs.declared.lossy.Heard.{Heard}
use Rattle.sender.specs.declared.lossy.Returned.{Returned}
use Rattle.link.specs.Ring.{place_after}
use Rattle.link.specs.Link.{receive_of, try_deliver, try_transmit}
use Rattle.sender.specs.Sender.{timer_due, tick_timer, tick_send, enabled_of, disabled_of, returned_of}
use Rattle.remy.specs.declared.network.RemyNetwork.{RemyNetwork}
use Rattle.remy.specs.declared.simulation.Mark.{Mark}
use Rattle.remy.specs.declared.simulation.TickRecord.{TickRecord}
use Rattle.remy.specs.State.{sender_part, toggler_part}
use Rattle.remy.specs.Tick.{named, begun_name, admitted_mark, full_mark, lost_mark, to_bouncer, enabled_sender, heard_mark}
use Rattle.turns.specs.declared.LinkValues.{LinkValues}
use Rattle.turns.specs.declared.LinkActed.{LinkActed}
use Rattle.turns.specs.declared.Hearing.{Hearing}
use Rattle.turns.specs.declared.SenderActed.{SenderActed}
use Rattle.turns.specs.declared.Arriving.{Arriving}

-- ---- a link

abbrev pub owner_of : Packet → ℕ
owner_of p = cond (ltb p.sender 16) p.sender 0

abbrev pub link_took : Delivered → Transmitted → LinkActed
link_took d t = record { number = t.number; left = d.left; begun = t.begun; at = place_after d.line.on_line; line = t.line }

abbrev pub link_values : LineValues → LinkValues
link_values v = record { delay = v.delay; rate = v.rate; loss = v.loss }

-- by the values of its line
unfoldable pub link_acted : LinkValues → Line → Time → Transit → Waiting → LinkActed
link_acted v x clock front first =
    let d = try_deliver x clock front v.loss in
    link_took d (try_transmit d.line clock first (span_of v.delay) (rate_of v.rate))

abbrev pub on_line_at : Option Transit → Transit → Transit
on_line_at None old = old
on_line_at (Some x) old = x

-- what the bouncer passes on of what left line l
abbrev pub passed_on : RemyNetwork → ℕ → Left → Option Packet
passed_on n l Left.Nobody = None
passed_on n l (Left.Lost p) = None
passed_on n l (Left.Out p) = cond (to_bouncer n l) (Some p) None

abbrev pub heard_meter_of : ℕ → Time → Packet → AverageFlowMeter → Heard → AverageFlowMeter
heard_meter_of bits clock p m Heard.Ignored = m
heard_meter_of bits clock p m Heard.Old = m
heard_meter_of bits clock p m Heard.Counted = (recorded_of m (amount_of bits) (since clock p.sent_time) clock).meter

abbrev pub heard_with : ℕ → Time → Packet → AverageFlowMeter → Returned → Hearing
heard_with bits clock p m r = record { heard = true; mark = heard_mark r.heard; sender = r.sender; meter = heard_meter_of bits clock p m r.heard }

-- of what left line l, at a sender with this policy, whose packets have so many bits
unfoldable pub heard_by : Policy → ℕ → Time → ℕ → Left → LossySender → AverageFlowMeter → Hearing
heard_by policy bits clock l Left.Nobody x m = record { heard = false; mark = Mark.None; sender = x; meter = m }
heard_by policy bits clock l (Left.Lost p) x m = record { heard = false; mark = lost_mark l; sender = x; meter = m }
heard_by policy bits clock l (Left.Out p) x m = heard_with bits clock p m (returned_of policy x p)

abbrev pub left_name : Left → Option (ℕ × ℕ)
left_name Left.Nobody = None
left_name (Left.Lost p) = named p
left_name (Left.Out p) = named p

abbrev pub link_note : Time → ℕ → Left → Option Transit → Mark → TickRecord
link_note clock part left begun mark = record { time = clock; part = part; mark = mark; packet = left_name left; started = begun_name begun }

-- ---- a sender

abbrev pub timer_took : LossySender → Enabled → SenderActed
timer_took x e = record { number = 0; sending = None; sender = enabled_sender x x.packets_sent e }

abbrev pub send_took : LossySender → Sent → SenderActed
send_took x t = record { number = t.number; sending = Some t.packet; sender = enabled_sender x t.packets_sent t.enabled }

abbrev pub sender_took : RemyNetwork → Time → LossySender → ℕ → SenderState → SenderActed
sender_took n clock x i State.WaitingForEnable = record { number = 9; sending = None; sender = x }
sender_took n clock x i (State.Enabled e) =
    cond (timer_due e clock) (timer_took x (tick_timer n.policy e clock)) (send_took x (tick_send x.packets_sent n.policy e clock i))

unfoldable pub sender_acted : RemyNetwork → Time → LossySender → ℕ → SenderActed
sender_acted n clock x i = sender_took n clock x i x.state

-- ---- a packet that arrives at the link of line l, sent or passed on

abbrev pub arrival_mark : ℕ → Bool → Mark
arrival_mark l admitted = cond admitted (admitted_mark l) (full_mark l)

abbrev pub arrived_with : ℕ → Line → Arrival → Arriving
arrived_with l x a = record { number = a.number; arrives = true; admitted = a.admitted; at = place_after x.waiting; mark = arrival_mark l a.admitted; line = a.line }

-- nothing arrives: a sender's timer
unfoldable pub arrived_at : ℕ → Option ℕ → ℕ → Line → Option Packet → Arriving
arrived_at l limit bits x None = record { number = 0; arrives = false; admitted = false; at = place_after x.waiting; mark = Mark.Timer; line = x }
arrived_at l limit bits x (Some p) = arrived_with l x (receive_of limit x (amount_of bits))

-- a packet waits with its sender's bits
abbrev pub sent_packet : ℕ → Option Packet → Waiting → Waiting
sent_packet bits None old = old
sent_packet bits (Some p) old = record { packet = p; bits = amount_of bits }

abbrev pub waiting_at : Bool → ℕ → Option Packet → Waiting → Waiting
waiting_at admitted bits sending old = cond admitted (sent_packet bits sending old) old

-- ---- the record of a sender's turn

abbrev pub sending_name : Option Packet → Option (ℕ × ℕ)
sending_name None = None
sending_name (Some p) = named p

abbrev pub sender_note : Time → ℕ → Option Packet → Mark → TickRecord
sender_note clock i sending mark = record { time = clock; part = sender_part i; mark = mark; packet = sending_name sending; started = None }

-- ---- a toggler

abbrev pub switched_to : Policy → Bool → LossySender → Time → LossySender
switched_to policy on x clock = cond on (enabled_of policy x clock) (disabled_of x)

abbrev pub toggler_note : Time → ℕ → Bool → TickRecord
toggler_note clock i on = record { time = clock; part = toggler_part i; mark = cond on Mark.Enabled Mark.Disabled; packet = None; started = None }
