-- A steady state by the parts of the state that each fact reads: a line with its packets, a sender with its toggler and meter, a place of the queue. Assumes nothing.
use Rattle.std.proofs.Common.{Option, Some}
use mathlib.Core.Path.{◌≡◌}
use mathlib.Core.Bool.{true, false}
use mathlib.Core.List.{List}
use Prim.Native.Nat.{ℕ, ◌+◌, ◌*◌, ◌≤◌, ◌<◌}
use lib.Dec.{T}
use lib.Ieee.{le}
use Rattle.quantities.specs.declared.time.Time.{Time}
use Rattle.quantities.specs.Doubles.{zero_f, power}
use Rattle.quantities.specs.Units.{span_of, span_after}
use Rattle.draws.specs.declared.generator.Rng.{Rng}
use Rattle.draws.specs.Generator.{all_zero}
use Rattle.meters.specs.declared.meter.AverageFlowMeter.{AverageFlowMeter}
use Rattle.meters.specs.Meter.{is_on, total_fit, sum_fit}
use Rattle.link.specs.declared.packet.Packet.{Packet}
use Rattle.link.specs.declared.packet.Waiting.{Waiting}
use Rattle.link.specs.declared.packet.Transit.{Transit}
use Rattle.link.specs.declared.link.Line.{Line}
use Rattle.sender.specs.declared.lossy.Policy.{Policy}
use Rattle.sender.specs.declared.lossy.Enabled.{Enabled}
use Rattle.sender.specs.declared.lossy.SenderState.{SenderState}
use Rattle.sender.specs.declared.lossy.SenderState.TheVariants as State
use Rattle.sender.specs.declared.lossy.LossySender.{LossySender}
use Rattle.toggler.specs.declared.toggler.Toggler.{Toggler}
use Rattle.link.specs.Ring.{items}
use Rattle.toggler.specs.Queue.{queue_places}
use Rattle.link.proofs.Items.{Sound}
use Rattle.remy.specs.declared.network.RemyNetwork.{RemyNetwork}
use Rattle.remy.specs.declared.simulation.Simulation.{Simulation}
use Rattle.remy.specs.Network.{window_fit, network_stop}
use Rattle.remy.specs.State.{line_count, values_of, no_waiting, no_transit, line_at, sender_at, toggler_at, meter_at, queued_at, sender_bits, packet_bits, total_bits}
use Rattle.remy.specs.Queue.{next_time_of}
use Rattle.remy.specs.Fit.{is_timed, sender_on, same_time, held_queued, rising, sum_to, under_way}
use Rattle.remy.proofs.Lists.{All}
use Rattle.remy.specs.HeldTimes.{Full, IfAny}

-- two moments in order
abbrev pub NotAfter : Time → Time → Type 0
NotAfter t u = T (le t.0.0 u.0.0)

-- a held time: at most 2^41
abbrev pub Held : Time → Type 0
Held t = T (le t.0.0 (power 41))

-- in 0..clock
pub record Past (clock t : Time) : Type 0 where
  pub low : T (le zero_f t.0.0)
  pub high : NotAfter t clock

abbrev pub PastIfAny : Time → Option Time → Type 0
PastIfAny clock x = IfAny (Past clock) x

-- words that are not all zero
abbrev pub Words : Rng → Type 0
Words g = all_zero g ≡ false

-- ---- a line

-- a packet of one of n senders, where sender i sent so many
pub record PacketOk (n : ℕ) (sent : ℕ → ℕ) (clock : Time) (p : Packet) : Type 0 where
  pub own : p.sender < n
  pub first : 1 ≤ p.seq
  pub last : p.seq ≤ sent p.sender
  pub past : Past clock p.sent_time

-- a packet that waits carries its sender's bits
pub record WaitsOk (net : RemyNetwork) (sent : ℕ → ℕ) (clock : Time) (x : Waiting) : Type 0 where
  pub packet : PacketOk net.senders sent clock x.packet
  pub carries : x.bits.0 ≡ (packet_bits net x.packet).0

-- a packet on line l: due from the clock on, not later than the clock and the line's delay
pub record TransitOk (net : RemyNetwork) (sent : ℕ → ℕ) (clock : Time) (l : ℕ) (x : Transit) : Type 0 where
  pub packet : PacketOk net.senders sent clock x.packet
  pub held : Held x.due
  pub ahead : NotAfter clock x.due
  pub soon : NotAfter x.due (span_after clock (span_of (values_of net l).delay))

-- line l, where x is held for it
pub record LineOk (net : RemyNetwork) (sent : ℕ → ℕ) (clock : Time) (l : ℕ) (x : Line) (waiting : List Waiting) (moving : List Transit) : Type 0 where
  pub waits : Sound waiting l x.waiting
  pub moves : Sound moving l x.on_line
  pub bits : x.buffer_contains.0 ≡ total_bits (items no_waiting waiting l x.waiting)
  pub waiting_ok : All (WaitsOk net sent clock) (items no_waiting waiting l x.waiting)
  pub moving_ok : All (TransitOk net sent clock l) (items no_transit moving l x.on_line)
  pub order : rising (items no_transit moving l x.on_line) ≡ true
  pub free : Held x.earliest_transmit
  pub words : Words x.rng

-- ---- a sender with its toggler and meter

-- a timer of a timed policy, from the clock on
pub record TimerOk (policy : Policy) (clock t : Time) : Type 0 where
  pub timed : is_timed policy ≡ true
  pub held : Held t
  pub ahead : NotAfter clock t

abbrev pub TimerIfAny : Policy → Time → Option Time → Type 0
TimerIfAny policy clock x = IfAny (TimerOk policy clock) x

pub record EnabledOk (policy : Policy) (clock : Time) (e : Enabled) : Type 0 where
  pub started : Past clock e.started
  pub ack : e.greatest_ack ≤ 16777216
  pub window : window_fit e.cwnd ≡ true
  pub timer : TimerIfAny policy clock e.timer

abbrev pub StateOk : Policy → Time → SenderState → Type 0
StateOk policy clock State.WaitingForEnable = Unit {0}
StateOk policy clock (State.Enabled e) = EnabledOk policy clock e

-- a meter, of packets of so many bits
pub record MeterOk (size : ℕ) (clock : Time) (m : AverageFlowMeter) : Type 0 where
  pub start : PastIfAny clock m.current_start
  pub total : total_fit m.total_time ≡ true
  pub sum : sum_fit m.records m.rtt_sum ≡ true
  pub bits : m.total.0 ≡ m.records * size

-- its packets have so many bits
pub record PartOk (policy : Policy) (size : ℕ) (clock : Time) (x : LossySender) (t : Toggler) (m : AverageFlowMeter) : Type 0 where
  pub sent : x.packets_sent ≤ 16777216
  pub state : StateOk policy clock x.state
  pub toggler_on : t.enabled ≡ sender_on x.state
  pub toggle : Held t.next_toggle
  pub toggle-ahead : NotAfter clock t.next_toggle
  pub meter-on : is_on m.current_start ≡ sender_on x.state
  pub meter : MeterOk size clock m
  pub words : Words x.rng
  pub toggler_words_lem : Words t.rng

-- ---- the whole state

-- how many packets each sender sent
abbrev pub sent_of : Simulation → ℕ → ℕ
sent_of s i = (sender_at s i).packets_sent

-- sender i with its toggler and meter
abbrev pub PartAt : Simulation → ℕ → Type 0
PartAt s i = PartOk s.network.policy (sender_bits s.network i).0 s.head.clock (sender_at s i) (toggler_at s i) (meter_at s i)

-- line l with its packets
abbrev pub LineAt : Simulation → ℕ → Type 0
LineAt s l = LineOk s.network (sent_of s) s.head.clock l (line_at s l) s.waiting s.on_line

-- how many packets of sender i wait or are on a line
abbrev pub all_under_way : Simulation → ℕ → ℕ
all_under_way s i = sum_to (line_count s.network) (under_way s i)

-- all but the queue
pub record Body (s : Simulation) : Type 0 where
  pub full : Full s
  pub network : network_stop s.network ≡ 0
  pub clock : T (le zero_f s.head.clock.0.0)
  pub held : Held s.head.clock
  pub lines : (l : ℕ) → l < line_count s.network → LineAt s l
  pub parts : (i : ℕ) → i < s.network.senders → PartAt s i
  pub records : (i : ℕ) → i < s.network.senders → (meter_at s i).records + all_under_way s i ≤ (sender_at s i).packets_sent

-- a packet that neither waits nor is on a line, and is not counted: its sender has room for it
pub record Loose (s : Simulation) (p : Packet) : Type 0 where
  pub packet : PacketOk s.network.senders (sent_of s) s.head.clock p
  pub room : (meter_at s p.sender).records + all_under_way s p.sender + 1 ≤ (sender_at s p.sender).packets_sent

-- place k of the queue: the part's own next time, held, not below the clock
pub record PlaceOk (s : Simulation) (k : ℕ) : Type 0 where
  pub own : same_time (queued_at s k) (next_time_of s k) ≡ true
  pub ahead : held_queued s (queued_at s k) ≡ true

-- every place but that of part j
abbrev pub QueueBut : ℕ → Simulation → Type 0
QueueBut j s = (k : ℕ) → k < queue_places → (k ≡ j → ⊥) → PlaceOk s k

abbrev pub QueueOk : Simulation → Type 0
QueueOk s = (k : ℕ) → k < queue_places → PlaceOk s k

-- between ticks, where part j is next: its own next time is the clock, and what is queued at its own place is held and not below the clock
pub record Between (j : ℕ) (s : Simulation) : Type 0 where
  pub body : Body s
  pub next : s.head.next ≡ Some j
  pub own : same_time (Some s.head.clock) (next_time_of s j) ≡ true
  pub place : j < queue_places → held_queued s (queued_at s j) ≡ true
  pub queue : QueueBut j s
