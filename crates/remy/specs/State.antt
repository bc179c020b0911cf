-- The state of a simulation: its parts by number, what stands for an element that is not there, and one setter for each field. Definitions only.
use Rattle.std.specs.Prelude.{ℕ, zero, suc, ◌+◌, ◌*◌, ◌-◌, ◌/◌, ◌%◌, Bool, true, false, ◌&&◌, cond, List, [], ◌∷◌, map, get_or, set, ltb, eqb, Option, Some, None}
use Rattle.std.specs.Float.{nan}
use Rattle.quantities.specs.declared.time.Time.{Time}
use Rattle.quantities.specs.declared.information.Information.{Information}
use Rattle.quantities.specs.Units.{span_of, time_of, amount_of}
use Rattle.draws.specs.declared.generator.Rng.{Rng}
use Rattle.meters.specs.declared.meter.AverageFlowMeter.{AverageFlowMeter}
use Rattle.link.specs.declared.packet.Packet.{Packet}
use Rattle.link.specs.declared.packet.Waiting.{Waiting}
use Rattle.link.specs.declared.packet.Transit.{Transit}
use Rattle.link.specs.declared.link.Line.{Line}
use Rattle.link.specs.declared.link.LineValues.{LineValues}
use Rattle.sender.specs.declared.lossy.SenderState.TheVariants as State
use Rattle.sender.specs.declared.lossy.LossySender.{LossySender}
use Rattle.toggler.specs.declared.toggler.Toggler.{Toggler}
use Rattle.toggler.specs.declared.tick_queue.Queued.{Queued}
use Rattle.link.specs.Ring.{slot_of, items}
use Rattle.toggler.specs.Queue.{no_queued}
use Rattle.remy.specs.declared.network.RemyNetwork.{RemyNetwork}
use Rattle.remy.specs.declared.simulation.Head.{Head}
use Rattle.remy.specs.declared.simulation.Simulation.{Simulation}

-- ---- lines: the first is line 0, and a return line (document 02, K4) is line 1

abbrev pub has_back : Option LineValues → Bool
has_back None = false
has_back (Some v) = true

-- how many lines a network has
abbrev pub line_count : RemyNetwork → ℕ
line_count n = cond (has_back n.back) 2 1

-- the values of line l
abbrev pub back_values : LineValues → Option LineValues → LineValues
back_values first None = first
back_values first (Some v) = v

abbrev pub values_of : RemyNetwork → ℕ → LineValues
values_of n zero = n.line
values_of n (suc l) = back_values n.line n.back

-- ---- parts: link 0, sender i 1 + 2i, toggler i 2 + 2i; with a return line and n senders the bouncer 2n + 1 and its link 2n + 2

-- the link of line l
pub data Role : Type 0 where
  link : ℕ → Role
  bouncer : Role
  sender : ℕ → Role
  toggler : ℕ → Role
  nobody : Role

abbrev pub sender_part : ℕ → ℕ
sender_part i = 1 + 2 * i

abbrev pub toggler_part : ℕ → ℕ
toggler_part i = 2 + 2 * i

-- the role of part k among n senders, with a return line or without
unfoldable pub role_of : ℕ → Bool → ℕ → Role
role_of n back k =
    cond (eqb k 0) (link 0)
    (cond (ltb ((k - 1) / 2) n) (cond (eqb (k % 2) 1) (sender ((k - 1) / 2)) (toggler ((k - 1) / 2)))
    (cond (back && eqb ((k - 1) / 2) n) (cond (eqb (k % 2) 1) bouncer (link 1)) nobody))

abbrev pub role_in : RemyNetwork → ℕ → Role
role_in n k = role_of n.senders (has_back n.back) k

-- how many parts there are among n senders, with a return line or without
abbrev pub part_count : ℕ → Bool → ℕ
part_count n back = cond back 3 1 + 2 * n

-- ---- elements; each default is what the code's arrays give where nothing stands

abbrev pub no_time : Time
no_time = time_of nan

abbrev pub no_packet : Packet
no_packet = record { sender = 0; seq = 0; sent_time = no_time }

abbrev pub no_waiting : Waiting
no_waiting = record { packet = no_packet; bits = amount_of 0 }

abbrev pub no_transit : Transit
no_transit = record { packet = no_packet; due = no_time }

abbrev pub no_words : Rng
no_words = record { s0 = 0; s1 = 0; s2 = 0; s3 = 0 }

abbrev pub no_line : Line
no_line =
    record {
      earliest_transmit = no_time;
      buffer_contains = amount_of 0;
      waiting = record { start = 0; count = 0 };
      on_line = record { start = 0; count = 0 };
      rng = no_words;
    }

abbrev pub no_sender : LossySender
no_sender = record { packets_sent = 0; state = State.WaitingForEnable; rng = no_words }

abbrev pub no_toggler : Toggler
no_toggler = record { enabled = false; next_toggle = no_time; rng = no_words }

abbrev pub no_meter : AverageFlowMeter
no_meter = record { total_time = span_of nan; current_start = None; total = amount_of 0; records = 0; rtt_sum = span_of nan }

abbrev pub line_at : Simulation → ℕ → Line
line_at s l = get_or s.lines l no_line

abbrev pub sender_at : Simulation → ℕ → LossySender
sender_at s i = get_or s.senders i no_sender

abbrev pub toggler_at : Simulation → ℕ → Toggler
toggler_at s i = get_or s.togglers i no_toggler

abbrev pub meter_at : Simulation → ℕ → AverageFlowMeter
meter_at s i = get_or s.meters i no_meter

abbrev pub queued_at : Simulation → ℕ → Option Time
queued_at s k = (get_or s.queue k no_queued).time

-- the first packet that waits for line l, and the first on it
abbrev pub first_of : Simulation → ℕ → Waiting
first_of s l = get_or s.waiting (slot_of l (line_at s l).waiting.start) no_waiting

abbrev pub front_of : Simulation → ℕ → Transit
front_of s l = get_or s.on_line (slot_of l (line_at s l).on_line.start) no_transit

-- the packets that wait for line l, and those on it, in order
abbrev pub waiting_items : Simulation → ℕ → List Waiting
waiting_items s l = items no_waiting s.waiting l (line_at s l).waiting

abbrev pub waiting_packets : Simulation → ℕ → List Packet
waiting_packets s l = map (λ x. x.packet) (waiting_items s l)

abbrev pub on_line_items : Simulation → ℕ → List Transit
on_line_items s l = items no_transit s.on_line l (line_at s l).on_line

abbrev pub on_line_packets : Simulation → ℕ → List Packet
on_line_packets s l = map (λ x. x.packet) (on_line_items s l)

-- Each sender has its own packet bits (document 02, K1): those of sender i, and those of a packet's sender.
abbrev pub sender_bits : RemyNetwork → ℕ → Information
sender_bits n i = amount_of (get_or n.bits i 0)

abbrev pub packet_bits : RemyNetwork → Packet → Information
packet_bits n p = sender_bits n p.sender

-- the sum of the bits that waiting packets carry
abbrev pub total_bits : List Waiting → ℕ
total_bits [] = 0
total_bits (x ∷ xs) = x.bits.0 + total_bits xs

-- ---- one setter for each field that changes

abbrev pub with_head : Simulation → Head → Simulation
with_head s x =
    record {
      network = s.network;
      head = x;
      lines = s.lines;
      waiting = s.waiting;
      on_line = s.on_line;
      senders = s.senders;
      togglers = s.togglers;
      meters = s.meters;
      queue = s.queue;
    }

abbrev pub with_lines : Simulation → List Line → Simulation
with_lines s x =
    record {
      network = s.network;
      head = s.head;
      lines = x;
      waiting = s.waiting;
      on_line = s.on_line;
      senders = s.senders;
      togglers = s.togglers;
      meters = s.meters;
      queue = s.queue;
    }

abbrev pub with_waiting : Simulation → List Waiting → Simulation
with_waiting s x =
    record {
      network = s.network;
      head = s.head;
      lines = s.lines;
      waiting = x;
      on_line = s.on_line;
      senders = s.senders;
      togglers = s.togglers;
      meters = s.meters;
      queue = s.queue;
    }

abbrev pub with_on_line : Simulation → List Transit → Simulation
with_on_line s x =
    record {
      network = s.network;
      head = s.head;
      lines = s.lines;
      waiting = s.waiting;
      on_line = x;
      senders = s.senders;
      togglers = s.togglers;
      meters = s.meters;
      queue = s.queue;
    }

abbrev pub with_senders : Simulation → List LossySender → Simulation
with_senders s x =
    record {
      network = s.network;
      head = s.head;
      lines = s.lines;
      waiting = s.waiting;
      on_line = s.on_line;
      senders = x;
      togglers = s.togglers;
      meters = s.meters;
      queue = s.queue;
    }

abbrev pub with_togglers : Simulation → List Toggler → Simulation
with_togglers s x =
    record {
      network = s.network;
      head = s.head;
      lines = s.lines;
      waiting = s.waiting;
      on_line = s.on_line;
      senders = s.senders;
      togglers = x;
      meters = s.meters;
      queue = s.queue;
    }

abbrev pub with_meters : Simulation → List AverageFlowMeter → Simulation
with_meters s x =
    record {
      network = s.network;
      head = s.head;
      lines = s.lines;
      waiting = s.waiting;
      on_line = s.on_line;
      senders = s.senders;
      togglers = s.togglers;
      meters = x;
      queue = s.queue;
    }

abbrev pub with_queue : Simulation → List Queued → Simulation
with_queue s x =
    record {
      network = s.network;
      head = s.head;
      lines = s.lines;
      waiting = s.waiting;
      on_line = s.on_line;
      senders = s.senders;
      togglers = s.togglers;
      meters = s.meters;
      queue = x;
    }

-- one element anew
abbrev pub with_line : Simulation → ℕ → Line → Simulation
with_line s l x = with_lines s (set s.lines l x)

abbrev pub with_sender : Simulation → ℕ → LossySender → Simulation
with_sender s i x = with_senders s (set s.senders i x)

abbrev pub with_toggler : Simulation → ℕ → Toggler → Simulation
with_toggler s i x = with_togglers s (set s.togglers i x)

abbrev pub with_meter : Simulation → ℕ → AverageFlowMeter → Simulation
with_meter s i x = with_meters s (set s.meters i x)

abbrev pub with_queued : Simulation → ℕ → Option Time → Simulation
with_queued s k t = with_queue s (set s.queue k (record { time = t }))
