-- Document 01, "Tick and history", "Toggler" and the row 8 of "Stops", and document 02, K4: the built state, and the empty simulation. Definitions only.
use Rattle.std.specs.Prelude.{ℕ, zero, suc, ◌+◌, ◌*◌, false, cond, List, [], ◌∷◌, set, replicate, eqb, None}
use Rattle.quantities.specs.Doubles.{zero_f, power, least}
use Rattle.quantities.specs.Units.{time_of, amount_of}
use Rattle.draws.specs.declared.generator.Rng.{Rng}
use Rattle.draws.specs.declared.distribution.ContinuousDistribution.{ContinuousDistribution}
use Rattle.draws.specs.declared.distribution.ContinuousDistribution.TheVariants.{Always}
use Rattle.draws.specs.Generator.{from_words, from_seed, child_of}
use Rattle.meters.specs.Meter.{new_meter}
use Rattle.link.specs.declared.packet.Packet.{Packet}
use Rattle.link.specs.declared.packet.Waiting.{Waiting}
use Rattle.link.specs.declared.packet.Transit.{Transit}
use Rattle.link.specs.declared.link.Line.{Line}
use Rattle.link.specs.Ring.{places}
use Rattle.sender.specs.declared.lossy.Policy.TheVariants.{Held}
use Rattle.sender.specs.declared.lossy.SenderState.TheVariants as State
use Rattle.sender.specs.declared.lossy.LossySender.{LossySender}
use Rattle.toggler.specs.declared.toggler.Toggler.{Toggler}
use Rattle.toggler.specs.declared.tick_queue.Queued.{Queued}
use Rattle.toggler.specs.Queue.{queue_places, no_queued}
use Rattle.toggler.specs.Toggler.{new_toggler}
use Rattle.remy.specs.declared.network.RemyNetwork.{RemyNetwork}
use Rattle.remy.specs.declared.simulation.Simulation.{Simulation}
use Rattle.remy.specs.declared.simulation.Built.{Built}
use Rattle.remy.specs.Network.{network_stop}
use Rattle.remy.specs.State.{has_back, with_queue}
use Rattle.remy.specs.Queue.{end_of_time, next_time_of, picked}

-- ---- the parts as they are made

-- earliest start `Time::MIN`, nothing waiting or on the line
abbrev pub new_line : Rng → Line
new_line g =
    record {
      earliest_transmit = time_of least;
      buffer_contains = amount_of 0;
      waiting = record { start = 0; count = 0 };
      on_line = record { start = 0; count = 0 };
      rng = g;
    }

-- off, nothing sent
abbrev pub new_sender : Rng → LossySender
new_sender g = record { packets_sent = 0; state = State.WaitingForEnable; rng = g }

-- what fills the arrays where no part stands
abbrev pub blank_words : Rng
blank_words = from_seed 0

abbrev pub blank_packet : Packet
blank_packet = record { sender = 0; seq = 0; sent_time = time_of zero_f }

abbrev pub blank_waiting : Waiting
blank_waiting = record { packet = blank_packet; bits = amount_of 0 }

abbrev pub blank_transit : Transit
blank_transit = record { packet = blank_packet; due = time_of zero_f }

abbrev pub blank_toggler : Toggler
blank_toggler = record { enabled = false; next_toggle = time_of zero_f; rng = blank_words }

-- The senders and togglers made so far, the root after them, and the number: 8 once a first toggle's draw was spent.
pub record Parts : Type 0 where
  pub number : ℕ
  pub root : Rng
  pub senders : List LossySender
  pub togglers : List Toggler

abbrev pub no_parts : Rng → Parts
no_parts root = record { number = 0; root = root; senders = replicate 16 (new_sender blank_words); togglers = replicate 16 blank_toggler }

-- Root children: link, then sender and toggler of each i. First toggles drawn.
unfoldable pub populate : ℕ → ℕ → ContinuousDistribution → Parts → Parts
populate zero i off parts = parts
populate (suc left) i off parts =
    let c = child_of parts.root in
    let d = child_of c.parent in
    let t = new_toggler d.child off in
    let more : Parts = record { number = t.number; root = d.parent; senders = set parts.senders i (new_sender c.child); togglers = set parts.togglers i t.toggler } in
    cond (eqb t.number 0) (populate left (i + 1) off more) more

-- The second link's generator is the root's last child; without a return line none is drawn.
unfoldable pub back_words : RemyNetwork → Rng → Rng
back_words n root = cond (has_back n.back) (child_of root).child blank_words

-- ---- the built state

-- clock 0, senders and meters off, nothing sent, waiting, on the line or counted, nothing queued yet
abbrev pub unqueued : RemyNetwork → Rng → Rng → Parts → Simulation
unqueued n link back parts =
    record {
      network = n;
      head = record { clock = time_of zero_f; next = None };
      lines = new_line link ∷ (new_line back ∷ []);
      waiting = replicate (places * 2) blank_waiting;
      on_line = replicate (places * 2) blank_transit;
      senders = parts.senders;
      togglers = parts.togglers;
      meters = replicate 16 new_meter;
      queue = replicate queue_places no_queued;
    }

-- so many parts from k on, each at its own next time
unfoldable pub own_times : Simulation → ℕ → ℕ → List Queued
own_times s zero k = []
own_times s (suc left) k = record { time = next_time_of s k } ∷ own_times s left (k + 1)

-- each part queued at its own next time
unfoldable pub queued_all : Simulation → Simulation
queued_all s = with_queue s (own_times s queue_places 0)

-- The empty simulation: delay 0, rate 1, loss 0, no limit, no return line, 1 bit, no senders, on and off always 1, held 1, seed 0, clock MAX.
abbrev pub empty_network : RemyNetwork
empty_network =
    record {
      line = record { delay = zero_f; rate = power 0; loss = zero_f; limit = None };
      back = None;
      bits = replicate 16 1;
      senders = 0;
      on = Always (power 0);
      off = Always (power 0);
      policy = Held 1;
    }

-- the words of the first child of seed 0
abbrev pub empty_words : Rng
empty_words = from_words 5987356902031041503 7051070477665621255 6633766593972829180 211316841551650330

unfoldable pub empty_simulation : Simulation
empty_simulation =
    record {
      network = empty_network;
      head = record { clock = end_of_time; next = None };
      lines = new_line empty_words ∷ (new_line blank_words ∷ []);
      waiting = replicate (places * 2) blank_waiting;
      on_line = replicate (places * 2) blank_transit;
      senders = replicate 16 (new_sender blank_words);
      togglers = replicate 16 blank_toggler;
      meters = replicate 16 new_meter;
      queue = replicate queue_places no_queued;
    }

abbrev pub not_built : ℕ → Built
not_built number = record { number = number; simulation = empty_simulation }

abbrev pub build_from : RemyNetwork → Rng → Parts → Built
build_from n link parts =
    cond (eqb parts.number 0) (record { number = 0; simulation = picked (queued_all (unqueued n link (back_words n parts.root) parts)) }) (not_built parts.number)

-- 1 to 7 and 20, then the parts, then each part queued at its own next time, then the first pick
unfoldable pub build_of : RemyNetwork → ℕ → Built
build_of n seed =
    let c = child_of (from_seed seed) in
    cond (eqb (network_stop n) 0) (build_from n c.child (populate n.senders 0 n.off (no_parts c.parent))) (not_built (network_stop n))
