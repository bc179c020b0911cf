-- Document 01, "Points on the grid": the points marked ●, as one list of claims about the definitions, in the paper's order.
use Rattle.std.specs.Prelude.{◌≡◌, true, false, List, [], ◌∷◌, ℕ, zero, suc, ◌^◌, ◌≤◌, negsuc, Some}
use Rattle.std.specs.Float.{fin}
use Rattle.quantities.specs.declared.time.Time.{Time}
use Rattle.quantities.specs.Doubles.{zero_f, power}
use Rattle.quantities.specs.Units.{time_of, amount_of}
use Rattle.draws.specs.declared.generator.Rng.{Rng}
use Rattle.draws.specs.declared.distribution.ContinuousDistribution.{ContinuousDistribution}
use Rattle.draws.specs.declared.distribution.ContinuousDistribution.TheVariants.{Uniform}
use Rattle.draws.specs.Generator.{from_words, output_of, moved_on}
use Rattle.draws.specs.Draws.{sample_of, unit_of, draw_of, redraw}
use Rattle.meters.specs.Meter.{new_meter, switched_of, read_of}
use Rattle.link.specs.declared.packet.Packet.{Packet}
use Rattle.link.specs.declared.packet.Transit.{Transit}
use Rattle.link.specs.declared.link.Line.{Line}
use Rattle.link.specs.declared.link.Arrival.{Arrival}
use Rattle.link.specs.declared.link.Left.TheVariants as Left
use Rattle.sender.specs.declared.lossy.Policy.{Policy}
use Rattle.sender.specs.declared.lossy.Enabled.{Enabled}
use Rattle.sender.specs.declared.lossy.SenderState.TheVariants as State
use Rattle.sender.specs.declared.lossy.LossySender.{LossySender}
use Rattle.sender.specs.declared.lossy.Heard.TheVariants.{Counted}
use Rattle.toggler.specs.declared.tick_queue.Queued.{Queued}
use Rattle.link.specs.Link.{admitted, receive_of, is_due, try_deliver}
use Rattle.sender.specs.Sender.{returned_of}
use Rattle.toggler.specs.Queue.{pick_of}

-- every claim of a list holds
abbrev pub Hold : List (Type 0) → Type 0
Hold [] = Unit {0}
Hold (claim ∷ claims) = claim × Hold claims

-- the first n outputs of a generator
unfoldable pub outputs : ℕ → Rng → List ℕ
outputs zero g = []
outputs (suc n) g = output_of g ∷ outputs n (moved_on g)

-- a generator whose next output is 2^63
unfoldable pub halfway : Rng
halfway = from_words 0 0 0 (2 ^ 40)

-- uniform 0..2^-1074
abbrev pub smallest : ContinuousDistribution
smallest = Uniform zero_f (fin false 1 (negsuc 1073))

-- the moment 1
abbrev pub one : Time
one = time_of (power 0)

-- a place of the queue at 1
abbrev pub at_one : Queued
at_one = record { time = Some one }

-- a packet on the line that is due at 1, and a line that holds it alone, whose next output is 0
abbrev pub first : Transit
first = record { packet = record { sender = 0; seq = 1; sent_time = time_of zero_f }; due = one }

abbrev pub silent : Line
silent =
    record {
      earliest_transmit = one;
      buffer_contains = amount_of 0;
      waiting = record { start = 0; count = 0 };
      on_line = record { start = 0; count = 1 };
      rng = from_words 0 1 0 0;
    }

-- a packet that was dropped: the line is as it was
abbrev pub dropped : Line → Arrival
dropped l = record { number = 0; admitted = false; line = l }

abbrev pub points : List (Type 0)
points =
    -- Words 1,2,3,4 give 41943041, then 58720359.
    (outputs 2 (from_words 1 2 3 4) ≡ 41943041 ∷ 58720359 ∷ [])
    -- Output 4095 samples 0.
    ∷ (sample_of 4095 ≡ zero_f)
    -- 41943041 samples 10240/2^52, which is 5 * 2^-41.
    ∷ (sample_of 41943041 ≡ fin false 5 (negsuc 40))
    -- Loss 0, sample 0: kept.
    ∷ ((unit_of silent.rng).value ≡ zero_f)
    ∷ ((try_deliver silent one first zero_f).left ≡ Left.Out first.packet)
    -- Loss 1: always lost, whatever the generator gives.
    ∷ ((l : Line) (clock : Time) (front : Transit) → is_due l clock front ≡ true → (try_deliver l clock front (power 0)).left ≡ Left.Lost front.packet)
    -- Limit 8: empty admits 8 bits,
    ∷ ((l : Line) → l.waiting.count ≡ 0 → l.buffer_contains ≡ amount_of 0
    → receive_of (Some 8) l (amount_of 8) ≡ record { number = 0; admitted = true; line = admitted l (amount_of 8) })
    -- 8 waiting drops.
    ∷ ((l : Line) → l.buffer_contains ≡ amount_of 8 → receive_of (Some 8) l (amount_of 8) ≡ dropped l)
    -- Limit 0 drops all: every packet has a bit.
    ∷ ((l : Line) (bits : ℕ) → 1 ≤ bits → receive_of (Some 0) l (amount_of bits) ≡ dropped l)
    -- Parts 0 and 1 both at 1: part 0.
    ∷ (pick_of (at_one ∷ at_one ∷ []) ≡ record { time = Some one; part = 0 })
    -- Sent exactly at started: counted.
    ∷ ((policy : Policy) (s : LossySender) (e : Enabled) (p : Packet) → s.state ≡ State.Enabled e → p.sent_time ≡ e.started → (returned_of policy s p).heard ≡ Counted)
    -- Switched on at 1, read at 1: 16.
    ∷ ((switched_of new_meter true one).number ≡ 0)
    ∷ ((read_of (switched_of new_meter true one).meter one).number ≡ 16)
    -- Uniform 0..2^-1074, output 2^63: 0, redrawn.
    ∷ (output_of halfway ≡ 2 ^ 63)
    ∷ ((draw_of smallest halfway).value ≡ zero_f)
    ∷ (redraw 8 smallest halfway ≡ redraw 7 smallest (moved_on halfway))
    ∷ []
