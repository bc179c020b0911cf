-- Document 01, "Link", and rows 12 and 13 of "Stops". Definitions only. A line's own values (limit, loss, delay, rate) are arguments, so that they hold for any line.
-- The bits of a packet that arrives are an argument; a packet that starts has those that it carries (document 02, K1).
use Rattle.std.specs.Prelude.{ℕ, ◌+◌, ◌-◌, Bool, true, false, ◌&&◌, cond, leb, eqb, Float, Option, Some, None}
use Rattle.std.specs.Float.Ieee.{lt, le, eq}
use Rattle.quantities.specs.declared.time.Time.{Time}
use Rattle.quantities.specs.declared.time_span.TimeSpan.{TimeSpan}
use Rattle.quantities.specs.declared.information.Information.{Information}
use Rattle.quantities.specs.declared.information_rate.InformationRate.{InformationRate}
use Rattle.quantities.specs.Units.{amount_of, amount_over_rate, span_after, latest_of, earliest_opt_of}
use Rattle.draws.specs.Draws.{unit_of}
use Rattle.link.specs.declared.packet.Waiting.{Waiting}
use Rattle.link.specs.declared.packet.Transit.{Transit}
use Rattle.link.specs.declared.link.Line.{Line}
use Rattle.link.specs.declared.link.Arrival.{Arrival}
use Rattle.link.specs.declared.link.Left.TheVariants as Left
use Rattle.link.specs.declared.link.Delivered.{Delivered}
use Rattle.link.specs.declared.link.Transmitted.{Transmitted}
use Rattle.link.specs.Ring.{places, pushed, popped}

-- ---- arrival

-- Arrival: dropped exactly if a limit is present and waiting bits + packet bits exceed it.
unfoldable pub admits : Option ℕ → Information → Information → Bool
admits None waiting bits = true
admits (Some most) waiting bits = leb (waiting.0 + bits.0) most

-- the line with one packet more waiting
abbrev pub admitted : Line → Information → Line
admitted l bits =
    record {
      earliest_transmit = l.earliest_transmit;
      buffer_contains = amount_of (l.buffer_contains.0 + bits.0);
      waiting = pushed l.waiting;
      on_line = l.on_line;
      rng = l.rng;
    }

-- 12: an admitted packet finds 512 waiting
unfoldable pub receive_of : Option ℕ → Line → Information → Arrival
receive_of limit l bits =
    cond (admits limit l.buffer_contains bits)
    (cond (leb places l.waiting.count) (record { number = 12; admitted = false; line = l }) (record { number = 0; admitted = true; line = admitted l bits }))
    (record { number = 0; admitted = false; line = l })

-- ---- next time

-- if any wait, max(clock, earliest start)
unfoldable pub next_transmit : Line → Time → Option Time
next_transmit l clock = cond (eqb l.waiting.count 0) None (Some (latest_of clock l.earliest_transmit))

-- if any on the line, the first due time
unfoldable pub next_deliver : Line → Time → Option Time
next_deliver l due = cond (eqb l.on_line.count 0) None (Some due)

-- Next time: the earlier of the two.
unfoldable pub next_tick : Line → Time → Time → Option Time
next_tick l clock due = earliest_opt_of (next_transmit l clock) (next_deliver l due)

-- ---- tick: first the packet that leaves

-- the line without its first packet, one sample drawn
abbrev pub departed : Line → Line
departed l =
    record {
      earliest_transmit = l.earliest_transmit;
      buffer_contains = l.buffer_contains;
      waiting = l.waiting;
      on_line = popped l.on_line;
      rng = (unit_of l.rng).rng;
    }

-- a packet is on the line, and the first due time is the clock
unfoldable pub is_due : Line → Time → Transit → Bool
is_due l clock front = leb 1 l.on_line.count && eq front.due.0.0 clock.0.0

-- If the first due time is the clock, that packet leaves; a sample is always drawn, and it is lost exactly if sample < loss.
unfoldable pub try_deliver : Line → Time → Transit → Float → Delivered
try_deliver l clock front loss =
    cond (is_due l clock front)
    (cond (lt (unit_of l.rng).value loss)
    (record { left = Left.Lost front.packet; line = departed l })
    (record { left = Left.Out front.packet; line = departed l }))
    (record { left = Left.Nobody; line = l })

-- ---- tick: then the packet that starts

abbrev pub less_of : Information → Information → Information
less_of a b = amount_of (a.0 - b.0)

-- the line with its first waiting packet on the line
abbrev pub started_line : Line → Information → Time → Line
started_line l bits free =
    record {
      earliest_transmit = free;
      buffer_contains = less_of l.buffer_contains bits;
      waiting = popped l.waiting;
      on_line = pushed l.on_line;
      rng = l.rng;
    }

abbrev pub not_started : Line → ℕ → Transmitted
not_started l n = record { number = n; begun = None; line = l }

-- earliest start = clock + bits/rate
abbrev pub next_start : Time → Information → InformationRate → Time
next_start clock bits rate = span_after clock (amount_over_rate bits rate)

-- due = clock + delay
abbrev pub due_time : Time → TimeSpan → Time
due_time clock delay = span_after clock delay

abbrev pub starts_at : Line → Waiting → Time → Time → Transmitted
starts_at l first free due =
    record { number = 0; begun = Some (record { packet = first.packet; due = due }); line = started_line l first.bits free }

-- clock ≥ earliest start and one waits
unfoldable pub is_free : Line → Time → Bool
is_free l clock = le l.earliest_transmit.0.0 clock.0.0 && leb 1 l.waiting.count

-- Then, if clock ≥ earliest start and one waits, it starts. 13: a starting packet finds 512 on the line.
unfoldable pub try_transmit : Line → Time → Waiting → TimeSpan → InformationRate → Transmitted
try_transmit l clock first delay rate =
    cond (is_free l clock)
    (cond (leb places l.on_line.count) (not_started l 13) (starts_at l first (next_start clock first.bits rate) (due_time clock delay)))
    (not_started l 0)
