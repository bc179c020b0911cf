-- The lines of a run (document 01, "The text program"), from a record and from a simulation. Definitions only.
-- A double is written by its bits, and a NaN by 7ff8000000000000.
use Rattle.std.specs.Prelude.{ℕ, zero, suc, ◌+◌, ◌-◌, ◌≡◌, cond, List, [], ◌∷◌, ◌++◌, Option, Some, None, Result, Ok, Err, eqb, ltb}
use Rattle.std.specs.Float.{binary64}
use Rattle.std.specs.Float.Ieee.{to_bits}
use Rattle.quantities.specs.declared.time.Time.{Time}
use Rattle.quantities.specs.declared.time_span.TimeSpan.{TimeSpan}
use Rattle.flows.specs.declared.flow.NoPacketsAcked.{NoPacketsAcked}
use Rattle.meters.specs.declared.meter.AverageFlowMeter.{AverageFlowMeter}
use Rattle.flows.specs.Sums.{FlowAnswer}
use Rattle.meters.specs.Meter.{read_of}
use Rattle.sender.specs.declared.lossy.LossySender.{LossySender}
use Rattle.remy.specs.declared.simulation.Simulation.{Simulation}
use Rattle.remy.specs.declared.simulation.TickRecord.{TickRecord}
use Rattle.remy.specs.State.{sender_at, meter_at}
use Rattle.remy.specs.Tick.{tick_of}
use Rattle.remy.specs.Run.{run_of}
use Rattle.remy.specs.History.{letter_of}
use Rattle.printer.specs.Printing.{record_text, stop_text, flow_text}

-- a tick's record: its clock, part, mark by its letter, packet, and the packet started
unfoldable pub record_line : TickRecord → List ℕ
record_line r = record_text (to_bits binary64 r.time.0.0) r.part (letter_of r.mark) r.packet r.started

-- `stop` is the last number, `clock` the clock then
unfoldable pub stop_line : ℕ → Simulation → List ℕ
stop_line number s = stop_text number (to_bits binary64 s.head.clock.0.0)

-- a flow that is read: `-` for an absent value, both where the read is refused
abbrev pub rate_measured : FlowAnswer → Option ℕ
rate_measured a = cond (eqb a.number 0) (Some (to_bits binary64 a.throughput.0)) None

abbrev pub span_measured : Result TimeSpan NoPacketsAcked → Option ℕ
span_measured (Ok t) = Some (to_bits binary64 t.0)
span_measured (Err _) = None

abbrev pub rtt_measured : FlowAnswer → Option ℕ
rtt_measured a = cond (eqb a.number 0) (span_measured a.rtt) None

-- the flow of a sender: sent is its held count, counted its meter's records, and the meter is read at the clock
unfoldable pub flow_at : ℕ → LossySender → AverageFlowMeter → Time → List ℕ
flow_at i sender meter clock =
    let a = read_of meter clock in
    flow_text i sender.packets_sent meter.records (rate_measured a) (rtt_measured a)

abbrev pub flow_line : Simulation → ℕ → List ℕ
flow_line s i = flow_at i (sender_at s i) (meter_at s i) s.head.clock

-- so many flows from sender i on
unfoldable pub flow_lines : Simulation → ℕ → ℕ → List (List ℕ)
flow_lines s zero i = []
flow_lines s (suc left) i = flow_line s i ∷ flow_lines s left (i + 1)

-- every sender's flow from sender i on; a simulation holds no more than 16 senders
unfoldable pub flow_count : Simulation → ℕ
flow_count s = cond (ltb s.network.senders 16) s.network.senders 16

abbrev pub flows_from : Simulation → ℕ → List (List ℕ)
flows_from s i = flow_lines s (flow_count s - i) i

-- the record lines of up to n ticks: a tick that didn't move has no line, and ends the run
unfoldable pub record_lines : ℕ → Simulation → List (List ℕ)
record_lines zero s = []
record_lines (suc n) s =
    let t = tick_of s in
    cond t.moved (record_line t.note ∷ record_lines n t.simulation) []

-- the stop line, then the flows
unfoldable pub end_lines : ℕ → Simulation → List (List ℕ)
end_lines number s = stop_line number s ∷ flows_from s 0

-- a run of n ticks: the lines of its records, then its end
unfoldable pub run_lines : ℕ → Simulation → List (List ℕ)
run_lines n s = record_lines n s ++ end_lines (run_of n s).number (run_of n s).simulation

-- Document 02, K11, of the printed records: those of m + n ticks are those of m, then those of n ticks of the state that m ticks gave.
abbrev pub RecordLinesJoin : Type 0
RecordLinesJoin = (m n : ℕ) (s : Simulation) → record_lines (m + n) s ≡ record_lines m s ++ record_lines n (run_of m s).simulation
