-- What of a report is put into a buffer, and what is then left of it. Definitions only.
use Rattle.std.specs.Prelude.{ℕ, zero, suc, ◌+◌, ◌-◌, ◌*◌, ◌≤◌, Bool, true, false, cond, List, [], ◌∷◌, ◌≡◌, leb, ltb, length, Option, Some, None}
use Rattle.remy.specs.declared.simulation.Simulation.{Simulation}
use Rattle.remy.specs.declared.simulation.Noted.{Noted}
use Rattle.remy.specs.Run.{run_of}
use Rattle.printer.specs.Printing.{written}
use Rattle.report.specs.declared.run.Stage.{Stage}
use Rattle.report.specs.declared.run.Report.{Report}
use Rattle.lines.specs.Lines.{record_line, flow_count}
use Rattle.report.specs.Report.{left_of}
use Rattle.filling.specs.declared.Filled.{Filled}
use Rattle.filling.specs.declared.Batch.{Batch}

-- ---- lines in a buffer

-- the position after the lines put, how many they are, the buffer with them in it, and the lines that are left
pub record Puts : Type 0 where
  pub at : ℕ
  pub count : ℕ
  pub out : List ℕ
  pub rest : List (List ℕ)

abbrev pub one_more : Puts → Puts
one_more p = record { at = p.at; count = 1 + p.count; out = p.out; rest = p.rest }

-- lines put one after the other from a position, up to the first that has no room for 128 bytes
unfoldable pub puts : List (List ℕ) → List ℕ → ℕ → Puts
puts [] out at = record { at = at; count = 0; out = out; rest = [] }
puts (l ∷ ls) out at =
    cond (leb (at + 128) (length out))
    (one_more (puts ls (written out at l) (at + length l)))
    (record { at = at; count = 0; out = out; rest = l ∷ ls })

abbrev pub none_left : List (List ℕ) → Bool
none_left [] = true
none_left (l ∷ ls) = false

-- lines are put from a position, `answer_of` of that is answered, and no line put has more than 128 bytes
pub record PutBy {A : Type 0} (answer_of : Puts → A) (lines : List (List ℕ)) (out : List ℕ) (at : ℕ) (r : A) (after : List ℕ) : Type 0 where
  pub answer : r ≡ answer_of (puts lines out at)
  pub bytes : after ≡ (puts lines out at).out
  pub short : (puts lines out at).at ≤ at + 128 * (puts lines out at).count

-- ---- what is left of a report

abbrev pub report_at : Stage → Simulation → Report
report_at stage s = record { stage = stage; simulation = s }

-- the flows from a sender on, if it has one
unfoldable pub flows_at : ℕ → Simulation → Report
flows_at i s = report_at (cond (ltb i (flow_count s)) (Stage.Flows i) Stage.Done) s

-- a refusal after its first k lines
abbrev pub refused_after : ℕ → ℕ → Simulation → Report
refused_after zero number s = report_at (Stage.Refused number) s
refused_after (suc k) number s = report_at Stage.Done s

-- the end of a run after its first k lines, of which one is the stop line
abbrev pub end_after : ℕ → ℕ → Simulation → Report
end_after zero number s = report_at (Stage.Stop number) s
end_after (suc k) number s = flows_at k s

-- a run of n ticks after its first k lines: before the last record it goes on with the ticks that are left, and then with the end
unfoldable pub run_after : ℕ → ℕ → Simulation → Report
run_after k n s =
    let r = run_of n s in
    cond (ltb k r.done) (report_at (Stage.Ticks (n - k)) (run_of k s).simulation) (end_after (k - r.done) r.number r.simulation)

-- a report after its first k lines
abbrev pub rest_at : Simulation → Stage → ℕ → Report
rest_at s (Stage.Refused number) k = refused_after k number s
rest_at s (Stage.Ticks n) k = run_after k n s
rest_at s (Stage.Stop number) k = end_after k number s
rest_at s (Stage.Flows i) k = flows_at (i + k) s
rest_at s Stage.Done k = report_at Stage.Done s

unfoldable pub rest_of : Report → ℕ → Report
rest_of r k = rest_at r.simulation r.stage k

-- a report without the records that it has left: it goes on with the end of their run
abbrev pub end_at : Simulation → Stage → Report
end_at s (Stage.Ticks n) = report_at (Stage.Stop (run_of n s).number) (run_of n s).simulation
end_at s (Stage.Refused number) = report_at (Stage.Refused number) s
end_at s (Stage.Stop number) = report_at (Stage.Stop number) s
end_at s (Stage.Flows i) = report_at (Stage.Flows i) s
end_at s Stage.Done = report_at Stage.Done s

unfoldable pub end_of : Report → Report
end_of r = end_at r.simulation r.stage

-- ---- answers

-- a buffer filled up to a position, whether nothing is left, and the report after the lines put
abbrev pub filled_by : (ℕ → Report) → Puts → Filled
filled_by rest p = record { at = p.at; done = none_left p.rest; report = rest p.count }

-- all lines are put and the position after them is answered, or there is too little room for them
abbrev pub whole_by : Puts → Option ℕ
whole_by p = cond (none_left p.rest) (Some p.at) None

-- how many lines are put, and the position after them
abbrev pub batch_by : Puts → Batch
batch_by p = record { count = p.count; at = p.at }

abbrev pub noted_line : Noted → List ℕ
noted_line x = record_line x.note

-- ---- contracts

-- so many of a report's lines as have room are put, and the report of the others is answered
abbrev pub FilledIs : Report → List ℕ → Filled → List ℕ → Type 0
FilledIs report out r after = PutBy (filled_by (rest_of report)) (left_of report) out 0 r after

-- all of a report's lines are put, or there is too little room for them
abbrev pub AllPut : Report → List ℕ → Option ℕ → List ℕ → Type 0
AllPut report out r after = PutBy whole_by (left_of report) out 0 r after
