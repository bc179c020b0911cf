-- What is printed for a text (document 01, "The text program"). Definitions only.
use Rattle.std.specs.Prelude.{ℕ, cond, List, [], ◌∷◌, Result, Ok, Err, ◌≡◌, eqb}
use Rattle.remy.specs.declared.simulation.Simulation.{Simulation}
use Rattle.remy.specs.declared.simulation.Built.{Built}
use Rattle.remy.specs.Build.{empty_simulation, build_of}
use Rattle.description.specs.declared.Description.{Description}
use Rattle.description.specs.declared.Malformed.{Malformed}
use Rattle.description.specs.Text.{Written, text_of, InWidth, ReadAs, given, malformed, answer_of}
use Rattle.printer.specs.Printing.{refused_text}
use Rattle.report.specs.declared.run.Stage.{Stage}
use Rattle.report.specs.declared.run.Report.{Report}
use Rattle.report.specs.Network.{network_of}
use Rattle.lines.specs.Lines.{flows_from, end_lines, run_lines}

-- the lines that a report has left
abbrev pub left_at : Simulation → Stage → List (List ℕ)
left_at s (Stage.Refused n) = refused_text n ∷ []
left_at s (Stage.Ticks n) = run_lines n s
left_at s (Stage.Stop number) = end_lines number s
left_at s (Stage.Flows i) = flows_from s i
left_at s Stage.Done = []

unfoldable pub left_of : Report → List (List ℕ)
left_of r = left_at r.simulation r.stage

-- a build that is refused prints only its number; else the ticks are run
abbrev pub first_stage : ℕ → ℕ → Stage
first_stage number ticks = cond (eqb number 0) (Stage.Ticks ticks) (Stage.Refused number)

abbrev pub started_report : Built → ℕ → Report
started_report b ticks = record { stage = first_stage b.number ticks; simulation = b.simulation }

-- the report of a description; of an answer: a malformed text has only its number
unfoldable pub begun_of : Description → Report
begun_of d = started_report (build_of (network_of d) d.seed) d.ticks

unfoldable pub answered_of : Result Description Malformed → Report
answered_of (Ok d) = begun_of d
answered_of (Err m) = record { stage = Stage.Refused 15; simulation = empty_simulation }

-- the report of what a text is read as
unfoldable pub report_of : ReadAs → Report
report_of d = answered_of (answer_of d)

-- P holds of what the text is read as: of what is written where it is a description's text, and of a malformed one where it is none
pub record ForText (text : List ℕ) (P : ReadAs → Type 0) : Type 0 where
  pub given : (w : Written) → text ≡ text_of w → InWidth w → P (given w)
  pub other : ((w : Written) → text ≡ text_of w → InWidth w → ⊥) → P malformed
