-- The bytes that the text program hands to its writes, turn by turn. Definitions only.
use Rattle.std.specs.Prelude.{ℕ, ◌≤◌, ◌<◌, false, ◌≡◌, length, take, Result, Ok, Err}
use mathlib.Core.List.{◌++◌, flatten}
use Rattle.report.specs.declared.run.Report.{Report}
use Rattle.report.specs.Report.{left_of}
use Rattle.filling.specs.Filling.{none_left}
use Rattle.console.specs.declared.Turn.{Turn}
use Rattle.console.specs.declared.output.Tally.{Tally}
use Rattle.console.specs.declared.output.WriteFailed.{WriteFailed}

-- a turn's bytes, then those that its report has left, are the report's; where any line is left, there are fewer than before
pub record TurnIs (report : Report) (t : Turn) : Type 0 where
  pub long : 65536 ≡ length t.bytes
  pub within : t.count ≤ 65536
  pub bytes : take t.count t.bytes ++ flatten (left_of t.report) ≡ flatten (left_of report)
  pub done : t.done ≡ none_left (left_of t.report)
  pub fewer : t.done ≡ false → length (left_of t.report) < length (left_of report)

-- n bytes were handed over, or a write failed
abbrev pub HandedIs : ℕ → Result Tally WriteFailed → Type 0
HandedIs n (Ok t) = t.0 ≡ n
HandedIs n (Err e) = Unit
