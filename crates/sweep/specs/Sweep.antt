-- The answer of a run as a number. Definitions only.
use Rattle.std.specs.Prelude.{ℕ, ◌+◌, ◌*◌, ◌≤◌, ◌<◌, cond, List, length, Option, Some, None}
use Rattle.description.specs.Text.{ReadAs, given, malformed}
use Rattle.report.specs.declared.run.Report.{Report}
use Rattle.report.specs.Report.{left_of}
use Rattle.filling.specs.Filling.{Puts, none_left, PutBy}

-- an answer as a number
abbrev pub count_of : Option ℕ → ℕ
count_of (Some n) = n
count_of None = 0

-- the count of the bytes put, or 0 where lines are left
abbrev pub put_count : Puts → ℕ
put_count p = cond (none_left p.rest) p.at 0

-- all of a report's lines are put and their bytes are counted, or there is too little room for them and the answer is 0
abbrev pub CountPut : Report → List ℕ → ℕ → List ℕ → Type 0
CountPut report out r after = PutBy put_count (left_of report) out 0 r after

-- where out has so many bytes, the answer is a count
abbrev pub Enough : ℕ → List ℕ → ℕ → Type 0
Enough room out r = room ≤ length out → 0 < r

-- what is enough for all lines, by what a text is read as: 128 bytes for each tick, for the stop line and for each of 16 flows; for a text that is no description, for the one line of its number
abbrev pub enough_for : ReadAs → ℕ
enough_for (given w) = 128 * (w.ticks + 17)
enough_for malformed = 128

-- and for every text, whose ticks are at most 65,536
abbrev pub enough_for_each : ℕ
enough_for_each = 8390784

-- what is enough for the last lines of every text: the stop line and 16 flows
abbrev pub enough_for_flows : ℕ
enough_for_flows = 2176
