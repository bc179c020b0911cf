-- The report of the answer that the text is read with. Assumes nothing.
use Rattle.std.proofs.Common.{[], ◌∷◌, ◌≡◌, refl}
use Rattle.report.specs.Report.{answered_of}
use Rattle.report.proofs.Texts.{for_text}
use Rattle.notation.specs.InPlace.{NoBytes, calls_of}
use Rattle.report.proofs.run.report_of.Code as code
use Rattle.report.proofs.run.report_of.Goals as goal

pub returns-in-Ok : goal.returns-in-Ok
unfolding answered_of
returns-in-Ok c = for_text _ _ _ c.read.ensures (rw c.in-Ok.is c.begun.ensures)

pub returns-in-Err : goal.returns-in-Err
unfolding answered_of
returns-in-Err c = for_text _ _ _ c.read.ensures (rw (c.in-Err.is, c.number.ensures, c.empty_simulation.ensures) refl)

in_place : NoBytes code.function
in_place = refl

calls : calls_of code.function ≡ "description::read" ∷ "report::run::begun" ∷ "description::Malformed::number" ∷ "builder::state::empty_simulation" ∷ []
calls = refl
