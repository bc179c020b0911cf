-- A text's report has no more lines than `print` has turns. Assumes nothing.
use Rattle.std.proofs.Common.{◌≡◌, refl, [], ◌∷◌}
use Rattle.filling.proofs.Few.{text_few}
use Rattle.notation.specs.InPlace.{NoBytes, calls_of}
use Rattle.console.proofs.print_text.Code as code
use Rattle.console.proofs.print_text.Goals as goal

pub print-requires : goal.print-requires
print-requires c = text_few _ c.report_of.result c.report_of.ensures

in_place : NoBytes code.function
in_place = refl

calls : calls_of code.function ≡ "report::run::report_of" ∷ "console::print" ∷ []
calls = refl
