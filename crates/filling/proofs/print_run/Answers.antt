-- The report of the text, all put or too long. Assumes nothing.
use mathlib.Core.List.{[], ◌∷◌}
use mathlib.Core.Path.{◌≡◌, refl}
use Rattle.report.proofs.Texts.{for_each}
use Rattle.filling.proofs.Ending.{all_as}
use Rattle.notation.specs.InPlace.{NoBytes, calls_of}
use Rattle.filling.proofs.print_run.Code as code
use Rattle.filling.proofs.print_run.Goals as goal

pub returns : goal.returns
returns c = for_each _ _ _ (λ d e. all_as e c.put_all.ensures) c.report_of.ensures

in_place : NoBytes code.function
in_place = refl

calls : calls_of code.function ≡ "report::run::report_of" ∷ "filling::put_all" ∷ []
calls = refl
