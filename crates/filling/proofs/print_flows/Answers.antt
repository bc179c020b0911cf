-- The report of the text without its records, all put or too long. Assumes nothing.
use mathlib.Core.List.{[], ◌∷◌}
use mathlib.Core.Path.{◌≡◌, refl, ap, ◌∙◌}
use Rattle.report.proofs.Texts.{for_each}
use Rattle.filling.specs.Filling.{end_of}
use Rattle.filling.proofs.Ending.{all_as}
use Rattle.notation.specs.InPlace.{NoBytes, calls_of}
use Rattle.filling.proofs.print_flows.Code as code
use Rattle.filling.proofs.print_flows.Goals as goal

pub returns : goal.returns
returns c =
    for_each _ _ _ (λ d e. all_as (c.without_records.ensures ∙ ap end_of e) c.put_all.ensures)
    c.report_of.ensures

in_place : NoBytes code.function
in_place = refl

calls : calls_of code.function ≡ "report::run::report_of" ∷ "filling::without_records" ∷ "filling::put_all" ∷ []
calls = refl
