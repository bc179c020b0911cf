-- What holds of what a text is read as. Assumes nothing.
use Rattle.std.proofs.Common.{ℕ, List, Result, ◌≡◌, ap, ◌∙◌}
use Rattle.description.specs.declared.Description.{Description}
use Rattle.description.specs.declared.Malformed.{Malformed}
use Rattle.description.specs.Text.{ReadAs, given, malformed, ReadIs}
use Rattle.report.specs.declared.run.Report.{Report}
use Rattle.report.specs.Report.{answered_of, report_of, ForText}

module _ (text : List ℕ) where
  -- the report of the answer is that of what the text is read as
  pub for_text : (r : Report) (a : Result Description Malformed) → ReadIs text a → r ≡ answered_of a → ForText text (λ d. r ≡ report_of d)
  unfolding report_of
  for_text r a k p = record { given = λ w e h. p ∙ ap answered_of (k.complete w e h); other = λ none. p ∙ ap answered_of (k.other none) }

  pub for_each : (P Q : ReadAs → Type 0) → ((d : ReadAs) → P d → Q d) → ForText text P → ForText text Q
  for_each P Q f t = record { given = λ w e h. f (given w) (t.given w e h); other = λ none. f malformed (t.other none) }
