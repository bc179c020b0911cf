-- `description::lines::distribution_line` meets its contract: its word, then its value.
-- Assumes nothing.
use mathlib.Core.Path.{refl}
use Rattle.notation.specs.Reading.{told}
use Rattle.description.specs.Lines.{distribution_case, distribution_value}
use Rattle.notation.proofs.Words.{key_is}
use Rattle.description.proofs.Forms.{key_absent, key_then}
use Rattle.notation.specs.InPlace.{InPlace}
use Rattle.description.proofs.lines.distribution_line.Code as code
use Rattle.description.proofs.lines.distribution_line.Goals as goal

pub returns-in_err-next : goal.returns-in_err-next
returns-in_err-next c = λ w r. rw c.from_residual.ensures (key_absent distribution_value (c.in_err-next.ensures w r))

pub returns : goal.returns
returns c =
    λ w r. key_then distribution_value (key_is r c.in_ok-next.ensures refl) (told distribution_case c.distribution_value.result) c.distribution_value.ensures

in_place : InPlace code.function
in_place = refl
