-- `description::lines::value` meets its contract: a word, then a number.
-- Assumes nothing.
use mathlib.Core.Path.{refl}
use Rattle.description.specs.Lines.{kind_form}
use Rattle.notation.proofs.Words.{key_is}
use Rattle.description.proofs.Forms.{key_absent, key_then}
use Rattle.notation.specs.InPlace.{InPlace}
use Rattle.description.proofs.lines.value.Code as code
use Rattle.description.proofs.lines.value.Goals as goal

pub returns-in_err-next : goal.returns-in_err-next
returns-in_err-next c =
    let a = c.args in
    λ w r. rw c.from_residual.ensures (key_absent (kind_form a.kind a.end) (c.in_err-next.ensures w r))

pub returns : goal.returns
returns c =
    let a = c.args in
    λ w r. key_then (kind_form a.kind a.end) (key_is r c.in_ok-next.ensures refl) c.ended.result c.ended.ensures

in_place : InPlace code.function
in_place = refl
