-- `description::lines::policy_line` meets its contract: its word, then its value.
-- Assumes nothing.
use mathlib.Core.Path.{refl}
use Rattle.notation.specs.Reading.{told}
use Rattle.description.specs.Words.{policy_key}
use Rattle.description.specs.Lines.{policy_case, policy_value}
use Rattle.notation.proofs.Words.{spelt, key_is}
use Rattle.description.proofs.Forms.{key_absent, key_then}
use Rattle.notation.specs.InPlace.{InPlace}
use Rattle.description.proofs.lines.policy_line.Code as code
use Rattle.description.proofs.lines.policy_line.Goals as goal

pub returns-in_err-next : goal.returns-in_err-next
returns-in_err-next c = rw c.from_residual.ensures (key_absent policy_value (c.in_err-next.ensures policy_key (spelt 0 policy_key refl)))

pub returns : goal.returns
returns c =
    key_then policy_value (key_is (spelt 0 policy_key refl) c.in_ok-next.ensures refl) (told policy_case c.policy_value.result) c.policy_value.ensures

in_place : InPlace code.function
in_place = refl
