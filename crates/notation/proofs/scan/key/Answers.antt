-- `notation::scan::key` meets its contract: the word that was read is the given one where their values are equal, and is another where they are not.
-- Assumes nothing.
use mathlib.Core.Path.{refl}
use Rattle.notation.proofs.Words.{key_told}
use Rattle.notation.specs.InPlace.{InPlace}
use Rattle.notation.proofs.scan.key.Code as code
use Rattle.notation.proofs.scan.key.Goals as goal

pub returns : goal.returns
returns c = rw c.then_some.ensures (key_told c.args.key c.in_ok-value.ensures)

in_place : InPlace code.function
in_place = refl
