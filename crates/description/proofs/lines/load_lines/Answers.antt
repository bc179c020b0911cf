-- `description::lines::load_lines` meets its contract: three lines, one after the other. The number of senders that was read fits 32 bits.
-- Assumes nothing.
use mathlib.Core.Path.{refl}
use native.Mathlib.Omega.{arith}
use Rattle.notation.specs.Reading.{pair}
use Rattle.description.specs.Words.{senders_key, on_key, off_key}
use Rattle.description.specs.Lines.{distribution_form}
use Rattle.notation.proofs.Words.{spelt}
use Rattle.description.proofs.Forms.{pair-first, pair_second, pair_found}
use Rattle.notation.specs.InPlace.{InPlace}
use Rattle.description.proofs.lines.load_lines.Code as code
use Rattle.description.proofs.lines.load_lines.Goals as goal

pub returns-in_err-senders : goal.returns-in_err-senders
returns-in_err-senders c =
    rw c.from_residual.ensures (pair-first (pair (distribution_form on_key) (distribution_form off_key)) (c.in_err-senders.ensures senders_key (spelt 0 senders_key refl)))

pub returns-in_err-on : goal.returns-in_err-on
returns-in_err-on c =
    let senders = c.in_ok-senders.ensures senders_key (spelt 0 senders_key refl) in
    rw c.from_residual-in_err-on.ensures (pair_second senders (pair-first (distribution_form off_key) (c.in_err-on.ensures on_key (spelt 0 on_key refl))))

pub returns-in_err-off : goal.returns-in_err-off
returns-in_err-off c =
    let senders = c.in_ok-senders.ensures senders_key (spelt 0 senders_key refl) in
    let on = c.in_ok-on.ensures on_key (spelt 0 on_key refl) in
    rw c.from_residual-in_err-off.ensures (pair_second senders (pair_second on (c.in_err-off.ensures off_key (spelt 0 off_key refl))))

pub overflow_cast-load : goal.overflow_cast-load
overflow_cast-load c =
    let senders = c.in_ok-senders.ensures senders_key (spelt 0 senders_key refl) in
    record { fits = omega (arith, senders.fits) }

pub returns : goal.returns
returns c =
    let senders = c.in_ok-senders.ensures senders_key (spelt 0 senders_key refl) in
    let on = c.in_ok-on.ensures on_key (spelt 0 on_key refl) in
    let off = c.in_ok-off.ensures off_key (spelt 0 off_key refl) in
    pair_found senders (pair_found on off)

in_place : InPlace code.function
in_place = refl
