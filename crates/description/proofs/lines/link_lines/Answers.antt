-- `description::lines::link_lines` meets its contract: four lines, one after the other.
-- Assumes nothing.
use mathlib.Core.Path.{refl}
use Rattle.notation.specs.Notation.{lf}
use Rattle.notation.specs.Reading.{hex_form, keyed, pair}
use Rattle.description.specs.Words.{delay_key, rate_key, loss_key}
use Rattle.description.specs.Lines.{limit_form}
use Rattle.notation.proofs.Words.{spelt}
use Rattle.description.proofs.Forms.{pair-first, pair_second, pair_found}
use Rattle.notation.specs.InPlace.{InPlace}
use Rattle.description.proofs.lines.link_lines.Code as code
use Rattle.description.proofs.lines.link_lines.Goals as goal

pub returns-in_err-delay : goal.returns-in_err-delay
returns-in_err-delay c =
    rw c.from_residual.ensures
    (pair-first (pair (keyed rate_key (hex_form lf)) (pair (keyed loss_key (hex_form lf)) limit_form)) (c.in_err-delay.ensures delay_key (spelt 0 delay_key refl)))

pub returns-in_err-rate : goal.returns-in_err-rate
returns-in_err-rate c =
    let delay = c.in_ok-delay.ensures delay_key (spelt 0 delay_key refl) in
    rw c.from_residual-in_err-rate.ensures
    (pair_second delay (pair-first (pair (keyed loss_key (hex_form lf)) limit_form) (c.in_err-rate.ensures rate_key (spelt 0 rate_key refl))))

pub returns-in_err-loss : goal.returns-in_err-loss
returns-in_err-loss c =
    let delay = c.in_ok-delay.ensures delay_key (spelt 0 delay_key refl) in
    let rate = c.in_ok-rate.ensures rate_key (spelt 0 rate_key refl) in
    rw c.from_residual-in_err-loss.ensures
    (pair_second delay (pair_second rate (pair-first limit_form (c.in_err-loss.ensures loss_key (spelt 0 loss_key refl)))))

pub returns-in_err-limit : goal.returns-in_err-limit
returns-in_err-limit c =
    let delay = c.in_ok-delay.ensures delay_key (spelt 0 delay_key refl) in
    let rate = c.in_ok-rate.ensures rate_key (spelt 0 rate_key refl) in
    let loss = c.in_ok-loss.ensures loss_key (spelt 0 loss_key refl) in
    rw c.from_residual-in_err-limit.ensures (pair_second delay (pair_second rate (pair_second loss c.in_err-limit.ensures)))

pub returns : goal.returns
returns c =
    let delay = c.in_ok-delay.ensures delay_key (spelt 0 delay_key refl) in
    let rate = c.in_ok-rate.ensures rate_key (spelt 0 rate_key refl) in
    let loss = c.in_ok-loss.ensures loss_key (spelt 0 loss_key refl) in
    pair_found delay (pair_found rate (pair_found loss c.in_ok-limit.ensures))

in_place : InPlace code.function
in_place = refl
