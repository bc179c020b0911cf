-- `description::lines::course_lines` meets its contract: three lines, one after the other. The ticks that were read fit 32 bits.
-- Assumes nothing.
use mathlib.Core.Path.{refl}
use native.Mathlib.Omega.{arith}
use Rattle.notation.specs.Notation.{lf}
use Rattle.notation.specs.Reading.{decimal_form, keyed, pair}
use Rattle.description.specs.Words.{seed_key, ticks_key}
use Rattle.description.specs.Lines.{most64}
use Rattle.notation.proofs.Words.{spelt}
use Rattle.description.proofs.Forms.{pair-first, pair_second, pair_found}
use Rattle.notation.specs.InPlace.{InPlace}
use Rattle.description.proofs.lines.course_lines.Code as code
use Rattle.description.proofs.lines.course_lines.Goals as goal

pub returns-in_err-policy : goal.returns-in_err-policy
returns-in_err-policy c =
    rw c.from_residual.ensures (pair-first (pair (keyed seed_key (decimal_form most64 lf)) (keyed ticks_key (decimal_form 65536 lf))) c.in_err-policy.ensures)

pub returns-in_err-seed : goal.returns-in_err-seed
returns-in_err-seed c =
    rw c.from_residual-in_err-seed.ensures
    (pair_second c.in_ok-policy.ensures (pair-first (keyed ticks_key (decimal_form 65536 lf)) (c.in_err-seed.ensures seed_key (spelt 0 seed_key refl))))

pub returns-in_err-ticks : goal.returns-in_err-ticks
returns-in_err-ticks c =
    let seed = c.in_ok-seed.ensures seed_key (spelt 0 seed_key refl) in
    rw c.from_residual-in_err-ticks.ensures (pair_second c.in_ok-policy.ensures (pair_second seed (c.in_err-ticks.ensures ticks_key (spelt 0 ticks_key refl))))

pub overflow_cast-course : goal.overflow_cast-course
overflow_cast-course c =
    let ticks = c.in_ok-ticks.ensures ticks_key (spelt 0 ticks_key refl) in
    record { fits = omega (arith, ticks.fits) }

pub returns : goal.returns
returns c =
    let seed = c.in_ok-seed.ensures seed_key (spelt 0 seed_key refl) in
    let ticks = c.in_ok-ticks.ensures ticks_key (spelt 0 ticks_key refl) in
    pair_found c.in_ok-policy.ensures (pair_found seed ticks)

in_place : InPlace code.function
in_place = refl
