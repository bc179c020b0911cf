-- `notation::scan::decimal` meets its contract: all digits are read, there are some and no zero leads others, and the byte ends them. Any other text has no whole number there.
-- Assumes nothing.
use mathlib.Core.Path.{refl, sym, ap, ◌∙◌}
use mathlib.Core.Bool.{false≢true}
use mathlib.Core.List.{List}
use Prim.Native.Nat.{ℕ}
use native.Mathlib.Omega.{arith}
use lib.ListN.{length, get_or}
use Rattle.notation.specs.Reading.{led_by_zero}
use Rattle.notation.proofs.Written.{decimal_fair, run_spelt}
use Rattle.notation.proofs.Numbers.{decimal, ended_too_large, ended_unspelt, ended_open, ended-found, some_led}
use Rattle.notation.specs.InPlace.{InPlace}
use Rattle.notation.proofs.scan.decimal.Code as code
use Rattle.notation.proofs.scan.decimal.Goals as goal
use Rattle.notation.proofs.scan.decimal.Goals.{then-next-at-via-then-next-at, then-next-at-via-else-next-at+then-led}

pub returns-in_err-value : goal.returns-in_err-value
returns-in_err-value c =
    let a = c.args in
    rw c.from_residual.ensures (ended_too_large (decimal a.most) a.end c.requires a.text.now a.at c.in_err-value.ensures)

pub returns-then-next-at : goal.returns-then-next-at
returns-then-next-at c =
    let a = c.args in
    let p = c.in_ok-value.ensures in
    ended_unspelt (decimal a.most) a.end c.requires a.text.now a.at _ _ p.0 p.1
    (λ w h e.
    elim c.then-next-at.branch [
      | then-next-at-via-then-next-at t ↦ omega (arith, (decimal_fair w).0, ap length e, p.0.count, t.if-next-at.true)
      | then-next-at-via-else-next-at+then-led t ↦
          -- whether a zero leads the digits that were read
          let led = t.led.ensures ∙ some_led p.0 t.if-next-at.false in
          false≢true (sym (decimal_fair w).1 ∙ ap (λ (s : List ℕ). led_by_zero (get_or s 0 0) (length s)) e ∙ sym led ∙ t.if-led.true)
    ])

pub returns-in_err-byte : goal.returns-in_err-byte
returns-in_err-byte c =
    let a = c.args in
    let p = c.in_ok-value.ensures in
    let q = c.in_err-byte.ensures in
    rw c.from_residual-in_err-byte.ensures (ended_open (decimal a.most) a.end c.requires a.text.now a.at _ _ p.0 p.1 q)

pub returns : goal.returns
returns c =
    let a = c.args in
    let p = c.in_ok-value.ensures in
    let led = c.led.ensures ∙ some_led p.0 c.if-next-at.false in
    let q = c.in_ok-byte.ensures in
    ended-found (decimal a.most) a.end c.requires a.text.now a.at _ _ p.0 p.1
    p.0.small (run_spelt p.0.run (omega (arith, p.0.count, c.if-next-at.false)) (sym led ∙ c.if-led.false)) q

in_place : InPlace code.function
in_place = refl
