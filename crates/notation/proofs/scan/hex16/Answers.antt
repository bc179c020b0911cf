-- `notation::scan::hex16` meets its contract: all digits are read, there are 16 of them, and the byte ends them. Any other text has no double there.
-- Assumes nothing.
use mathlib.Core.Path.{refl, ap}
use native.Mathlib.Omega.{arith}
use lib.ListN.{length}
use Rattle.notation.proofs.Written.{hex_length, run_hex}
use Rattle.notation.proofs.Numbers.{hexadecimal, ended_too_large, ended_unspelt, ended_open, ended-found}
use Rattle.notation.specs.InPlace.{InPlace}
use Rattle.notation.proofs.scan.hex16.Code as code
use Rattle.notation.proofs.scan.hex16.Goals as goal

pub returns-in_err-value : goal.returns-in_err-value
returns-in_err-value c =
    let a = c.args in
    rw c.from_residual.ensures (ended_too_large hexadecimal a.end c.requires a.text.now a.at c.in_err-value.ensures)

pub returns-then-next-at-ne16 : goal.returns-then-next-at-ne16
returns-then-next-at-ne16 c =
    let a = c.args in
    let p = c.in_ok-value.ensures in
    ended_unspelt hexadecimal a.end c.requires a.text.now a.at _ _ p.0 p.1
    (λ w h e. omega (arith, hex_length w, ap length e, p.0.count, c.if-next-at-ne16.true))

pub returns-in_err-byte : goal.returns-in_err-byte
returns-in_err-byte c =
    let a = c.args in
    let p = c.in_ok-value.ensures in
    let q = c.in_err-byte.ensures in
    rw c.from_residual-in_err-byte.ensures (ended_open hexadecimal a.end c.requires a.text.now a.at _ _ p.0 p.1 q)

pub returns : goal.returns
returns c =
    let a = c.args in
    let p = c.in_ok-value.ensures in
    let q = c.in_ok-byte.ensures in
    ended-found hexadecimal a.end c.requires a.text.now a.at _ _ p.0 p.1
    (omega (arith, p.0.small)) (run_hex p.0.run (omega (arith, p.0.count, c.if-next-at-ne16.false))) q

in_place : InPlace code.function
in_place = refl
