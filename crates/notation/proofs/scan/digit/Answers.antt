-- `notation::scan::digit` meets its contract: each arm is a range of bytes, and a law says of each range which digits it holds.
-- Assumes nothing.
use mathlib.Core.Path.{refl}
use native.Mathlib.Omega.{arith}
use Rattle.notation.proofs.Digits.{digit_low, digit_high, digit_none}
use Rattle.notation.specs.InPlace.{InPlace}
use Rattle.notation.proofs.scan.digit.Code as code
use Rattle.notation.proofs.scan.digit.Goals as goal

pub returns-in-48-to-57 : goal.returns-in-48-to-57
returns-in-48-to-57 c = digit_low _ (omega arith) (omega arith)

pub returns-in-97-to-102 : goal.returns-in-97-to-102
returns-in-97-to-102 c = digit_high _ (omega arith) (omega arith)

pub returns-in_default : goal.returns-in_default
returns-in_default c = digit_none _ (λ d l e. omega arith) (λ d l h e. omega arith)

pub returns-in_default-2 : goal.returns-in_default-2
returns-in_default-2 c = digit_none _ (λ d l e. omega arith) (λ d l h e. omega arith)

pub returns-in_default-3 : goal.returns-in_default-3
returns-in_default-3 c = digit_none _ (λ d l e. omega arith) (λ d l h e. omega arith)

in_place : InPlace code.function
in_place = refl
