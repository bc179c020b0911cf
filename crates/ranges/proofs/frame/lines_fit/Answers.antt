-- `all` tests the lines below the count. Assumes nothing.
use Rattle.std.proofs.Common.{rules, ℕ}
use Rattle.std.proofs.lemmas.Iterator.{cases_from_all, YieldsList-from_range}
use mathlib.Core.Path.{◌≡◌, refl}
use mathlib.Core.Bool.{Bool, true, false}
use native.Mathlib.Omega.{arith}
use lib.ListN.{get_or}
use Rattle.remy.specs.State.{no_line}
use Rattle.ranges.specs.Frame.{lines_test, line_test}
use Rattle.ranges.proofs.UpTo.{up_to-all}
use Rattle.ranges.proofs.frame.lines_fit.Goals as goal

pub returns : goal.returns
unfolding lines_test
returns c =
    let fit : ℕ → Bool = λ l. line_test (get_or c.args.lines l no_line) in
    up_to-all fit _ _ (cases_from_all _ _ _ (λ l. fit l ≡ true) (λ l. fit l ≡ false) c.all.ensures.ran
    (YieldsList-from_range 0 c.args.count c.args.count refl (omega arith)) (λ x q k. search rules) (λ x q k. search rules))
