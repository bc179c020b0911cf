-- `all` tests the places of the queue. Assumes nothing.
use Rattle.std.proofs.Common.{rules, ℕ}
use Rattle.std.proofs.lemmas.Iterator.{cases_from_all, YieldsList-from_range}
use mathlib.Core.Path.{◌≡◌, refl}
use mathlib.Core.Bool.{Bool, true, false, not}
use native.Mathlib.Omega.{arith}
use lib.ListN.{get_or}
use Rattle.meters.specs.Meter.{is_on}
use Rattle.toggler.specs.Queue.{no_queued}
use Rattle.clauses.specs.Tests.{empty_test}
use Rattle.ranges.proofs.UpTo.{up_to-all}
use Rattle.clauses.proofs.queue.is_empty.Goals as goal

pub returns : goal.returns
unfolding empty_test
returns c =
    let fit : ℕ → Bool = λ k. not (is_on (get_or c.args.queue k no_queued).time) in
    up_to-all fit 35 _ (cases_from_all _ _ _ (λ k. fit k ≡ true) (λ k. fit k ≡ false) c.all.ensures.ran
    (YieldsList-from_range 0 35 35 refl (omega arith)) (λ x q k. search rules) (λ x q k. search rules))
