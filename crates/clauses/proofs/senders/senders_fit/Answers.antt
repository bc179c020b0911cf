-- `all` tests the first n senders. Assumes nothing.
use Rattle.std.proofs.Common.{rules, ℕ}
use Rattle.std.proofs.lemmas.Iterator.{cases_from_all, YieldsList-from_range}
use mathlib.Core.Path.{◌≡◌, refl}
use mathlib.Core.Bool.{Bool, true, false}
use native.Mathlib.Omega.{arith}
use lib.ListN.{get_or}
use Rattle.remy.specs.State.{no_sender, no_toggler, no_meter}
use Rattle.clauses.specs.Tests.{sender_test, senders_test}
use Rattle.ranges.proofs.UpTo.{up_to-all}
use Rattle.clauses.proofs.senders.senders_fit.Goals as goal

pub returns : goal.returns
unfolding senders_test
returns c =
    let fit : ℕ → Bool = λ k. sender_test c.args.policy (get_or c.args.sizes k 0) c.args.clock (get_or c.args.senders k no_sender) (get_or c.args.togglers k no_toggler) (get_or c.args.meters k no_meter) (get_or c.args.counts k 0) in
    up_to-all fit _ _ (cases_from_all _ _ _ (λ k. fit k ≡ true) (λ k. fit k ≡ false) c.all.ensures.ran
    (YieldsList-from_range 0 c.args.n c.args.n refl (omega arith)) (λ x q k. search rules) (λ x q k. search rules))
