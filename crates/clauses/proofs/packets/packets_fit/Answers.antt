-- `all` tests the lines below the count. Assumes nothing.
use Rattle.std.proofs.Common.{rules, ℕ}
use Rattle.std.proofs.lemmas.Iterator.{cases_from_all, YieldsList-from_range}
use mathlib.Core.Path.{◌≡◌, refl}
use mathlib.Core.Bool.{Bool, true, false}
use native.Mathlib.Omega.{arith}
use lib.ListN.{get_or}
use Rattle.remy.specs.State.{no_line}
use Rattle.clauses.specs.Tests.{line_packets_test, packets_test}
use Rattle.ranges.proofs.UpTo.{up_to-all}
use Rattle.clauses.proofs.packets.packets_fit.Goals as goal

pub returns : goal.returns
unfolding packets_test
returns c =
    let fit : ℕ → Bool = λ k. line_packets_test c.args.senders c.args.sizes c.args.n c.args.clock c.args.waiting c.args.on_line k (get_or c.args.lines k no_line) in
    up_to-all fit c.args.count _ (cases_from_all _ _ _ (λ k. fit k ≡ true) (λ k. fit k ≡ false) c.all.ensures.ran
    (YieldsList-from_range 0 c.args.count c.args.count refl (omega arith)) (λ x q k. search rules) (λ x q k. search rules))
