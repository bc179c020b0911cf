-- `all` tests the packets' bits of the senders. Assumes nothing.
use Rattle.std.proofs.Common.{rules, ℕ}
use Rattle.std.proofs.lemmas.Iterator.{cases_from_all, YieldsList-from_range}
use mathlib.Core.Path.{◌≡◌, refl}
use mathlib.Core.Bool.{Bool, true, false}
use native.Mathlib.Omega.{arith}
use borrow.Author.Tests.{le-leb}
use lib.ListN.{get_or}
use Rattle.remy.specs.Network.{between}
use Rattle.ranges.proofs.UpTo.{up_to-all}
use Rattle.ranges.proofs.sizes_fit.Goals as goal

pub returns-then-senders-le16 : goal.returns-then-senders-le16
returns-then-senders-le16 c =
    let fit : ℕ → Bool = λ i. between 1 16777216 (get_or c.args.bits i 0) in
    rw (le-leb c.args.senders 16 (omega arith)) (up_to-all fit _ _ (cases_from_all _ _ _ (λ i. fit i ≡ true) (λ i. fit i ≡ false) c.all.ensures.ran
    (YieldsList-from_range 0 c.args.senders c.args.senders refl (omega arith)) (λ x q k. search rules) (λ x q k. search rules)))
