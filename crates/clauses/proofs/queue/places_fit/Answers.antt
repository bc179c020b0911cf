-- `all` tests the places of the queue. Assumes nothing.
use Rattle.std.proofs.Common.{rules, ℕ}
use Rattle.std.proofs.lemmas.Iterator.{cases_from_all, YieldsList-from_range}
use mathlib.Core.Path.{◌≡◌, refl}
use mathlib.Core.Bool.{Bool, true, false}
use native.Mathlib.Omega.{arith}
use lib.ListN.{get_or}
use Rattle.toggler.specs.Queue.{no_queued}
use Rattle.clauses.specs.Tests.{place_test, part_time, places_test}
use Rattle.ranges.proofs.UpTo.{up_to-all}
use Rattle.clauses.proofs.queue.places_fit.Goals as goal

pub returns : goal.returns
unfolding places_test
returns c =
    let fit : ℕ → Bool = λ k. place_test c.args.next c.args.parts.now.clock k (get_or c.args.queue k no_queued).time (part_time c.args.parts.now.n c.args.parts.now.back c.args.parts.now.links c.args.parts.now.clock c.args.parts.now.senders.now c.args.parts.now.togglers.now k) in
    up_to-all fit 35 _ (cases_from_all _ _ _ (λ k. fit k ≡ true) (λ k. fit k ≡ false) c.all.ensures.ran
    (YieldsList-from_range 0 35 35 refl (omega arith)) (λ x q k. search rules) (λ x q k. search rules))
