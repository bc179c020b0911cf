-- The counts and the times of one line more, by what `line_counts` found of it. Assumes nothing.
use mathlib.Core.Path.{◌∙◌}
use native.Mathlib.Omega.{arith}
use lib.ListN.{length-set, length-replicate}
use Rattle.toggler.specs.declared.tick_queue.Queued.{Queued}
use Rattle.toggler.specs.Queue.{no_queued}
use Rattle.clauses.specs.Tests.{link_time}
use Rattle.clauses.proofs.Members.{counts-none, counts-one, times_none, times-one}
use Rattle.clauses.proofs.counts.under_way.Goals as goal

pub loop-l-init : goal.loop-l-init
loop-l-init c = (counts-none _ _ _, length-replicate {A = Queued} 2 no_queued, times_none _ _)

pub loop-l-preserved : goal.loop-l-preserved
unfolding link_time
loop-l-preserved c =
    let L = c.loop-l in
    let more = c.loop-l-test.true in
    let few = c.requires.0 in
    let F = c.line_counts-found.ensures in (
      counts-one _ _ _ L.l L.counts L.invariant.0 _ F.0,
      length-set L.links L.l _ ∙ L.invariant.1,
      times-one _ L.links L.l L.invariant.2 (omega (arith, more, few, L.invariant.1)) _ (rw (c.next_tick.ensures, F.1)),
    )
