-- The invariant: what is left of the redraw after so many tries is the whole redraw. The measure is the tries left. Assumes nothing.
use Rattle.std.proofs.Common.{refl, ◌∙◌, arith, rules}
use lib.Ieee.{of_bits}
use Rattle.draws.proofs.Redraw.{spent, positive, again}
use Rattle.draws.proofs.distribution.ContinuousDistribution.sample_positive.Goals as goal

pub loop-tries-init : goal.loop-tries-init
loop-tries-init c = (search rules, refl)

pub overflow_add-tries : goal.overflow_add-tries
overflow_add-tries c = omega arith

pub loop-tries-smaller : goal.loop-tries-smaller
loop-tries-smaller c = omega arith

pub loop-tries-preserved : goal.loop-tries-preserved
unfolding of_bits
loop-tries-preserved c =
    let L = c.loop-tries in
    let S = c.sample-drawn in
    (omega arith, again _ _ L.tries (omega arith) S.result S.ensures c.if-drawn.false ∙ L.invariant.1)

pub returns-then-tries-ge8 : goal.returns-then-tries-ge8
returns-then-tries-ge8 c = spent _ _ c.loop-tries.tries (omega arith) ∙ c.loop-tries.invariant.1

pub returns-then-drawn : goal.returns-then-drawn
unfolding of_bits
returns-then-drawn c =
    let L = c.loop-tries in
    let S = c.sample-drawn in
    positive _ _ L.tries (omega arith) S.result S.ensures c.if-drawn.true ∙ L.invariant.1
