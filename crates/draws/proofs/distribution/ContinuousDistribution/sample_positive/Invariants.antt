-- The invariant: what is left of the redraw after so many tries is the whole redraw. The measure is the tries left. Assumes nothing.
use Rattle.std.proofs.Common.{◌≡◌, ◌-◌, ◌≤◌}
use Rattle.draws.specs.Draws.{redraw, positive_of}
use Rattle.draws.proofs.distribution.ContinuousDistribution.sample_positive.Given as goal

abbrev pub invariant-loop-tries : goal.invariant-loop-tries
invariant-loop-tries l = (l.tries ≤ 8) × (redraw (8 - l.tries) l.self l.at ≡ positive_of l.self l.initial.at)

abbrev pub decreases-loop-tries : goal.decreases-loop-tries
decreases-loop-tries l = 8 - l.tries
