-- The invariant: the fold over what is left, from the sums so far, is the fold over the whole list. Assumes nothing.
use Rattle.std.proofs.Common.{◌≡◌, drop}
use Rattle.flows.specs.Average.{start_of}
use Rattle.flows.proofs.Fold.{folded}
use Rattle.lent.proofs.average.Given as goal

abbrev pub invariant-loop-flow : goal.invariant-loop-flow
invariant-loop-flow l = folded l.sum (drop l.flow-index l.list) ≡ folded start_of l.list
