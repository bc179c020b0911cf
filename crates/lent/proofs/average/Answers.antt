-- The whole list is folded at the end, and its fold's mean is the mean of the list; a fold that is refused stays refused. Assumes nothing.
use Rattle.std.proofs.Common.{ℕ, ◌+◌, ◌≡◌, ◌<◌, ◌≤◌, List, length, drop, Result, Ok, Err, sym, ap, refl, ◌∙◌}
use mathlib.Core.Bool.{false≢true}
use Rattle.std.specs.Result.{IsErr}
use Rattle.std.proofs.lemmas.List.{at_drop_more}
use lib.ListN.{get_or, drop_of_length-le}
use Rattle.flows.specs.declared.flow.FlowProperties.{FlowProperties}
use Rattle.flows.specs.declared.sums.FlowSum.{FlowSum}
use Rattle.flows.specs.declared.sums.NoMean.{NoMean}
use Rattle.flows.specs.Sums.{refusal}
use Rattle.flows.specs.Average.{start_of, added_of, mean_of, told_mean, average_of}
use Rattle.flows.proofs.Fold.{folded, folded_on, mean_on, stays_refused, fold_mean}
use Rattle.lent.proofs.average.Goals as goal

told_err : (r : Result FlowProperties NoMean) → IsErr r → told_mean r ≡ refusal 17
told_err (Err e) h = refl
told_err (Ok f) h = absurd (false≢true h)

module _ (s : FlowSum) (fs : List FlowProperties) (i : ℕ) (so_far : folded s (drop i fs) ≡ folded start_of fs) where
  whole : length fs ≤ i → mean_of s ≡ average_of fs
  whole past =
      let none = drop_of_length-le fs past in
      ap mean_on (rw none at so_far) ∙ fold_mean fs

  refused : (d : FlowProperties) (e : NoMean) → i < length fs → added_of s (get_or fs i d) ≡ Err e → refusal 17 ≡ average_of fs
  refused d e below r =
      let stays : folded s (drop i fs) ≡ Err e = at_drop_more (folded s) fs i d below ∙ ap (λ (x : Result FlowSum NoMean). folded_on x (drop (i + 1) fs)) r ∙ stays_refused e (drop (i + 1) fs) in
      ap mean_on (sym stays ∙ so_far) ∙ fold_mean fs

pub returns-in_err-sum : goal.returns-in_err-sum
returns-in_err-sum c =
    let L = c.loop-flow in
    told_err c.from_residual.result c.from_residual.ensures.0
    ∙ refused L.sum c.args.list.now L.flow-index L.invariant _ c.in_err-sum.field-0.0 c.loop-flow-test.true (sym c.added.ensures ∙ c.in_err-sum.was)

pub returns : goal.returns
returns c = c.mean.ensures ∙ whole c.loop-flow.sum c.args.list.now c.loop-flow.flow-index c.loop-flow.invariant c.loop-flow-test.false
