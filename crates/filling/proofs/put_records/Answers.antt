-- The invariant: what is so from here is so from the start. The measure is what is left of the ticks. Assumes nothing.
use Prim.Native.Nat.{◌≤◌}
use mathlib.Core.Path.{◌≡◌, refl, sym, ◌∙◌}
use native.Mathlib.Omega.{arith}
use borrow.Author.Tests.{ltb-true, ltb-false}
use lib.ListN.{length}
use Rattle.remy.specs.Run.{batch_of}
use Rattle.filling.proofs.Running.{batch_some, batch_few, batch_goes, batch-stops, batch-waits, records_end}
use Rattle.filling.proofs.put_records.Goals as goal
use Rattle.filling.proofs.put_records.Goals.{After-put_batch-put}

pub loop-left-init : goal.loop-left-init
loop-left-init c = (λ r after w. w, refl)

pub put_batch-put-requires : goal.put_batch-put-requires
put_batch-put-requires c = let l = c.loop-left in (batch_few l.left l.st c.records-b.result c.records-b.ensures.0).1

-- a batch was made and put as far as there was room
module _ (p : After-put_batch-put) where
  few : p.records-b.result.done ≤ p.loop-left.left
  few =
      let l = p.loop-left in
      let b = p.records-b in
      (batch_few l.left l.st b.result b.ensures.0).0

  long : length p.put_batch-put.new.out ≡ length p.args.out.now
  long = p.put_batch-put.auto.out ∙ p.loop-left.invariant.1

pub overflow_sub-left : goal.overflow_sub-left
overflow_sub-left c = omega (arith, few (goal.at.overflow_sub-left c).After-put_batch-put, c.if-put-b.true)

pub shape_of-out-then-put-b : goal.shape_of-out-then-put-b
shape_of-out-then-put-b c = long (goal.at.shape_of-out-then-put-b c).After-put_batch-put

pub returns-then-put-b : goal.returns-then-put-b
returns-then-put-b c =
    let l = c.loop-left in
    let b = c.records-b in
    rw c.answer.ensures
    (l.invariant.0 _ _ (batch-waits l.left l.st b.result b.ensures.0 _ _ c.put_batch-put.result _ c.put_batch-put.ensures c.if-put-b.true _ c.run-again.ensures.0))

pub shape_of-out-then-ended : goal.shape_of-out-then-ended
shape_of-out-then-ended c = long (goal.at.shape_of-out-then-ended c).After-put_batch-put

pub returns-then-ended : goal.returns-then-ended
returns-then-ended c =
    let l = c.loop-left in
    let b = c.records-b in
    rw c.answer-then-ended.ensures
    (l.invariant.0 _ _ (batch-stops l.left l.st b.result b.ensures.0 _ _ c.put_batch-put.result _ c.put_batch-put.ensures c.if-put-b.false (ltb-true _ _ (sym c.ended.ensures ∙ c.if-ended.true))))

pub overflow_sub-left-in-loop-left : goal.overflow_sub-left-in-loop-left
overflow_sub-left-in-loop-left c = few (goal.at.overflow_sub-left-in-loop-left c).After-put_batch-put

pub loop-left-smaller : goal.loop-left-smaller
loop-left-smaller c =
    let l = c.loop-left in
    let whole : batch_of l.left ≤ c.records-b.result.done = ltb-false _ _ (sym c.ended.ensures ∙ c.if-ended.false) in
    omega (arith, few (goal.at.loop-left-smaller c).After-put_batch-put, whole, batch_some l.left c.loop-left-test.true)

pub loop-left-preserved : goal.loop-left-preserved
loop-left-preserved c =
    let l = c.loop-left in
    let b = c.records-b in (
      λ r after v.
          l.invariant.0 r after (batch_goes l.left l.st b.result b.ensures.0 _ _ c.put_batch-put.result _ c.put_batch-put.ensures c.if-put-b.false (ltb-false _ _ (sym c.ended.ensures ∙ c.if-ended.false)) r after v),
      long (goal.at.loop-left-preserved c).After-put_batch-put,
    )

pub shape_of-out : goal.shape_of-out
shape_of-out c = c.loop-left.invariant.1

pub returns : goal.returns
returns c = let l = c.loop-left in rw c.answer-2.ensures (l.invariant.0 _ _ (records_end l.left l.st _ _ (omega (arith, c.loop-left-test.false))))
