-- The invariant: what is so from here is so from the start. Assumes nothing.
use Prim.Native.Nat.{ℕ, ◌≤◌}
use mathlib.Core.List.{map}
use mathlib.Core.Path.{◌≡◌, refl, subst, ◌∙◌}
use native.Mathlib.Omega.{arith}
use lib.ListN.{length, take}
use Rattle.filling.specs.Filling.{PutBy, batch_by, noted_line}
use Rattle.filling.proofs.Running.{note_goes, note_full, notes_end, notes_all}
use Rattle.filling.proofs.put_batch.Goals as goal
use Rattle.filling.proofs.put_batch.Goals.{Start}

-- there are as many places as records
few : (a : Start) → a.args.done ≤ length a.args.records
few a = omega (arith, a.well_formed.1.1.0.1.0.1, a.requires)

pub loop-i-init : goal.loop-i-init
loop-i-init c = (notes_all c.args.done c.args.records _ _, omega arith, refl)

pub offset_bounds-records-i : goal.offset_bounds-records-i
offset_bounds-records-i c = omega (arith, c.requires)

pub bounds-records-i : goal.bounds-records-i
bounds-records-i c = omega (arith, c.requires)

pub loop-i-preserved : goal.loop-i-preserved
loop-i-preserved c =
    let w = c.record_bytes in
    let l = c.loop-i in
    (λ r after v. l.invariant.0 r after (note_goes c.args.done c.args.records l.i (few (goal.at.loop-i-preserved c).Start) _ _ _ _ _ w.ensures c.loop-i-test.true _ c.in-Some.is r after v), omega (arith, c.loop-i-test.true), w.auto.out ∙ l.invariant.2)

pub shape_of-out-in-None : goal.shape_of-out-in-None
shape_of-out-in-None c = c.record_bytes.auto.out ∙ c.loop-i.invariant.2

pub returns-in-None : goal.returns-in-None
returns-in-None c =
    let w = c.record_bytes in
    let l = c.loop-i in
    l.invariant.0 _ _ (note_full c.args.done c.args.records l.i (few (goal.at.returns-in-None c).Start) _ _ _ _ _ w.ensures c.loop-i-test.true c.in-None.is)

pub shape_of-out : goal.shape_of-out
shape_of-out c = c.loop-i.invariant.2

pub returns : goal.returns
returns c =
    let l = c.loop-i in
    let all : l.i ≡ c.args.done = omega (arith, c.loop-i-test.false, l.invariant.1) in
    subst (λ (n : ℕ). PutBy batch_by (map noted_line (take c.args.done c.args.records)) c.args.out.now c.args.at (record { count = n; at = l.next }) l.out) all
    (l.invariant.0 _ _ (notes_end c.args.done c.args.records l.i (few (goal.at.returns c).Start) (omega (arith, c.loop-i-test.false)) _ _))
