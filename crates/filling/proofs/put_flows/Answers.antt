-- The invariant: what is so from here is so from the start. Assumes nothing.
use Prim.Native.Nat.{◌<◌}
use mathlib.Core.Path.{refl, ◌∙◌}
use native.Mathlib.Omega.{arith}
use Rattle.lines.specs.Lines.{flow_count}
use Rattle.filling.proofs.Ending.{flow-count-le, flow_goes, flow-full, flows_done}
use Rattle.filling.proofs.put_flows.Goals as goal
use Rattle.filling.proofs.put_flows.Goals.{In-loop-i}

pub loop-i-init : goal.loop-i-init
loop-i-init c = (λ r after w. w, refl)

-- the flow is printed, and there are at most 16
module _ (p : In-loop-i) where
  below : p.loop-i.i < flow_count p.args.simulation
  below = omega (arith, p.loop-i-test.true, p.flow_count-n.ensures)

  low : p.loop-i.i < 16
  low = omega (arith, below, flow-count-le p.args.simulation)

pub bounds-simulation-k : goal.bounds-simulation-k
bounds-simulation-k c = low (goal.at.bounds-simulation-k c).In-loop-i

pub bounds-simulation-k-in-loop-i : goal.bounds-simulation-k-in-loop-i
bounds-simulation-k-in-loop-i c = low (goal.at.bounds-simulation-k-in-loop-i c).In-loop-i

pub loop-i-preserved : goal.loop-i-preserved
loop-i-preserved c =
    let w = c.flow_bytes in
    let l = c.loop-i in
    (λ r after v. l.invariant.0 r after (flow_goes _ l.i _ _ _ c.time-clock.ensures _ _ w.ensures (below (goal.at.loop-i-preserved c).In-loop-i) _ c.in-Some.is r after v), w.auto.out ∙ l.invariant.1)

pub shape_of-out-in-None : goal.shape_of-out-in-None
shape_of-out-in-None c = c.flow_bytes.auto.out ∙ c.loop-i.invariant.1

pub returns-in-None : goal.returns-in-None
returns-in-None c =
    let w = c.flow_bytes in
    let l = c.loop-i in
    rw c.answer.ensures (l.invariant.0 _ _ (flow-full _ l.i _ _ _ c.time-clock.ensures _ _ w.ensures (below (goal.at.returns-in-None c).In-loop-i) c.in-None.is))

pub shape_of-out : goal.shape_of-out
shape_of-out c = c.loop-i.invariant.1

pub returns : goal.returns
returns c =
    let l = c.loop-i in
    rw c.answer-2.ensures (l.invariant.0 _ _ (flows_done _ l.i _ _ (omega (arith, c.loop-i-test.false, c.flow_count-n.ensures))))
