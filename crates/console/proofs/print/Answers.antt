-- What was handed over at the last turn, and where all turns were used. Assumes nothing.
use Rattle.std.proofs.Common.{arith}
use Rattle.console.proofs.Turns.{all_handed, next}
use Rattle.console.proofs.print.Goals as goal

pub returns-then-turn : goal.returns-then-turn
returns-then-turn c =
    let turn = c.next_turn-turn in
    (next _ _ _ _ c.loop.invariant (omega (arith, c.loop-test.true)) turn.result turn.ensures c.hand.result c.hand.ensures _ c.in_ok-tally.was).ends c.if-turn.true

pub returns : goal.returns
returns c = all_handed _ _ _ _ c.loop.invariant (omega (arith, c.loop-test.false))
