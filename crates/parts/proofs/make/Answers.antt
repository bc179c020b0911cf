-- `parts::make` meets its contract: each turn makes one part more, and a turn whose draw is spent is the last. Assumes nothing.
use mathlib.Core.Path.{◌∙◌}
use Rattle.parts.proofs.Making.{all_made, goes_on, stops}
use Rattle.parts.proofs.make.Goals as goal

pub returns-then-made-ne0 : goal.returns-then-made-ne0
returns-then-made-ne0 c =
    let L = c.loop-i in
    stops _ L.i _ L.made _ _ c.create-first.result _ c.loop-i-test.true c.create_child-c.ensures c.create_child-d.ensures c.create-first.ensures
    c.new_sender.ensures c.if-made-ne0.true
    ∙ L.invariant

pub loop-i-preserved : goal.loop-i-preserved
loop-i-preserved c =
    let L = c.loop-i in
    goes_on _ L.i _ L.made _ _ c.create-first.result _ c.loop-i-test.true c.create_child-c.ensures c.create_child-d.ensures c.create-first.ensures
    c.new_sender.ensures c.if-made-ne0.false
    ∙ L.invariant

pub returns : goal.returns
returns c = let L = c.loop-i in all_made _ L.i _ L.made c.loop-i-test.false ∙ L.invariant
