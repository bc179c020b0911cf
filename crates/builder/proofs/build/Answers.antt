-- `builder::build` meets its contract: a spent draw is a case of the build. Assumes nothing.
use mathlib.Core.Path.{◌∙◌}
use Rattle.builder.proofs.Building.{spent}
use Rattle.builder.proofs.build.Goals as goal

pub returns-then-made-ne0 : goal.returns-then-made-ne0
returns-then-made-ne0 c =
    c.refuse-then-made-ne0.ensures
    ∙ spent c.args.network c.args.seed _ c.network_stop-number.ensures c.if-number-ne0.false _ _ c.make-made.result
    c.from_seed.ensures c.create_child-c.ensures c.make-made.ensures c.if-made-ne0.true
