-- The fit test, then the test of the due times. Assumes nothing.
use mathlib.Core.Path.{◌∙◌}
use Rattle.ranges.proofs.Bounds.{counted_rings}
use Rattle.fitness.proofs.Kept.{not_steady, rings_bounds, steady_is}
use Rattle.fitness.proofs.soon.is_steady.Goals as goal

pub returns-else-is_fit : goal.returns-else-is_fit
returns-else-is_fit c =
    let F = c.is_fit in
    c.if-is_fit.false ∙ not_steady c.args.simulation F.result F.ensures c.if-is_fit.false

pub all_due_soon-requires : goal.all_due_soon-requires
all_due_soon-requires c =
    let F = c.is_fit in
    let s = c.args.simulation in
    counted_rings s.network s.lines (rings_bounds s F.result F.ensures c.if-is_fit.true) c.line_count.result c.line_count.ensures

pub returns-then-is_fit : goal.returns-then-is_fit
returns-then-is_fit c =
    let F = c.is_fit in
    steady_is c.args.simulation F.result F.ensures c.if-is_fit.true c.line_count.result c.line_count.ensures c.all_due_soon.result
    c.all_due_soon.ensures
