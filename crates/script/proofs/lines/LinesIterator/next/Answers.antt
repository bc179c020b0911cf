-- The line and what is left lie in the text, and what is left is shorter. Assumes nothing.
use Rattle.std.proofs.Common.{rules, arith}
use Rattle.script.specs.Script.{next_line}
use Rattle.script.proofs.Ends.{line_within, line_some}
use Rattle.script.proofs.lines.LinesIterator.next.Goals as goal

pub split_at-requires : goal.split_at-requires
split_at-requires c = omega (arith, c.line_length.ensures, line_within c.args.self.now.0.now)

pub returns-clause-steps : goal.returns-clause-steps
unfolding next_line
returns-clause-steps c = let h = c.line_length.ensures in search rules

pub returns-clause-goes : goal.returns-clause-goes
returns-clause-goes c = let h = c.line_length.ensures in let p = line_some c.args.self.now.0.now in let w = line_within c.args.self.now.0.now in search rules
