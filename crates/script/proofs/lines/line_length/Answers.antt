-- The first LF ends the line. Assumes nothing.
use Rattle.std.proofs.Common.{arith}
use Rattle.std.proofs.lemmas.Grind.{common_steps}
use Rattle.script.proofs.Ends.{length_by_place}
use Rattle.script.proofs.lines.line_length.Goals as goal

pub returns-in-Some : goal.returns-in-Some
returns-in-Some c = grind (arith, common_steps, length_by_place c.args.text.now)

pub returns-in-None : goal.returns-in-None
returns-in-None c = grind (arith, common_steps, length_by_place c.args.text.now)
