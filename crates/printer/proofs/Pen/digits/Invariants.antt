-- The digits put stand from `at + i` on, those still to come are the i digits of `rest`, and the buffer is the same one.
-- Assumes nothing.
use mathlib.Core.Path.{◌≡◌}
use lib.ListN.{length}
use Rattle.printer.proofs.Buffer.{Lower}
use Rattle.printer.proofs.Pen.digits.Given as goal

abbrev pub invariant-loop-i : goal.invariant-loop-i
invariant-loop-i l = record {
  lower : Lower l.base l.k l.n l.initial.self.out.now l.initial.self.at l.i l.rest l.self.out.now;
  at : l.self.at ≡ l.initial.self.at;
  long : length l.self.out.now ≡ length l.initial.self.out.now;
  same : l.self.out.ghost_name ≡ l.initial.self.out.ghost_name;
}
