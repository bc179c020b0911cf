-- After i digits the number is their value, below 16 to the power i. Assumes nothing.
use mathlib.Core.Path.{◌≡◌}
use Prim.Native.Nat.{◌^◌, ◌≤◌, ◌<◌}
use Rattle.script.specs.Script.{value_of}
use Rattle.script.proofs.Line.number.Given as goal

abbrev pub invariant-loop-i : goal.invariant-loop-i
invariant-loop-i l = (l.i ≤ 16) × (l.n ≡ value_of l.self.0.now l.from l.i) × (l.n < 16 ^ l.i)
