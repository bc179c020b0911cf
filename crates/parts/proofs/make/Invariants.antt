-- The invariant of `parts::make`: the parts that are left to make, from those made so far, give the parts of the whole. Assumes nothing.
use Prim.Native.Nat.{◌-◌}
use mathlib.Core.Path.{◌≡◌}
use Rattle.remy.specs.Build.{no_parts, populate}
use Rattle.parts.specs.Parts.{told_parts}
use Rattle.parts.proofs.make.Given as goal

abbrev pub invariant-loop-i : goal.invariant-loop-i
invariant-loop-i l = populate (l.n - l.i) l.i l.off (told_parts l.made) ≡ populate l.n 0 l.off (no_parts l.fn.root)
