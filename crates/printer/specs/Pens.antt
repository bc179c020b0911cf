-- What a pen puts into its buffer. Definitions only.
use Rattle.std.specs.Prelude.{ℕ, ◌+◌, ◌≤◌, List, ◌≡◌, length}
use Rattle.printer.specs.Printing.{Wrote}
use Rattle.printer.specs.declared.Pen.{Pen}

-- k bytes from the pen's place on lie within its buffer
abbrev pub HasRoom : ℕ → Pen → Type 0
HasRoom k p = p.at + k ≤ length p.out.now

-- the bytes s, no more than most, were put at the pen's place, which moved past them; the buffer is the same one
pub record PenWrote (most : ℕ) (s : List ℕ) (old new : Pen) : Type 0 where
  pub wrote : Wrote most s old.out.now old.at new.at new.out.now
  pub long : length new.out.now ≡ length old.out.now
  pub same : new.out.ghost_name ≡ old.out.ghost_name
