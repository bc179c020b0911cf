-- The record lines of a run that is taken up follow those of the run before. Assumes nothing.
use mathlib.Core.Path.{◌≡◌, refl, ap}
use mathlib.Core.Bool.{Bool, true, false}
use mathlib.Core.List.{List, ◌∷◌, ◌++◌}
use Prim.Native.Nat.{ℕ, zero, suc, ◌+◌}
use native.Mathlib.Nat.{zero-add}
use native.Mathlib.Omega.{arith}
use Rattle.remy.specs.Tick.{tick_of}
use Rattle.remy.specs.Run.{run_of}
use Rattle.remy.proofs.Joins.{rests, rests_same}
use Rattle.lines.specs.Lines.{record_line, record_lines, RecordLinesJoin}

pub record_lines_join : RecordLinesJoin
unfolding record_lines run_of
record_lines_join zero n s = rw (zero-add n)
record_lines_join (suc m) n s = by (tick_of s).moved refl (record_lines_join m n (tick_of s).simulation)
  where
    later : suc m + n ≡ suc (m + n)
    later = omega arith

    none : (tick_of s).moved ≡ false → (k : ℕ) → record_lines k s ≡ record_lines 0 s
    none e zero = refl
    none e (suc k) = rw e

    by : (b : Bool) → (tick_of s).moved ≡ b
        → record_lines (m + n) (tick_of s).simulation ≡ record_lines m (tick_of s).simulation ++ record_lines n (run_of m (tick_of s).simulation).simulation
        → record_lines (suc m + n) s ≡ record_lines (suc m) s ++ record_lines n (run_of (suc m) s).simulation
    by true e rest = rw (later, e) (ap (λ (l : List (List ℕ)). record_line (tick_of s).note ∷ l) rest)
    by false e rest = rw (rests m s e, rests_same s e, none e (suc m + n), none e (suc m), none e n)
