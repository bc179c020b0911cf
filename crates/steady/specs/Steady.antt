-- A steady state: fit, and no packet on a line is due later than the clock and that line's delay. Every tick keeps it, refused and idle ones too (proofs/Steady.antt), and
-- every build gives it; fit alone is not kept. Definitions only.
use Rattle.std.specs.Prelude.{ℕ, Bool, ◌&&◌}
use Rattle.std.specs.Float.Ieee.{le}
use Rattle.quantities.specs.Units.{span_of, span_after}
use Rattle.link.specs.declared.packet.Transit.{Transit}
use Rattle.remy.specs.declared.simulation.Simulation.{Simulation}
use Rattle.remy.specs.State.{values_of, on_line_items}
use Rattle.remy.specs.Fit.{every, each_line, fit}

abbrev pub due_soon : Simulation → ℕ → Transit → Bool
due_soon s l x = le x.due.0.0 (span_after s.head.clock (span_of (values_of s.network l).delay)).0.0

abbrev pub soon_fit : Simulation → Bool
soon_fit s = each_line s (λ l. every (due_soon s l) (on_line_items s l))

unfoldable pub steady : Simulation → Bool
steady s = fit s && soon_fit s
