-- What the fit test and the test of the due times say of a steady state. Assumes nothing.
use mathlib.Core.Path.{◌≡◌, sym, ap, ◌∙◌}
use mathlib.Core.Bool.{Bool, true, false}
use Prim.Native.Nat.{ℕ}
use Rattle.remy.specs.declared.simulation.Simulation.{Simulation}
use Rattle.remy.specs.State.{line_count}
use Rattle.remy.specs.Fit.{rings_fit, fit}
use Rattle.remy.proofs.Facts.{fit-state, up_to-at}
use Rattle.ranges.specs.Frame.{rings_test, AllInRings}
use Rattle.ranges.proofs.Bounds.{in_rings, values_same}
use Rattle.ranges.proofs.UpTo.{up_same}
use Rattle.steady.specs.Steady.{soon_fit, steady}
use Rattle.clauses.specs.Tests.{soon_on_test, soon_test}

module _ (s : Simulation) where
  soon_same : soon_test s.network.line s.network.back s.head.clock s.on_line s.lines (line_count s.network) ≡ soon_fit s
  unfolding soon_test soon_on_test
  soon_same =
      up_same _ _ (line_count s.network) (λ l h. rw (values_same s.network l))

  module _ (r : Bool) (e : r ≡ fit s) where
    pub not_steady : r ≡ false → false ≡ steady s
    unfolding steady
    not_steady t = rw (sym e ∙ t)

    module _ (t : r ≡ true) where
      passed : fit s ≡ true
      passed = sym e ∙ t

      pub rings_bounds : AllInRings s.lines (line_count s.network)
      unfolding rings_fit rings_test
      rings_bounds = record { each = λ l h. in_rings _ (up_to-at (line_count s.network) _ (fit-state s passed).rings l h) }

      pub steady_is : (count : ℕ) → count ≡ line_count s.network → (q : Bool)
          → q ≡ soon_test s.network.line s.network.back s.head.clock s.on_line s.lines count
          → q ≡ steady s
      unfolding steady
      steady_is count c q g =
          g ∙ ap (soon_test s.network.line s.network.back s.head.clock s.on_line s.lines) c ∙ soon_same ∙ rw passed
