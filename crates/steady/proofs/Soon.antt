-- The bound on due times holds of each line that is there. Assumes nothing.
use Rattle.std.proofs.Common.{◌≡◌, ℕ, ◌<◌, true}
use Rattle.remy.specs.declared.simulation.Simulation.{Simulation}
use Rattle.remy.specs.State.{line_count, on_line_items}
use Rattle.remy.specs.Fit.{every}
use Rattle.remy.proofs.Facts.{up_to-at}
use Rattle.steady.specs.Steady.{due_soon, soon_fit}

pub soon_at : (s : Simulation) (l : ℕ) → l < line_count s.network → soon_fit s ≡ true → every (due_soon s l) (on_line_items s l) ≡ true
soon_at s l there soon = up_to-at (line_count s.network) (λ k. every (due_soon s k) (on_line_items s k)) soon l there
