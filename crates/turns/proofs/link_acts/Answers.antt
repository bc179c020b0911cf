-- The rings are in range after a packet left. Assumes nothing.
use mathlib.Core.Path.{sym, subst}
use Prim.Native.Nat.{◌<◌}
use Rattle.link.specs.declared.link.Delivered.{Delivered}
use Rattle.turns.proofs.InRange.{Ringed, on-line_range, waiting_range}
use Rattle.turns.proofs.link_acts.Goals as goal

pub end-at-requires : goal.end-at-requires
end-at-requires c =
    subst (λ (d : Delivered). Ringed d.line.on_line) (sym c.try_deliver-d.ensures) (on-line_range _ _ _ _ c.requires.1 c.requires.2)

pub try_transmit-t-requires : goal.try_transmit-t-requires
try_transmit-t-requires c =
    subst (λ (d : Delivered). d.line.waiting.start < 512) (sym c.try_deliver-d.ensures) (waiting_range _ _ _ _ c.requires.0)
