-- A packet that leaves the line leaves its rings in range. Assumes nothing.
use mathlib.Core.Bool.{cond}
use Prim.Native.Nat.{◌≤◌, ◌<◌}
use native.Mathlib.Omega.{arith}
use lib.Ieee.{Float, lt}
use Rattle.quantities.specs.declared.time.Time.{Time}
use Rattle.draws.specs.Draws.{unit_of}
use Rattle.link.specs.declared.packet.Transit.{Transit}
use Rattle.link.specs.declared.ring.Ring.{Ring}
use Rattle.link.specs.declared.link.Line.{Line}
use Rattle.link.specs.declared.link.Left.TheVariants as Left
use Rattle.link.specs.declared.link.Delivered.{Delivered}
use Rattle.link.specs.Link.{is_due, departed, try_deliver}
use Rattle.remy.proofs.Steps.{cond_elim}

abbrev pub Ringed : Ring → Type 0
Ringed r = (r.start < 512) × (r.count < 513)

module _ (l : Line) (clock : Time) (front : Transit) (loss : Float) where
  -- the line is as it was, or its first packet departed
  either : (P : Line → Type 0) → P l → P (departed l) → P (try_deliver l clock front loss).line
  unfolding try_deliver
  either P stays leaves =
      cond_elim (λ (d : Delivered). P d.line) (is_due l clock front)
      (cond (lt (unit_of l.rng).value loss) (record { left = Left.Lost front.packet; line = departed l }) (record { left = Left.Out front.packet; line = departed l }))
      (record { left = Left.Nobody; line = l })
      (λ e. cond_elim (λ (d : Delivered). P d.line) (lt (unit_of l.rng).value loss)
      (record { left = Left.Lost front.packet; line = departed l }) (record { left = Left.Out front.packet; line = departed l })
      (λ h. leaves) (λ h. leaves))
      (λ e. stays)

  pub on-line_range : l.on_line.start < 512 → l.on_line.count ≤ 512 → Ringed (try_deliver l clock front loss).line.on_line
  on-line_range s c = either (λ (x : Line). Ringed x.on_line) (s, omega arith) (omega arith, omega arith)

  pub waiting_range : l.waiting.start < 512 → (try_deliver l clock front loss).line.waiting.start < 512
  waiting_range s = either (λ (x : Line). x.waiting.start < 512) s s
