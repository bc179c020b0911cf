-- Document 01, "Toggler", and row 8 of "Stops". Definitions only.
use Rattle.std.specs.Prelude.{false, not, cond, eqb, Float}
use Rattle.quantities.specs.declared.time.Time.{Time}
use Rattle.quantities.specs.Doubles.{zero_f}
use Rattle.quantities.specs.Units.{span_of, time_of, span_after}
use Rattle.draws.specs.declared.generator.Rng.{Rng}
use Rattle.draws.specs.declared.distribution.ContinuousDistribution.{ContinuousDistribution}
use Rattle.draws.specs.Draws.{PositiveDraw, positive_of}
use Rattle.toggler.specs.declared.toggler.Toggler.{Toggler}
use Rattle.toggler.specs.declared.toggler.Toggled.{Toggled}

-- Off at first; first toggle = 0 + an off draw. A spent draw leaves the generator as it was.
unfoldable pub new_toggler : Rng → ContinuousDistribution → Toggled
new_toggler g off =
    let d = positive_of off g in
    cond (eqb d.number 0)
    (record { number = 0; toggler = record { enabled = false; next_toggle = span_after (time_of zero_f) (span_of d.value); rng = d.rng } })
    (record { number = d.number; toggler = record { enabled = false; next_toggle = time_of zero_f; rng = g } })

-- the next toggle: clock + draw
abbrev pub next_toggle_of : Time → Float → Time
next_toggle_of clock draw = span_after clock (span_of draw)

abbrev pub toggle_with : Toggler → Time → PositiveDraw → Toggled
toggle_with t clock d =
    cond (eqb d.number 0)
    (record { number = 0; toggler = record { enabled = not t.enabled; next_toggle = next_toggle_of clock d.value; rng = d.rng } })
    (record { number = d.number; toggler = t })

-- the draw of the length of the state entered
abbrev pub toggle_draw : Toggler → ContinuousDistribution → ContinuousDistribution → PositiveDraw
toggle_draw t on off = positive_of (cond (not t.enabled) on off) t.rng

-- Each toggle draws the length of the state entered.
unfoldable pub toggle_of : Toggler → Time → ContinuousDistribution → ContinuousDistribution → Toggled
toggle_of t clock on off = toggle_with t clock (toggle_draw t on off)
