-- The literals are opened; a ready meter has room for the bits. Assumes nothing.
use Rattle.std.proofs.Common.{◌∙◌, sym, arith, rules}
use lib.Ieee.{of_bits}
use Rattle.meters.specs.Meter.{recorded_of}
use Rattle.meters.proofs.Fit.{ready-meter}
use Rattle.meters.proofs.meter.AverageFlowMeter.packet_received.Goals as goal

pub returns-then-not-ready : goal.returns-then-not-ready
unfolding recorded_of of_bits
returns-then-not-ready c = search rules

pub returns-then-bits-lt1 : goal.returns-then-bits-lt1
unfolding recorded_of of_bits
returns-then-bits-lt1 c = search rules

pub add-requires : goal.add-requires
add-requires c =
    let held = (ready-meter _ _ (sym c.ready.ensures ∙ c.if-not-ready.false)).fit in
    omega (arith, held.few, held.bounded)

pub returns : goal.returns
unfolding recorded_of of_bits
returns c = search rules
