-- The flow read of a sender. Definitions only.
use Rattle.std.specs.Prelude.{ℕ, Option, Some, None, Result, ◌&&◌, cond, ltb}
use Rattle.flows.specs.declared.FlowProperties.{FlowProperties}
use Rattle.flows.specs.Sums.{FlowAnswer}
use Rattle.meters.specs.declared.meter.FlowReadError.{FlowReadError}
use Rattle.meters.specs.Meter.{read_of, told_read}
use Rattle.remy.specs.declared.simulation.Simulation.{Simulation}
use Rattle.remy.specs.State.{meter_at}

-- the flow of a sender: absent where no such sender is there, else the read of its meter at the clock, by number and values
pub data FlowTold : Type 0 where
  absent : FlowTold
  told : FlowAnswer → FlowTold

abbrev pub told_flow : Option (Result FlowProperties FlowReadError) → FlowTold
told_flow None = absent
told_flow (Some r) = told (told_read r)

unfoldable pub flow_of : Simulation → ℕ → FlowTold
flow_of s i = cond (ltb i s.network.senders && ltb i 16) (told (read_of (meter_at s i) s.head.clock)) absent
