-- `builder::state::empty_simulation` meets its contract: the callees give what it is made of. Assumes nothing.
use lib.Ieee.{of_bits}
use Rattle.remy.specs.Build.{empty_simulation}
use Rattle.parts.proofs.Making.{none-senders, none-togglers}
use Rattle.builder.proofs.state.empty_simulation.Goals as goal

pub returns : goal.returns
unfolding of_bits empty_simulation
returns c =
    rw (
      c.fresh.ensures,
      none-senders c.no_parts.result _ c.no_parts.ensures,
      none-togglers c.no_parts.result _ c.no_parts.ensures,
      c.blank_words-words.ensures,
      c.empty_words.ensures,
      c.empty_network.ensures,
    )
