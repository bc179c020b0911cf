-- `builder::state::fresh` meets its contract: it is the literal of the definition. Assumes nothing.
use Rattle.builder.proofs.state.fresh.Goals as goal

pub returns : goal.returns
returns c =
    rw (
      c.new_disabled.ensures,
      c.blank_transit.ensures,
      c.blank_waiting.ensures,
      c.new_line-2.ensures,
      c.new_line.ensures,
    )
