-- The parts that the code makes, as those of the build's definition. Definitions only.
use Rattle.remy.specs.Build.{Parts}
use Rattle.parts.specs.declared.Made.{Made}

abbrev pub told_parts : Made → Parts
told_parts m = record { number = m.number; root = m.root; senders = m.senders; togglers = m.togglers }
