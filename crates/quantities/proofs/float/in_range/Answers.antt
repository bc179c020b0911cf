-- The second test decides where the first holds. Assumes nothing.
use Rattle.quantities.proofs.float.in_range.Goals as goal

pub returns-then-lo-x : goal.returns-then-lo-x
returns-then-lo-x c = rw c.if-lo-x.true

pub returns-else-lo-x : goal.returns-else-lo-x
returns-else-lo-x c = rw c.if-lo-x.false
