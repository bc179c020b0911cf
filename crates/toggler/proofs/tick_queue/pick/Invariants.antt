-- The invariant: the pick over what is left, from the best so far, is the whole pick. Assumes nothing.
use Rattle.std.proofs.Common.{◌≡◌}
use lib.ListN.{drop}
use Rattle.toggler.specs.Queue.{pick_from, pick_of}
use Rattle.toggler.proofs.tick_queue.pick.Given as goal

abbrev pub invariant-loop-i : goal.invariant-loop-i
invariant-loop-i l = pick_from (drop l.i l.fn.queue) l.i l.best ≡ pick_of l.fn.queue
