-- Document 01, "Tick and history": the queue holds a time or nothing per part; the least time wins, lowest part on a tie. Definitions only.
use Rattle.std.specs.Prelude.{ℕ, ◌+◌, Bool, true, false, cond, List, [], ◌∷◌, Option, Some, None}
use Rattle.std.specs.Float.Ieee.{lt}
use Rattle.quantities.specs.declared.time.Time.{Time}
use Rattle.toggler.specs.declared.tick_queue.Queued.{Queued}
use Rattle.toggler.specs.declared.tick_queue.Picked.{Picked}

-- how many places the queue has: the link, sender and toggler of each of 16, the bouncer and the return line's link
abbrev pub queue_places : ℕ
queue_places = 35

-- an empty place, which also stands for one that is not there
abbrev pub no_queued : Queued
no_queued = record { time = None }

-- a time that comes before another; nothing comes last
unfoldable pub sooner : Option Time → Option Time → Bool
sooner None b = false
sooner (Some t) None = true
sooner (Some t) (Some u) = lt t.0.0 u.0.0

-- the better of the best so far and the part i
abbrev pub better : Picked → Option Time → ℕ → Picked
better best time i = cond (sooner time best.time) (record { time = time; part = i }) best

abbrev pub pick_from : List Queued → ℕ → Picked → Picked
pick_from [] i best = best
pick_from (q ∷ qs) i best = pick_from qs (i + 1) (better best q.time i)

-- the least time, and the lowest part that has it; nothing where nothing is queued
unfoldable pub pick_of : List Queued → Picked
pick_of queue = pick_from queue 0 (record { time = None; part = 0 })
