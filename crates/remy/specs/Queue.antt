-- Document 01, "Tick and history": each part's own next time, the requeue and the pick. Definitions only.
use Rattle.std.specs.Prelude.{ℕ, zero, suc, ◌+◌, ◌*◌, List, set, Option, Some, None}
use Rattle.quantities.specs.declared.time.Time.{Time}
use Rattle.quantities.specs.Doubles.{largest}
use Rattle.quantities.specs.Units.{time_of}
use Rattle.toggler.specs.declared.tick_queue.Queued.{Queued}
use Rattle.toggler.specs.declared.tick_queue.Picked.{Picked}
use Rattle.link.specs.Link.{next_tick}
use Rattle.sender.specs.Sender.{sender_next}
use Rattle.toggler.specs.Queue.{no_queued, pick_of}
use Rattle.remy.specs.declared.simulation.Head.{Head}
use Rattle.remy.specs.declared.simulation.Simulation.{Simulation}
use Rattle.remy.specs.State.{Role, link, bouncer, sender, toggler, nobody, sender_part, toggler_part, role_in, line_at, sender_at, toggler_at, front_of, with_head, with_queue, with_queued}

-- MAX, the clock of a simulation in which nothing is queued
abbrev pub end_of_time : Time
end_of_time = time_of largest

-- a part's own next time; the bouncer has none
unfoldable pub own_time : Simulation → Role → Option Time
own_time s (link l) = next_tick (line_at s l) s.head.clock (front_of s l).due
own_time s bouncer = None
own_time s (sender i) = sender_next (sender_at s i) s.head.clock
own_time s (toggler i) = Some (toggler_at s i).next_toggle
own_time s nobody = None

abbrev pub next_time_of : Simulation → ℕ → Option Time
next_time_of s k = own_time s (role_in s.network k)

-- the part of a role, among n senders
abbrev pub part_of : ℕ → Role → ℕ
part_of n (link zero) = 0
part_of n (link (suc l)) = 2 + 2 * n
part_of n bouncer = 1 + 2 * n
part_of n (sender i) = sender_part i
part_of n (toggler i) = toggler_part i
part_of n nobody = 0

-- a part is queued at its own next time
unfoldable pub requeue : Simulation → Role → Simulation
requeue s role = with_queued s (part_of s.network.senders role) (own_time s role)

-- The least time wins, lowest part on a tie; it is removed and becomes clock and next; nothing queued gives MAX and no next.
abbrev pub head_of : Picked → Option Time → Head
head_of p None = record { clock = end_of_time; next = None }
head_of p (Some t) = record { clock = t; next = Some p.part }

abbrev pub removed : List Queued → Picked → Option Time → List Queued
removed queue p None = queue
removed queue p (Some t) = set queue p.part no_queued

abbrev pub pick_with : Simulation → Picked → Simulation
pick_with s p = with_head (with_queue s (removed s.queue p p.time)) (head_of p p.time)

unfoldable pub picked : Simulation → Simulation
picked s = pick_with s (pick_of s.queue)
