-- Whose turn it is, and the places of the tick queue after a turn. Definitions only; the crate advance proves that with `turns` they are the tick definition.
use Rattle.std.specs.Prelude.{ℕ, Bool, cond, Option, Some, None}
use Rattle.std.specs.Float.Ieee.{lt}
use Rattle.quantities.specs.declared.time.Time.{Time}
use Rattle.quantities.specs.Doubles.{power}
use Rattle.link.specs.declared.packet.Transit.{Transit}
use Rattle.link.specs.declared.link.Line.{Line}
use Rattle.sender.specs.declared.lossy.LossySender.{LossySender}
use Rattle.toggler.specs.declared.toggler.Toggler.{Toggler}
use Rattle.toggler.specs.declared.tick_queue.Queued.{Queued}
use Rattle.link.specs.Link.{next_tick}
use Rattle.sender.specs.Sender.{sender_next}
use Rattle.toggler.specs.Queue.{no_queued}
use Rattle.remy.specs.declared.simulation.Head.{Head}
use Rattle.remy.specs.State.{Role, link, bouncer, sender, toggler, nobody, role_of}
use Rattle.queueing.specs.declared.Now.{Now}

-- ---- whose turn it is

abbrev pub now_role : Role → Now
now_role (link l) = Now.Link l
now_role bouncer = Now.Stop 9
now_role (sender i) = Now.Sender i
now_role (toggler i) = Now.Toggler i
now_role nobody = Now.Stop 9

-- among n senders, with a return line or without
abbrev pub now_next : Option ℕ → Time → ℕ → Bool → Now
now_next None clock n back = Now.Stop 0
now_next (Some k) clock n back = cond (lt (power 40) clock.0.0) (Now.Stop 10) (now_role (role_of n back k))

unfoldable pub now_of : Bool → Head → ℕ → Bool → Now
now_of fit h n back = cond fit (now_next h.next h.clock n back) (Now.Stop 9)

-- ---- places in the queue

abbrev pub link_slot : Bool → Line → Time → Transit → Queued → Queued
link_slot changed l clock front old = cond changed (record { time = next_tick l clock front.due }) old

abbrev pub sender_slot : Bool → LossySender → Time → Queued → Queued
sender_slot changed x clock old = cond changed (record { time = sender_next x clock }) old

abbrev pub toggler_slot : Toggler → Queued
toggler_slot t = record { time = Some t.next_toggle }

abbrev pub place_after_pick : Option Time → Queued → Queued
place_after_pick None old = old
place_after_pick (Some t) old = no_queued
