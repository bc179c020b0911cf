-- The picked part is one of the queue's places; and the pick of a state out of its parts. Assumes nothing.
use Rattle.std.proofs.Common.{Option, Some, None}
use Prim.Native.Nat.{ℕ, ◌+◌, ◌≤◌, ◌<◌}
use mathlib.Core.Path.{◌≡◌, refl, sym, ap, subst}
use mathlib.Core.Bool.{Bool, true, false, cond}
use mathlib.Core.List.{List, [], ◌∷◌}
use native.Mathlib.Omega.{arith}
use lib.ListN.{length, get_or, set}
use lib.Seq.{set-get_or}
use Rattle.quantities.specs.declared.time.Time.{Time}
use Rattle.toggler.specs.declared.tick_queue.Queued.{Queued}
use Rattle.toggler.specs.declared.tick_queue.Picked.{Picked}
use Rattle.toggler.specs.Queue.{queue_places, no_queued, sooner, better, pick_from, pick_of}
use Rattle.toggler.proofs.Least.{picked-nothing}
use Rattle.remy.specs.declared.simulation.Head.{Head}
use Rattle.remy.specs.declared.simulation.Simulation.{Simulation}
use Rattle.remy.specs.State.{with_head, with_queue}
use Rattle.remy.specs.Queue.{head_of, removed, picked}
use Rattle.queueing.specs.Queueing.{place_after_pick}

from_below : (queue : List Queued) (i m : ℕ) (best : Picked) → i + length queue ≤ m → best.part < m → (pick_from queue i best).part < m
from_below [] i m best fit below = below
from_below (q ∷ queue) i m best fit below = from_below queue (i + 1) m (better best q.time i) (omega arith) (cases (sooner q.time best.time))
  where
    cases : (b : Bool) → (cond b (record { time = q.time; part = i }) best).part < m
    cases true = omega arith
    cases false = below

-- the picked part, 0 where nothing is queued, is a place of the queue
pub part_inside : (queue : List Queued) (p : Picked) → p ≡ pick_of queue → length queue ≡ queue_places → p.part < queue_places
unfolding pick_of
part_inside queue p e full = rw e (from_below queue 0 queue_places (record { time = None; part = 0 }) (omega arith) (omega arith))

-- the place of the picked part: emptied, or as it was
pub removed-at : (queue : List Queued) (p : Picked) (t : Option Time) → set queue p.part (place_after_pick t (get_or queue p.part no_queued)) ≡ removed queue p t
removed-at queue p None = set-get_or queue p.part no_queued
removed-at queue p (Some t) = refl

pub picks : (s : Simulation) (p : Picked) (h : Head) (x : Queued) → p ≡ pick_of s.queue → h ≡ head_of p p.time → x ≡ place_after_pick p.time (get_or s.queue p.part no_queued)
    → with_head (with_queue s (set s.queue p.part x)) h ≡ picked s
unfolding picked
picks s p h x e f g = rw (f, g, removed-at s.queue p p.time, e)

-- where nothing is picked, the place holds no time: the picked place is emptied in either case
emptied : (queue : List Queued) (t : Option Time) → (pick_of queue).time ≡ t → no_queued ≡ place_after_pick t (get_or queue (pick_of queue).part no_queued)
emptied queue None e = sym (ap (λ (t : Option Time). record { time = t }) (picked-nothing queue e (pick_of queue).part))
emptied queue (Some t) e = refl

-- the same with the picked place emptied and no test
pub picks_emptied : (s : Simulation) (p : Picked) (h : Head) → p ≡ pick_of s.queue → h ≡ head_of p p.time
    → with_head (with_queue s (set s.queue p.part no_queued)) h ≡ picked s
picks_emptied s p h e f =
    picks s p h no_queued e f (subst (λ (q : Picked). no_queued ≡ place_after_pick q.time (get_or s.queue q.part no_queued)) (sym e) (emptied s.queue (pick_of s.queue).time refl))
