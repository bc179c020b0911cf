-- Each step of a tick keeps what a simulation keeps: the requeue and the pick here. Assumes nothing.
use mathlib.Core.Path.{◌≡◌, refl}
use mathlib.Core.Bool.{Bool, true, false, cond}
use mathlib.Core.List.{List}
use Prim.Native.Nat.{ℕ}
use lib.ListN.{set}
use Rattle.toggler.specs.Queue.{pick_of}
use Rattle.remy.specs.declared.network.RemyNetwork.{RemyNetwork}
use Rattle.remy.specs.declared.simulation.Simulation.{Simulation}
use Rattle.remy.specs.State.{Role}
use Rattle.remy.specs.Queue.{own_time, part_of, requeue, head_of, removed, picked}
use Rattle.remy.specs.History.{PacketId, Entry}
use Rattle.remy.proofs.Kept.{Kept, keep_unread}

-- the two branches of a choice
pub cond_elim : {A : Type 0} (F : A → Type 0) (b : Bool) (x y : A) → (b ≡ true → F x) → (b ≡ false → F y) → F (cond b x y)
cond_elim F true x y f g = f refl
cond_elim F false x y f g = g refl

module _ {n : RemyNetwork} {admitted started left : ℕ → List Entry} {sent : List Entry} {counted : List PacketId} {s : Simulation}
    (k : Kept n admitted started left sent counted s) where
  pub keep_requeue : (role : Role) → Kept n admitted started left sent counted (requeue s role)
  unfolding requeue
  keep_requeue role = keep_unread k s.head s.togglers (set s.queue (part_of s.network.senders role) (record { time = own_time s role }))

  pub keep_picked : Kept n admitted started left sent counted (picked s)
  unfolding picked
  keep_picked = let p = pick_of s.queue in keep_unread k (head_of p p.time) s.togglers (removed s.queue p p.time)
