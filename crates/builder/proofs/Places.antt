-- A part's own next time by whose turn it would be, and one turn of the queueing of all parts. Assumes nothing.
use Rattle.std.proofs.Common.{Option, None}
use Prim.Native.Nat.{ℕ, suc, ◌+◌, ◌-◌, ◌≤◌, ◌<◌}
use mathlib.Core.Path.{◌≡◌, refl, sym, ap, subst, ◌∙◌}
use mathlib.Core.List.{List, ◌++◌, append_assoc, append-nil}
use native.Mathlib.Numerals.{add-one}
use native.Mathlib.Omega.{arith}
use lib.ListN.{length, take, set}
use lib.Seq.{take_all, take-suc-set}
use Rattle.quantities.specs.declared.time.Time.{Time}
use Rattle.toggler.specs.declared.tick_queue.Queued.{Queued}
use Rattle.toggler.specs.Queue.{queue_places}
use Rattle.remy.specs.declared.simulation.Simulation.{Simulation}
use Rattle.remy.specs.State.{has_back, line_count, Role, link, sender, toggler, role_in}
use Rattle.remy.specs.Queue.{own_time, next_time_of}
use Rattle.remy.specs.Build.{own_times}
use Rattle.remy.proofs.Facts.{first-there, second_there}
use Rattle.remy.proofs.Roles.{role_elim}
use Rattle.queueing.specs.declared.Now.{Now}
use Rattle.queueing.specs.Queueing.{now_role}

-- a part's own next time, and that the part is there
abbrev pub TimeAs : Simulation → Option Time → Now → Type 0
TimeAs s t (Now.Stop k) = t ≡ None
TimeAs s t (Now.Link l) = (l < line_count s.network) × (t ≡ own_time s (link l))
TimeAs s t (Now.Sender i) = (i < s.network.senders) × (t ≡ own_time s (sender i))
TimeAs s t (Now.Toggler i) = (i < s.network.senders) × (t ≡ own_time s (toggler i))

-- of a link, a sender or a toggler, and else none
pub time_as : (s : Simulation) (k : ℕ) (now w : Now) → now ≡ now_role (role_in s.network k) → now ≡ w → TimeAs s (next_time_of s k) w
unfolding own_time
time_as s k now w e f =
    let back = has_back s.network.back in
    subst (TimeAs s (next_time_of s k)) (sym e ∙ f)
    (role_elim (λ (role : Role). TimeAs s (own_time s role) (now_role role)) s.network.senders back k
    (first-there back, refl)
    (λ i h. (h, refl))
    (λ i h. (h, refl))
    (λ b. refl)
    (λ b. (second_there back b, refl))
    refl)

module _ (s : Simulation) (queue : List Queued) (k : ℕ) (full : length queue ≡ queue_places) where
  -- part k is queued
  pub one-queued : k < queue_places → (x : Queued) → x ≡ record { time = next_time_of s k }
      → take (k + 1) (set queue k x) ++ own_times s (queue_places - (k + 1)) (k + 1) ≡ take k queue ++ own_times s (queue_places - k) k
  unfolding own_times
  one-queued h x e =
      let inside : k < length queue = omega arith in
      let left : queue_places - k ≡ suc (queue_places - (k + 1)) = omega arith in
      ap (λ (j : ℕ). take j (set queue k x) ++ own_times s (queue_places - (k + 1)) (k + 1)) (add-one k)
      ∙ rw (take-suc-set queue k x inside, append_assoc, left, e)

  -- all are queued
  pub all_queued_lem : queue_places ≤ k → queue ≡ take k queue ++ own_times s (queue_places - k) k
  unfolding own_times
  all_queued_lem h = let none : queue_places - k ≡ 0 = omega arith in let short : length queue ≤ k = omega arith in rw (none, append-nil, take_all k queue short)
