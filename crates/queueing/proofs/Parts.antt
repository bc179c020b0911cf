-- A fit state's queue holds no time in a place that is no part's. Assumes nothing.
use Rattle.std.proofs.Common.{Option, Some, None}
use Prim.Native.Nat.{ℕ, ◌≤◌, ◌<◌}
use mathlib.Core.Path.{◌≡◌, refl, sym, ap, subst, ◌∙◌}
use mathlib.Core.Bool.{Bool, true, ◌||◌, false≢true}
use native.Mathlib.Decide.{ℕ_discrete, dec_lt}
use native.Mathlib.Omega.{arith}
use borrow.Author.Tests.{ne_eqb}
use Rattle.quantities.specs.declared.time.Time.{Time}
use Rattle.toggler.specs.Queue.{queue_places}
use Rattle.toggler.proofs.Pick.{NoneFrom, none-past}
use Rattle.remy.specs.declared.simulation.Simulation.{Simulation}
use Rattle.remy.specs.Network.{up_to}
use Rattle.remy.specs.State.{has_back, part_count, queued_at}
use Rattle.remy.specs.Queue.{own_time, next_time_of}
use Rattle.remy.specs.HeldTimes.{Full}
use Rattle.remy.specs.Fit.{same_time, next_fit, is_next, queue_fit, fit}
use Rattle.remy.proofs.Facts.{both_l, both_r, up_to-at, fit-state}
use Rattle.remy.proofs.Roles.{role_none}

same_none : (x : Option Time) → same_time x None ≡ true → x ≡ None
same_none None e = refl
same_none (Some t) e = absurd (false≢true e)

module _ (s : Simulation) (fits : fit s ≡ true) where
  module _ (k : ℕ) (inside : k < queue_places) (past : part_count s.network.senders (has_back s.network.back) ≤ k) where
    own-none : next_time_of s k ≡ None
    unfolding own_time
    own-none = ap (own_time s) (role_none s.network k past)

    -- it is not next, since it has no time of its own, and so its place holds none
    by_next : (x : Option ℕ) → next_fit s x ≡ true → (is_next x k || same_time (queued_at s k) (next_time_of s k)) ≡ true → queued_at s k ≡ None
    by_next None own others = same_none (queued_at s k) (subst (λ (t : Option Time). same_time (queued_at s k) t ≡ true) own-none others)
    by_next (Some j) own others = elim (ℕ_discrete j k) [
      | yes same ↦ absurd (false≢true (sym (ap (λ (t : Option Time). same_time (Some s.head.clock) t) (ap (next_time_of s) same ∙ own-none)) ∙ own))
      | no other ↦
          same_none (queued_at s k)
          (subst (λ (t : Option Time). same_time (queued_at s k) t ≡ true) own-none
          (subst (λ (b : Bool). (b || same_time (queued_at s k) (next_time_of s k)) ≡ true) (ne_eqb j k other) others))
    ]

    queued_none : queued_at s k ≡ None
    unfolding queue_fit
    queued_none =
        let next = next_fit s s.head.next in
        let own : ℕ → Bool = λ i. is_next s.head.next i || same_time (queued_at s i) (next_time_of s i) in
        let queue = (fit-state s fits).queue in
        by_next s.head.next (both_l next (up_to queue_places own) queue) (up_to-at queue_places own (both_r next (up_to queue_places own) queue) k inside)

  pub fit_none : Full s → NoneFrom (part_count s.network.senders (has_back s.network.back)) s.queue
  fit_none full k past = elim (dec_lt k queue_places) [
    | yes inside ↦ ap (λ (t : Option Time). record { time = t }) (queued_none k inside past)
    | no beyond ↦ none-past s.queue queue_places (rw full.queue (omega arith)) k (omega arith)
  ]
