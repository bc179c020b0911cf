-- What the pick picks: a time that is queued at the picked part, and that no queued time comes before.
-- A NaN compares with nothing, so a law that puts one time before another says which of the two are no NaN. Assumes nothing.
use Rattle.std.proofs.Common.{Option, Some, None}
use mathlib.Core.Path.{◌≡◌, refl, ap, ◌∙◌}
use mathlib.Core.Logic.{◌⊎◌, inl, inr, ⊎_elim}
use mathlib.Core.Bool.{Bool, true, false, not, cond}
use mathlib.Core.List.{List, [], ◌∷◌}
use Prim.Native.Nat.{ℕ, zero, suc, ◌+◌, ◌<◌}
use native.Mathlib.Omega.{arith}
use lib.Dec.{T, T_not, not_T}
use lib.Ieee.{lt, le, is_nan}
use lib.ListN.{length, get_or}
use Rattle.quantities.proofs.Order.{not-lt→le, lt_trans, lt_irrefl}
use Rattle.quantities.specs.declared.time.Time.{Time}
use Rattle.toggler.specs.declared.tick_queue.Queued.{Queued}
use Rattle.toggler.specs.declared.tick_queue.Picked.{Picked}
use Rattle.toggler.specs.Queue.{no_queued, sooner, better, pick_from, pick_of}

-- ---- the order of the queue's places

sooner_trans : (x y z : Option Time) → T (sooner x y) → T (sooner y z) → T (sooner x z)
unfolding sooner
sooner_trans None y z h k = h
sooner_trans (Some t) None z h k = absurd k
sooner_trans (Some t) (Some u) None h k = tt
sooner_trans (Some t) (Some u) (Some v) h k = lt_trans t.0.0 u.0.0 v.0.0 h k

sooner_irrefl : (x : Option Time) → T (not (sooner x x))
unfolding sooner
sooner_irrefl None = tt
sooner_irrefl (Some t) = not_T (lt t.0.0 t.0.0) (lt_irrefl t.0.0)

nothing-last : (x : Option Time) → T (not (sooner x None)) → x ≡ None
unfolding sooner
nothing-last None h = refl
nothing-last (Some t) h = absurd h

-- ---- one turn

-- what holds of the new best, by the two cases
one_turn : (P : Picked → Type 0) (best : Picked) (x : Option Time) (i : ℕ) → (T (sooner x best.time) → P (record { time = x; part = i }))
    → (T (not (sooner x best.time)) → P best) → P (better best x i)
one_turn P best x i = cases (sooner x best.time)
  where
    cases : (b : Bool) → (T b → P (record { time = x; part = i })) → (T (not b) → P best) → P (cond b (record { time = x; part = i }) best)
    cases true f g = f tt
    cases false f g = g tt

turn_time : (best : Picked) (x : Option Time) (i : ℕ) → T (not (sooner x (better best x i).time))
turn_time best x i = one_turn (λ (p : Picked). T (not (sooner x p.time))) best x i (λ h. sooner_irrefl x) (λ h. h)

-- ---- the pick over the places from i on, from the best so far

-- the picked one is at one of the places, and comes before the best so far
record Taken (queue : List Queued) (i : ℕ) (best picked : Picked) : Type 0 where
  place : ℕ
  inside : place < length queue
  part : picked.part ≡ i + place
  there : (get_or queue place no_queued).time ≡ picked.time
  before : T (sooner picked.time best.time)

abbrev Outcome : List Queued → ℕ → Picked → Picked → Type 0
Outcome queue i best picked = (picked ≡ best) ⊎ Taken queue i best picked

module _ (q : Queued) (queue : List Queued) (i : ℕ) (best picked : Picked) where
  further : (new : Picked) → (T (sooner picked.time new.time) → T (sooner picked.time best.time))
      → Taken queue (i + 1) new picked → Taken (q ∷ queue) i best picked
  further new f t = record { place = suc t.place; inside = omega arith; part = omega arith; there = t.there; before = f t.before }

  replaced : T (sooner q.time best.time) → Outcome queue (i + 1) (record { time = q.time; part = i }) picked → Outcome (q ∷ queue) i best picked
  replaced h (inl e) = inr (rw e (record { place = 0; inside = omega arith; part = omega arith; there = refl; before = h }))
  replaced h (inr t) = inr (further (record { time = q.time; part = i }) (λ k. sooner_trans picked.time q.time best.time k h) t)

  kept : Outcome queue (i + 1) best picked → Outcome (q ∷ queue) i best picked
  kept (inl e) = inl e
  kept (inr t) = inr (further best (λ k. k) t)

outcome : (queue : List Queued) (i : ℕ) (best : Picked) → Outcome queue i best (pick_from queue i best)
outcome [] i best = inl refl
outcome (q ∷ queue) i best =
    let picked = pick_from (q ∷ queue) i best in
    one_turn (λ (new : Picked). Outcome queue (i + 1) new picked → Outcome (q ∷ queue) i best picked) best q.time i
    (replaced q queue i best picked)
    (λ h. kept q queue i best picked)
    (outcome queue (i + 1) (better best q.time i))

-- what does not come before the best so far does not come before the picked one
stays : (x : Option Time) (queue : List Queued) (i : ℕ) (best : Picked) → T (not (sooner x best.time)) → T (not (sooner x (pick_from queue i best).time))
stays x queue i best h =
    let picked = pick_from queue i best in
    ⊎_elim (λ (e : picked ≡ best). rw e h)
    (λ (t : Taken queue i best picked).
    not_T (sooner x picked.time) (λ k. T_not (sooner x best.time) h (sooner_trans x picked.time best.time k t.before)))
    (outcome queue i best)

none_before : (queue : List Queued) (i : ℕ) (best : Picked) (j : ℕ) → T (not (sooner (get_or queue j no_queued).time (pick_from queue i best).time))
unfolding sooner
none_before [] i best j = tt
none_before (q ∷ queue) i best zero = stays q.time queue (i + 1) (better best q.time i) (turn_time best q.time i)
none_before (q ∷ queue) i best (suc j) = none_before queue (i + 1) (better best q.time i) j

-- ---- the pick over the queue

-- where the pick begins
abbrev nothing : Picked
nothing = record { time = None; part = 0 }

module _ (queue : List Queued) where
  -- no place comes before the picked one
  pub picked_first : (i : ℕ) → T (not (sooner (get_or queue i no_queued).time (pick_of queue).time))
  unfolding pick_of
  picked_first i = none_before queue 0 nothing i

  pub picked-nothing : (pick_of queue).time ≡ None → (i : ℕ) → (get_or queue i no_queued).time ≡ None
  picked-nothing e i = nothing-last (get_or queue i no_queued).time (rw e at (picked_first i))

  module _ {t : Time} (e : (pick_of queue).time ≡ Some t) where
    taken : Taken queue 0 nothing (pick_of queue)
    unfolding pick_of
    taken =
        ⊎_elim (λ (same : pick_of queue ≡ nothing).
        let begun : (pick_of queue).time ≡ None = ap (λ (p : Picked). p.time) same in
        let never : ◌≡◌ {A = ℕ} 0 1 = cc in
        absurd (omega arith))
        (λ h. h)
        (outcome queue 0 nothing)

    place_part : taken.place ≡ (pick_of queue).part
    place_part = omega (arith, taken.part)

    -- the picked part has the picked time
    pub picked-there : (get_or queue (pick_of queue).part no_queued).time ≡ Some t
    picked-there = rw place_part at (taken.there ∙ e)

    pub picked-inside : (pick_of queue).part < length queue
    picked-inside = rw place_part at taken.inside

    module _ (i : ℕ) {u : Time} (k : (get_or queue i no_queued).time ≡ Some u) where
      -- no queued time is below the picked one; a NaN on either side is not below
      pub picked-least : T (not (lt u.0.0 t.0.0))
      unfolding sooner
      picked-least = rw (k, e) at (picked_first i)

      pub picked-le : T (not (is_nan u.0.0)) → T (not (is_nan t.0.0)) → T (le t.0.0 u.0.0)
      picked-le p q = not-lt→le u.0.0 t.0.0 p q picked-least
