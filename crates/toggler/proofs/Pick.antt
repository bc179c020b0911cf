-- One turn of the pick over the queue, and its end: where no place that is left holds a time. Assumes nothing.
use Rattle.std.proofs.Common.{Option}
use mathlib.Core.Path.{◌≡◌, refl, sym, ap, ◌∙◌}
use mathlib.Core.Bool.{true, false}
use mathlib.Core.List.{List, [], ◌∷◌}
use Prim.Native.Nat.{ℕ, suc, ◌+◌, ◌≤◌, ◌<◌}
use native.Mathlib.Numerals.{add-one}
use native.Mathlib.Omega.{arith}
use lib.ListN.{length, get_or, drop, set, get_or-eq_default}
use lib.Seq.{drop-cons, get_or-set_other, get_or-drop}
use Rattle.quantities.specs.declared.time.Time.{Time}
use Rattle.toggler.specs.declared.tick_queue.Queued.{Queued}
use Rattle.toggler.specs.declared.tick_queue.Picked.{Picked}
use Rattle.toggler.specs.Queue.{no_queued, sooner, better, pick_from}

module _ (queue : List Queued) (time : Option Time) (part i : ℕ) (h : i < length queue) where
  turn : pick_from (drop (i + 1) queue) (i + 1) (better (record { time = time; part = part }) (get_or queue i no_queued).time i)
      ≡ pick_from (drop i queue) i (record { time = time; part = part })
  turn =
      ap (λ (k : ℕ). pick_from (drop k queue) (i + 1) (better (record { time = time; part = part }) (get_or queue i no_queued).time i)) (add-one i)
      ∙ sym (ap (λ (l : List Queued). pick_from l i (record { time = time; part = part })) (drop-cons queue i no_queued h))

  -- the part i is better, or the best so far stays
  pub takes : sooner (get_or queue i no_queued).time time ≡ true
      → pick_from (drop (i + 1) queue) (i + 1) (record { time = (get_or queue i no_queued).time; part = i }) ≡ pick_from (drop i queue) i (record { time = time; part = part })
  takes t = rw t at turn

  pub keeps : sooner (get_or queue i no_queued).time time ≡ false
      → pick_from (drop (i + 1) queue) (i + 1) (record { time = time; part = part }) ≡ pick_from (drop i queue) i (record { time = time; part = part })
  keeps t = rw t at turn

-- ---- places that hold no time

-- no place from m on holds a time
abbrev pub NoneFrom : ℕ → List Queued → Type 0
NoneFrom m queue = (k : ℕ) → m ≤ k → get_or queue k no_queued ≡ no_queued

-- none past the last place does
pub none-past : (queue : List Queued) (m : ℕ) → length queue ≤ m → NoneFrom m queue
none-past queue m h k le = get_or-eq_default queue no_queued (omega arith)

-- a place below m anew
pub none-set : (queue : List Queued) (m i : ℕ) (x : Queued) → i < m → NoneFrom m queue → NoneFrom m (set queue i x)
none-set queue m i x h none k le = let other : k ≡ i → ⊥ = omega arith in get_or-set_other queue i k x no_queued other ∙ none k le

none-better : (queue : List Queued) (i : ℕ) (best : Picked) → ((k : ℕ) → get_or queue k no_queued ≡ no_queued) → best ≡ pick_from queue i best
unfolding sooner
none-better [] i best none = refl
none-better (q ∷ queue) i best none = rw (none 0) (none-better queue (i + 1) best (λ k. none (suc k)))

-- what is left holds no time, so that the best so far is the pick
pub finished : (queue : List Queued) (i : ℕ) (best : Picked) → NoneFrom i queue → best ≡ pick_from (drop i queue) i best
finished queue i best none = none-better (drop i queue) i best (λ k. get_or-drop i queue k no_queued ∙ none (i + k) (omega arith))
