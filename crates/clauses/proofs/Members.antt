-- The tests of a packet and of what holds one by what decides them, and the loops over the lines and over the senders. Assumes nothing.
use Rattle.std.proofs.Common.{Option}
use Prim.Native.Nat.{ℕ, ◌+◌, ◌*◌, ◌<◌}
use mathlib.Core.Path.{◌≡◌, sym, ap, ◌∙◌}
use mathlib.Core.Bool.{Bool, true, false, ◌&&◌}
use mathlib.Core.List.{List}
use native.Mathlib.Decide.{ℕ_discrete}
use native.Mathlib.Nat.{not-suc-le-zero}
use native.Mathlib.Numerals.{add-one}
use native.Mathlib.Omega.{arith}
use lib.ListN.{length, get_or, set, replicate, get_or-replicate}
use lib.Seq.{get_or-set_same, get_or-set_other}
use lib.Dec.{ltb}
use borrow.Author.Tests.{ltb-true}
use Rattle.quantities.specs.declared.time.Time.{Time}
use Rattle.meters.specs.declared.meter.AverageFlowMeter.{AverageFlowMeter}
use Rattle.link.specs.declared.packet.Packet.{Packet}
use Rattle.link.specs.declared.packet.Waiting.{Waiting}
use Rattle.link.specs.declared.packet.Transit.{Transit}
use Rattle.link.specs.declared.link.Line.{Line}
use Rattle.sender.specs.declared.lossy.Policy.{Policy}
use Rattle.sender.specs.declared.lossy.LossySender.{LossySender}
use Rattle.toggler.specs.declared.toggler.Toggler.{Toggler}
use Rattle.toggler.specs.declared.tick_queue.Queued.{Queued}
use Rattle.toggler.specs.Queue.{no_queued}
use Rattle.remy.specs.State.{no_line, no_sender, no_toggler, no_meter}
use Rattle.remy.proofs.Facts.{both_l}
use Rattle.ranges.proofs.UpTo.{up_goes, up_stops, up_same}
use Rattle.clauses.specs.Tests.{packet_test, line_of, lines_of, Counts, Added, sender_test, senders_test, LinkTimes}

-- ---- packets

module _ (senders : List LossySender) (n : ℕ) (clock : Time) (p : Packet) where
  pub packet_known : packet_test senders n clock p ≡ true → p.sender < n
  unfolding packet_test
  packet_known e = ltb-true p.sender n (both_l (ltb p.sender n) _ e)

-- two tests in a row, as of a packet and of what holds it
module _ (a b : Bool) where
  pub first-fails : a ≡ false → (a && b) ≡ false
  first-fails e = rw e

  pub first_passes : a ≡ true → (r : Bool) → r ≡ b → (a && b) ≡ r
  first_passes e r h = rw (e, h)

-- ---- counts of the packets of the first lines

module _ (waiting : List Waiting) (on_line : List Transit) (lines : List Line) where
  pub counts-none : Counts (1024 * 0) (lines_of waiting on_line lines 0) (replicate 16 0)
  unfolding lines_of
  counts-none = record { each = none; most = record { each = λ k h. let e = none k h in omega (arith, e) } }
    where
      none : (k : ℕ) → k < 16 → get_or {A = ℕ} (replicate 16 0) k 0 ≡ 0
      none k h = get_or-replicate {A = ℕ} 16 k 0 0 h

  module _ (l : ℕ) (counts : List ℕ) (c : Counts (1024 * l) (lines_of waiting on_line lines l) counts) where
    pub counts-one : (more : List ℕ) → Added (1024 * (l + 1)) counts (line_of waiting on_line l (get_or lines l no_line)) more
        → Counts (1024 * (l + 1)) (lines_of waiting on_line lines (l + 1)) more
    unfolding lines_of
    counts-one more a =
        rw (add-one l)
        (record {
          each = λ k h. a.each k h ∙ ap (λ (n : ℕ). n + line_of waiting on_line l (get_or lines l no_line) k) (c.each k h);
          most = record { each = λ k h. let e = a.most.each k h in omega (arith, e) };
        })

-- ---- senders

module _ (policy : Policy) (bits : ℕ → ℕ) (clock : Time) (under_way : ℕ → ℕ) (senders : List LossySender) (togglers : List Toggler) (meters : List AverageFlowMeter) where
  -- the i-th sender passes or fails
  module _ (i : ℕ) (r : Bool)
      (er : r ≡ sender_test policy (bits i) clock (get_or senders i no_sender) (get_or togglers i no_toggler) (get_or meters i no_meter) (under_way i)) where
    pub senders_goes : senders_test policy bits clock under_way i senders togglers meters ≡ true → r ≡ true
        → senders_test policy bits clock under_way (i + 1) senders togglers meters ≡ true
    unfolding senders_test
    senders_goes e t = up_goes _ i e (sym er ∙ t)

    pub senders-stops : (n : ℕ) → i < n → r ≡ false → false ≡ senders_test policy bits clock under_way n senders togglers meters
    unfolding senders_test
    senders-stops n h t = up_stops _ n i h (sym er ∙ t)

  -- equal counts of the n senders give the same test
  pub senders-same : (others : ℕ → ℕ) (n : ℕ) → ((i : ℕ) → i < n → under_way i ≡ others i)
      → senders_test policy bits clock under_way n senders togglers meters ≡ senders_test policy bits clock others n senders togglers meters
  unfolding senders_test
  senders-same others n e = up_same _ _ n (λ i h. rw (e i h))

-- ---- the times of the first links

module _ (of : ℕ → Option Time) (times : List Queued) where
  pub times_none : LinkTimes of 0 times
  times_none = record { each = λ k h. absurd (not-suc-le-zero h) }

  pub times-one : (l : ℕ) → LinkTimes of l times → l < length times → (x : Queued) → x.time ≡ of l → LinkTimes of (l + 1) (set times l x)
  times-one l t h x e = record { each = λ k m. each k m (ℕ_discrete k l) }
    where
      each : (k : ℕ) → k < l + 1 → Dec (k ≡ l) → (get_or (set times l x) k no_queued).time ≡ of k
      each k m (yes same) = rw (same, get_or-set_same times l x no_queued h) e
      each k m (no other) = rw (get_or-set_other times l k x no_queued other) (t.each k (omega arith))
