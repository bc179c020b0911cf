-- What an enabled sender keeps through a timer, a send and a packet that comes back, and what a switched one has. Assumes nothing.
use mathlib.Core.Path.{◌≡◌, refl}
use mathlib.Core.Bool.{true, ◌&&◌}
use Prim.Native.Nat.{ℕ, ◌+◌, ◌/◌, min, max, ◌≤◌, ◌<◌}
use native.Mathlib.Omega.{arith}
use borrow.Author.Tests.{le-leb, leb-false}
use lib.Dec.{leb}
use Rattle.quantities.specs.declared.time.Time.{Time}
use Rattle.link.specs.declared.packet.Packet.{Packet}
use Rattle.sender.specs.declared.lossy.Policy.{Policy}
use Rattle.sender.specs.declared.lossy.Enabled.{Enabled}
use Rattle.sender.specs.declared.lossy.Sent.{Sent}
use Rattle.sender.specs.Sender.{first_window, window_sent, window_counted, tick_timer, not_sent, sent_with, tick_send, acked}
use Rattle.remy.specs.Network.{window_fit, gap_fit, policy_fit}
use Rattle.remy.proofs.Facts.{both_l, both_r, both_i, between_low, between_high}
use Rattle.remy.proofs.Steps.{cond_elim}
use Rattle.steady.proofs.Facts.{EnabledOk}
use Rattle.steady.proofs.Times.{Early, timer_in_ok, timer_sent_ok}

-- ---- windows

window_i : (w : ℕ) → 1 ≤ w → w ≤ 64 → window_fit w ≡ true
window_i w low high = both_i (leb 1 w) (leb w 64) (le-leb 1 w low) (le-leb w 64 high)

halved-fit : (w : ℕ) → window_fit w ≡ true → window_fit (max 1 (w / 2)) ≡ true
halved-fit w f = let high : w ≤ 64 = between_high 1 64 w f in window_i (max 1 (w / 2)) (omega arith) (omega (arith, high))

grown-fit : (w most : ℕ) → window_fit most ≡ true → window_fit (min (w + 1) most) ≡ true
grown-fit w most g =
    let low : 1 ≤ most = between_low 1 64 most g in
    let high : most ≤ 64 = between_high 1 64 most g in
    window_i (min (w + 1) most) (omega (arith, low)) (omega (arith, high))

pub first-fit : (policy : Policy) → policy_fit policy ≡ true → window_fit (first_window policy) ≡ true
unfolding first_window
first-fit (Policy.Held w) f = f
first-fit (Policy.Grown first most) f = both_l (window_fit first) (window_fit most) (both_l (window_fit first && window_fit most) (leb first most) f)
first-fit (Policy.Timed most gap) f = refl

sent_fit : (policy : Policy) (w : ℕ) → policy_fit policy ≡ true → window_fit w ≡ true → window_fit (window_sent policy w) ≡ true
unfolding window_sent
sent_fit (Policy.Held u) w f g = f
sent_fit (Policy.Grown first most) w f g = g
sent_fit (Policy.Timed most gap) w f g = g

counted-fit : (policy : Policy) (w : ℕ) → policy_fit policy ≡ true → window_fit (window_counted policy w) ≡ true
unfolding window_counted
counted-fit (Policy.Held u) w f = f
counted-fit (Policy.Grown first most) w f = grown-fit w most (both_r (window_fit first) (window_fit most) (both_l (window_fit first && window_fit most) (leb first most) f))
counted-fit (Policy.Timed most gap) w f = grown-fit w most (both_l (window_fit most) (gap_fit gap) f)

-- what a send that is not refused gives: the packet that follows the last, of sender i
pub record SentOk (clock : Time) (sent : ℕ) (policy : Policy) (i : ℕ) (t : Sent) : Type 0 where
  pub room : sent < 16777216
  pub packet : t.packet ≡ record { sender = i; seq = sent + 1; sent_time = clock }
  pub count : t.packets_sent ≡ sent + 1
  pub enabled : EnabledOk policy clock t.enabled

module _ (clock : Time) (c : Early clock) (e : Enabled) where
  -- ---- a timer
  pub timer_ok : (policy : Policy) → policy_fit policy ≡ true → EnabledOk policy clock e → EnabledOk policy clock (tick_timer policy e clock)
  unfolding tick_timer
  timer_ok (Policy.Held w) f k = record { started = k.started; ack = k.ack; window = k.window; timer = tt }
  timer_ok (Policy.Grown first most) f k = record { started = k.started; ack = k.ack; window = k.window; timer = tt }
  timer_ok (Policy.Timed most gap) f k =
      record { started = k.started; ack = k.ack; window = halved-fit e.cwnd k.window; timer = timer_in_ok most gap clock f c }

  -- ---- a send
  pub sent_ok : (sent : ℕ) (policy : Policy) (i : ℕ) → policy_fit policy ≡ true → EnabledOk policy clock e → (tick_send sent policy e clock i).number ≡ 0
      → SentOk clock sent policy i (tick_send sent policy e clock i)
  unfolding tick_send
  sent_ok sent policy i f k =
      cond_elim (λ (t : Sent). t.number ≡ 0 → SentOk clock sent policy i t) (leb 16777216 sent) (not_sent sent e clock i) (sent_with sent policy e clock i)
      (λ spent z. let no : ⊥ = omega (arith, z) in absurd no)
      (λ room z. record {
        room = leb-false 16777216 sent room;
        packet = refl;
        count = refl;
        enabled = record { started = k.started; ack = k.ack; window = sent_fit policy e.cwnd f k.window; timer = timer_sent_ok policy e.timer clock f c k.timer };
      })

  -- ---- a packet that is counted
  pub acked_ok : (policy : Policy) (p : Packet) → policy_fit policy ≡ true → p.seq ≤ 16777216 → EnabledOk policy clock e → EnabledOk policy clock (acked policy e p)
  acked_ok policy p f few k =
      let ack = k.ack in
      record { started = k.started; ack = omega (arith, few, ack); window = counted-fit policy e.cwnd f; timer = k.timer }
