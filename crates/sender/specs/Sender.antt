-- Document 01, "Sender", and row 11 of "Stops". Definitions only.
use Rattle.std.specs.Prelude.{ℕ, ◌+◌, ◌/◌, min, max, Bool, false, cond, leb, ltb, Float, Option, Some, None}
use Rattle.std.specs.Float.Ieee.{lt, eq}
use Rattle.quantities.specs.declared.time.Time.{Time}
use Rattle.quantities.specs.Units.{span_of, span_after, earliest_opt_of}
use Rattle.link.specs.declared.packet.Packet.{Packet}
use Rattle.sender.specs.declared.lossy.Policy.{Policy}
use Rattle.sender.specs.declared.lossy.Policy.TheVariants.{Held, Grown, Timed}
use Rattle.sender.specs.declared.lossy.Enabled.{Enabled}
use Rattle.sender.specs.declared.lossy.SenderState.{SenderState}
use Rattle.sender.specs.declared.lossy.SenderState.TheVariants as State
use Rattle.sender.specs.declared.lossy.LossySender.{LossySender}
use Rattle.sender.specs.declared.lossy.Sent.{Sent}
use Rattle.sender.specs.declared.lossy.Heard.TheVariants.{Ignored, Old, Counted}
use Rattle.sender.specs.declared.lossy.Returned.{Returned}

-- ---- the policies

-- the first window: timed starts at 1
unfoldable pub first_window : Policy → ℕ
first_window (Held w) = w
first_window (Grown first most) = first
first_window (Timed most gap) = 1

-- held w, given at each send
unfoldable pub window_sent : Policy → ℕ → ℕ
window_sent (Held w) window = w
window_sent (Grown first most) window = window
window_sent (Timed most gap) window = window

-- held w, given at each count; grown: a count gives min(window + 1, most); timed grows likewise
unfoldable pub window_counted : Policy → ℕ → ℕ
window_counted (Held w) window = w
window_counted (Grown first most) window = min (window + 1) most
window_counted (Timed most gap) window = min (window + 1) most

-- the timer: clock + gap
abbrev pub timer_in : Time → Float → Time
timer_in clock gap = span_after clock (span_of gap)

-- timed: timer set to clock + gap at its first send, the one that finds no timer held
unfoldable pub timer_sent : Policy → Option Time → Time → Option Time
timer_sent (Held w) timer clock = timer
timer_sent (Grown first most) timer clock = timer
timer_sent (Timed most gap) (Some t) clock = Some t
timer_sent (Timed most gap) None clock = Some (timer_in clock gap)

-- ---- on and off

abbrev pub with_state : LossySender → SenderState → LossySender
with_state s state = record { packets_sent = s.packets_sent; state = state; rng = s.rng }

-- On: started = clock, greatest ack = sent, window = first.
unfoldable pub enabled_of : Policy → LossySender → Time → LossySender
enabled_of policy s clock =
    with_state s (State.Enabled (record { started = clock; greatest_ack = s.packets_sent; cwnd = first_window policy; timer = None }))

-- Switching off clears the policy.
unfoldable pub disabled_of : LossySender → LossySender
disabled_of s = with_state s State.WaitingForEnable

-- ---- next time

-- It may send if sent < greatest ack + window, due at the clock.
abbrev pub may_send : ℕ → Enabled → Bool
may_send sent e = ltb sent (e.greatest_ack + e.cwnd)

abbrev pub next_send : ℕ → Enabled → Time → Option Time
next_send sent e clock = cond (may_send sent e) (Some clock) None

-- Its next time is the earlier of that and the timer.
abbrev pub state_next : ℕ → SenderState → Time → Option Time
state_next sent State.WaitingForEnable clock = None
state_next sent (State.Enabled e) clock = earliest_opt_of (next_send sent e clock) e.timer

unfoldable pub sender_next : LossySender → Time → Option Time
sender_next s clock = state_next s.packets_sent s.state clock

-- ---- tick

-- a timer equal to the clock
abbrev pub due_at : Option Time → Time → Bool
due_at None clock = false
due_at (Some t) clock = eq t.0.0 clock.0.0

unfoldable pub timer_due : Enabled → Time → Bool
timer_due e clock = due_at e.timer clock

-- after a timer: another window and another timer
abbrev pub timer_ticked : Enabled → ℕ → Option Time → Enabled
timer_ticked e window timer = record { started = e.started; greatest_ack = e.greatest_ack; cwnd = window; timer = timer }

-- At each timer the window halves rounded down, at least 1, and the timer is clock + gap. A sender of another policy holds no timer in a fit state.
unfoldable pub tick_timer : Policy → Enabled → Time → Enabled
tick_timer (Held w) e clock = timer_ticked e e.cwnd None
tick_timer (Grown first most) e clock = timer_ticked e e.cwnd None
tick_timer (Timed most gap) e clock = timer_ticked e (max 1 (e.cwnd / 2)) (Some (timer_in clock gap))

-- a refused send (11) has no packet: sequence 0
abbrev pub not_sent : ℕ → Enabled → Time → ℕ → Sent
not_sent sent e clock i = record { number = 11; packet = record { sender = i; seq = 0; sent_time = clock }; packets_sent = sent; enabled = e }

-- the sender after a send, and its packet
abbrev pub sent_with : ℕ → Policy → Enabled → Time → ℕ → Sent
sent_with sent policy e clock i =
    record {
      number = 0;
      packet = record { sender = i; seq = sent + 1; sent_time = clock };
      packets_sent = sent + 1;
      enabled =
          record { started = e.started; greatest_ack = e.greatest_ack; cwnd = window_sent policy e.cwnd; timer = timer_sent policy e.timer clock };
    }

-- One packet, sequence sent + 1. 11: a sender due to send has sent 2^24.
unfoldable pub tick_send : ℕ → Policy → Enabled → Time → ℕ → Sent
tick_send sent policy e clock i =
    cond (leb 16777216 sent) (not_sent sent e clock i) (sent_with sent policy e clock i)

-- ---- a packet that comes back

-- counted, window asked, greatest ack = max
abbrev pub acked : Policy → Enabled → Packet → Enabled
acked policy e p =
    record { started = e.started; greatest_ack = max e.greatest_ack p.seq; cwnd = window_counted policy e.cwnd; timer = e.timer }

-- Return while off: ignored; sent before started: old; else counted.
abbrev pub return_to : Policy → LossySender → SenderState → Packet → Returned
return_to policy s State.WaitingForEnable p = record { heard = Ignored; sender = s }
return_to policy s (State.Enabled e) p =
    cond (lt p.sent_time.0.0 e.started.0.0)
    (record { heard = Old; sender = s })
    (record { heard = Counted; sender = with_state s (State.Enabled (acked policy e p)) })

unfoldable pub returned_of : Policy → LossySender → Packet → Returned
returned_of policy s p = return_to policy s s.state p
