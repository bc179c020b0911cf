-- The clauses of held and of past times, taken apart. Assumes nothing.
use mathlib.Core.Path.{◌≡◌}
use mathlib.Core.Bool.{true, ◌&&◌, ◌||◌}
use lib.Ieee.{eq}
use Rattle.quantities.specs.Doubles.{largest}
use Rattle.toggler.specs.Queue.{queue_places}
use Rattle.remy.specs.declared.simulation.Simulation.{Simulation}
use Rattle.remy.specs.State.{line_at, sender_at, toggler_at, meter_at, queued_at, waiting_packets, on_line_items, on_line_packets}
use Rattle.remy.specs.Network.{up_to}
use Rattle.remy.specs.Fit.{every, each_sender, each_line, held, held_if_any, is_idle, held_sender, held_queued, since_start, started_fit, meter_start_fit, held_times_fit, past_fit}
use Rattle.remy.proofs.Facts.{both_l, both_r}

pub record HeldTimes (s : Simulation) : Type 0 where
  pub clock : (held s.head.clock || (is_idle s.head.next && eq s.head.clock.0.0 largest)) ≡ true
  pub free : each_line s (λ l. held (line_at s l).earliest_transmit) ≡ true
  pub dues : each_line s (λ l. every (λ x. held x.due) (on_line_items s l)) ≡ true
  pub senders : each_sender s (λ i. held_sender (sender_at s i).state) ≡ true
  pub toggles : each_sender s (λ i. held (toggler_at s i).next_toggle) ≡ true
  pub queue : up_to queue_places (λ k. held_queued s (queued_at s k)) ≡ true

pub held-times : (s : Simulation) → held_times_fit s ≡ true → HeldTimes s
unfolding held_times_fit
held-times s all =
    let now = held s.head.clock || (is_idle s.head.next && eq s.head.clock.0.0 largest) in
    let free = each_line s (λ l. held (line_at s l).earliest_transmit) in
    let waiting = each_line s (λ l. every (λ p. held p.sent_time) (waiting_packets s l)) in
    let moving = each_line s (λ l. every (λ p. held p.sent_time) (on_line_packets s l)) in
    let dues = each_line s (λ l. every (λ x. held x.due) (on_line_items s l)) in
    let senders = each_sender s (λ i. held_sender (sender_at s i).state) in
    let toggles = each_sender s (λ i. held (toggler_at s i).next_toggle) in
    let starts = each_sender s (λ i. held_if_any (meter_at s i).current_start) in
    let queue = up_to queue_places (λ k. held_queued s (queued_at s k)) in
    let to-waiting = now && free && waiting in
    let to-dues = to-waiting && moving && dues in
    let to-toggles = to-dues && senders && toggles in
    let by-starts = both_l (to-toggles && starts) queue all in
    let by-toggles = both_l to-toggles starts by-starts in
    let by-senders = both_l (to-dues && senders) toggles by-toggles in
    let by-dues = both_l to-dues senders by-senders in
    let by-moving = both_l (to-waiting && moving) dues by-dues in
    let by-free = both_l (now && free) waiting (both_l to-waiting moving by-moving) in
    record {
      clock = both_l now free by-free;
      free = both_r now free by-free;
      dues = both_r (to-waiting && moving) dues by-dues;
      senders = both_r to-dues senders by-senders;
      toggles = both_r (to-dues && senders) toggles by-toggles;
      queue = both_r (to-toggles && starts) queue all;
    }

pub record PastTimes (s : Simulation) : Type 0 where
  pub waiting : each_line s (λ l. every (λ p. since_start s p.sent_time) (waiting_packets s l)) ≡ true
  pub moving : each_line s (λ l. every (λ p. since_start s p.sent_time) (on_line_packets s l)) ≡ true
  pub senders : each_sender s (λ i. started_fit s (sender_at s i).state) ≡ true
  pub meters : each_sender s (λ i. meter_start_fit s (meter_at s i).current_start) ≡ true

pub past_times : (s : Simulation) → past_fit s ≡ true → PastTimes s
unfolding past_fit
past_times s all =
    let waiting = each_line s (λ l. every (λ p. since_start s p.sent_time) (waiting_packets s l)) in
    let moving = each_line s (λ l. every (λ p. since_start s p.sent_time) (on_line_packets s l)) in
    let senders = each_sender s (λ i. started_fit s (sender_at s i).state) in
    let meters = each_sender s (λ i. meter_start_fit s (meter_at s i).current_start) in
    let by-senders = both_l (waiting && moving && senders) meters all in
    let by-moving = both_l (waiting && moving) senders by-senders in
    record {
      waiting = both_l waiting moving by-moving;
      moving = both_r waiting moving by-moving;
      senders = both_r (waiting && moving) senders by-senders;
      meters = both_r (waiting && moving && senders) meters all;
    }
