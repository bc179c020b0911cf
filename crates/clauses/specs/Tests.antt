-- The clauses of `fit` (the crate `remy`, specs/Fit.antt) by the parts of the state that they read: a test for each packet, one for each sender with its toggler
-- and meter, and one for each place of the queue. Definitions only. Their conjunction with `frame_test` (the crate `ranges`) is `fit` (`Groups` in the proofs of
-- `fitness`), which the contract of `is_fit` cites; the contracts of its parts cite these.
use Rattle.std.specs.Prelude.{ℕ, ◌+◌, ◌*◌, ◌≤◌, ◌<◌, ◌≡◌, Bool, true, not, cond, ◌&&◌, ◌||◌, List, map, leb, ltb, eqb, get_or, Option, Some, None}
use Rattle.std.specs.Bool.{beq}
use Rattle.std.specs.Float.Ieee.{le}
use Rattle.quantities.specs.declared.time.Time.{Time}
use Rattle.quantities.specs.declared.information.Information.{Information}
use Rattle.quantities.specs.Units.{span_of, span_after}
use Rattle.draws.specs.declared.generator.Rng.{Rng}
use Rattle.draws.specs.Generator.{all_zero}
use Rattle.meters.specs.declared.meter.AverageFlowMeter.{AverageFlowMeter}
use Rattle.meters.specs.Meter.{is_on, total_fit, sum_fit}
use Rattle.link.specs.declared.packet.Packet.{Packet}
use Rattle.link.specs.declared.packet.Waiting.{Waiting}
use Rattle.link.specs.declared.packet.Transit.{Transit}
use Rattle.link.specs.declared.ring.Ring.{Ring}
use Rattle.link.specs.declared.link.Line.{Line}
use Rattle.link.specs.declared.link.LineValues.{LineValues}
use Rattle.sender.specs.declared.lossy.Policy.{Policy}
use Rattle.sender.specs.declared.lossy.SenderState.{SenderState}
use Rattle.sender.specs.declared.lossy.Enabled.{Enabled}
use Rattle.sender.specs.declared.lossy.LossySender.{LossySender}
use Rattle.toggler.specs.declared.toggler.Toggler.{Toggler}
use Rattle.toggler.specs.declared.tick_queue.Queued.{Queued}
use Rattle.link.specs.Ring.{slot_of, items}
use Rattle.link.specs.Link.{next_tick}
use Rattle.sender.specs.Sender.{sender_next}
use Rattle.toggler.specs.Queue.{queue_places, no_queued}
use Rattle.sender.specs.declared.lossy.SenderState.TheVariants as State
use Rattle.remy.specs.Network.{up_to, between, window_fit}
use Rattle.remy.specs.State.{Role, link, bouncer, sender, toggler, nobody, role_of, no_line, no_sender, no_toggler, no_meter, no_waiting, no_transit, total_bits}
use Rattle.remy.specs.Fit.{every, held, count_of, sum_to, is_next, is_timed, sender_on, same_time, rising}
use Rattle.ranges.specs.Frame.{values_at, past_test}

-- ---- packets

-- a packet of a sender that sent so many
unfoldable pub sent_test : ℕ → Time → Packet → Bool
sent_test sent clock p = between 1 sent p.seq && past_test clock p.sent_time

-- a packet, among n senders
unfoldable pub packet_test : List LossySender → ℕ → Time → Packet → Bool
packet_test senders n clock p = ltb p.sender n && sent_test (get_or senders p.sender no_sender).packets_sent clock p

-- a packet on a line
unfoldable pub transit_test : List LossySender → ℕ → Time → Transit → Bool
transit_test senders n clock x = packet_test senders n clock x.packet && held x.due

-- a packet that waits, with the bits of its sender's packets
unfoldable pub waits_test : List LossySender → List ℕ → ℕ → Time → Waiting → Bool
waits_test senders sizes n clock x = packet_test senders n clock x.packet && eqb x.bits.0 (get_or sizes x.packet.sender 0)

-- the packets that wait for line l, with the waiting bits, and those on it
unfoldable pub waiting_test : List LossySender → List ℕ → ℕ → Time → List Waiting → ℕ → Ring → Information → Bool
waiting_test senders sizes n clock slots l ring contains =
    every (waits_test senders sizes n clock) (items no_waiting slots l ring) && eqb contains.0 (total_bits (items no_waiting slots l ring))

unfoldable pub on_line_test : List LossySender → ℕ → Time → List Transit → ℕ → Ring → Bool
on_line_test senders n clock slots l ring = every (transit_test senders n clock) (items no_transit slots l ring)

-- due times do not fall
unfoldable pub due_test : List Transit → ℕ → Ring → Bool
due_test slots l ring = rising (items no_transit slots l ring)

unfoldable pub line_packets_test : List LossySender → List ℕ → ℕ → Time → List Waiting → List Transit → ℕ → Line → Bool
line_packets_test senders sizes n clock waiting on_line l line =
    waiting_test senders sizes n clock waiting l line.waiting line.buffer_contains
    && on_line_test senders n clock on_line l line.on_line
    && due_test on_line l line.on_line

-- the packets of the first so many lines
unfoldable pub packets_test : List LossySender → List ℕ → ℕ → Time → List Waiting → List Transit → List Line → ℕ → Bool
packets_test senders sizes n clock waiting on_line lines count =
    up_to count (λ l. line_packets_test senders sizes n clock waiting on_line l (get_or lines l no_line))

-- no packet on line l is due later than a time
unfoldable pub soon_on_test : Time → List Transit → ℕ → Ring → Bool
soon_on_test latest slots l ring = every (λ x. le x.due.0.0 latest.0.0) (items no_transit slots l ring)

-- none on the first so many lines is due later than the clock and the line's delay
unfoldable pub soon_test : LineValues → Option LineValues → Time → List Transit → List Line → ℕ → Bool
soon_test first back clock on_line lines count =
    up_to count (λ l. soon_on_test (span_after clock (span_of (values_at first back l).delay)) on_line l (get_or lines l no_line).on_line)

-- a sender's packets that wait for line l or are on it, and those of the first so many lines
unfoldable pub line_of : List Waiting → List Transit → ℕ → Line → ℕ → ℕ
line_of waiting on_line l line i =
    count_of i (map (λ x. x.packet) (items no_waiting waiting l line.waiting)) + count_of i (map (λ x. x.packet) (items no_transit on_line l line.on_line))

unfoldable pub lines_of : List Waiting → List Transit → List Line → ℕ → ℕ → ℕ
lines_of waiting on_line lines count i = sum_to count (λ l. line_of waiting on_line l (get_or lines l no_line) i)

-- the first n numbers are at most so much
pub record AtMost (most n : ℕ) (numbers : List ℕ) : Type 0 where
  pub each : (i : ℕ) → i < n → get_or numbers i 0 ≤ most

-- counts of the 16 senders: element i is sender i's; a packet of another sender is counted nowhere
pub record Counts (bound : ℕ) (of : ℕ → ℕ) (counts : List ℕ) : Type 0 where
  pub each : (i : ℕ) → i < 16 → get_or counts i 0 ≡ of i
  pub most : AtMost bound 16 counts

-- counts of the 16 senders, with one more for a packet of sender i
pub record OneMore (i : ℕ) (before after : List ℕ) : Type 0 where
  pub each : (k : ℕ) → k < 16 → get_or after k 0 ≡ get_or before k 0 + cond (eqb i k) 1 0

-- such counts, with so many more
abbrev pub Added : ℕ → List ℕ → (ℕ → ℕ) → List ℕ → Type 0
Added bound first more counts = Counts bound (λ i. get_or first i 0 + more i) counts

-- ---- a sender with its toggler and meter

-- a timer is held, and its policy is timed
unfoldable pub timer_test : Policy → Option Time → Bool
timer_test policy None = true
timer_test policy (Some t) = held t && is_timed policy

unfoldable pub enabled_test : Policy → Time → Enabled → Bool
enabled_test policy clock e =
    past_test clock e.started && leb e.greatest_ack 16777216 && window_fit e.cwnd && timer_test policy e.timer

unfoldable pub state_test : Policy → Time → SenderState → Bool
state_test policy clock State.WaitingForEnable = true
state_test policy clock (State.Enabled e) = enabled_test policy clock e

unfoldable pub start_test : Time → Option Time → Bool
start_test clock None = true
start_test clock (Some t) = past_test clock t

-- a meter, for packets of so many bits
unfoldable pub meter_test : ℕ → Time → AverageFlowMeter → Bool
meter_test bits clock m =
    start_test clock m.current_start && total_fit m.total_time && sum_fit m.records m.rtt_sum && eqb m.total.0 (m.records * bits)

-- toggler, sender and meter agree on on/off
unfoldable pub agree_test : Bool → SenderState → Option Time → Bool
agree_test enabled state start = beq enabled (sender_on state) && beq (sender_on state) (is_on start)

-- what was sent, with so many packets under way
unfoldable pub sent_count_test : ℕ → ℕ → ℕ → Bool
sent_count_test sent records under_way = leb sent 16777216 && leb (records + under_way) sent

-- the words of a sender's generator, and of its toggler's
unfoldable pub words_test : Rng → Rng → Bool
words_test own toggling = not (all_zero own) && not (all_zero toggling)

unfoldable pub sender_test : Policy → ℕ → Time → LossySender → Toggler → AverageFlowMeter → ℕ → Bool
sender_test policy bits clock s t m under_way =
    state_test policy clock s.state
    && held t.next_toggle
    && meter_test bits clock m
    && sent_count_test s.packets_sent m.records under_way
    && agree_test t.enabled s.state m.current_start
    && words_test s.rng t.rng

-- the first n senders, where sender i's packets have so many bits and so many of them are under way
module _ (policy : Policy) (bits : ℕ → ℕ) (clock : Time) (under_way : ℕ → ℕ) where
  unfoldable pub senders_test : ℕ → List LossySender → List Toggler → List AverageFlowMeter → Bool
  senders_test n senders togglers meters =
      up_to n
      (λ i.
      sender_test policy (bits i) clock (get_or senders i no_sender) (get_or togglers i no_toggler) (get_or meters i no_meter) (under_way i))

-- ---- the queue

-- the own next time of the link of line l
unfoldable pub link_time : List Line → List Transit → Time → ℕ → Option Time
link_time lines on_line clock l =
    next_tick (get_or lines l no_line) clock (get_or on_line (slot_of l (get_or lines l no_line).on_line.start) no_transit).due

-- the times of the first so many links, as they are queued
pub record LinkTimes (of : ℕ → Option Time) (count : ℕ) (times : List Queued) : Type 0 where
  pub each : (l : ℕ) → l < count → (get_or times l no_queued).time ≡ of l

-- the own next time of a role's part
unfoldable pub role_time : List Queued → Time → List LossySender → List Toggler → Role → Option Time
role_time links clock senders togglers (link l) = (get_or links l no_queued).time
role_time links clock senders togglers bouncer = None
role_time links clock senders togglers (sender i) = sender_next (get_or senders i no_sender) clock
role_time links clock senders togglers (toggler i) = Some (get_or togglers i no_toggler).next_toggle
role_time links clock senders togglers nobody = None

-- a queued time is held and not below the clock
unfoldable pub queued_test : Time → Option Time → Bool
queued_test clock None = true
queued_test clock (Some t) = held t && le clock.0.0 t.0.0

-- a place with what is queued there and the own next time of its part, which is not compared for the next part
unfoldable pub place_test : Option ℕ → Time → ℕ → Option Time → Option Time → Bool
place_test next clock k queued own = queued_test clock queued && (is_next next k || same_time queued own)

-- nothing is queued in the first n places
unfoldable pub empty_test : ℕ → List Queued → Bool
empty_test n queue = up_to n (λ k. not (is_on (get_or queue k no_queued).time))

module _ (count : ℕ) (back : Bool) (links : List Queued) (clock : Time) (senders : List LossySender) (togglers : List Toggler) where
  -- the own next time of part k, among so many senders
  unfoldable pub part_time : ℕ → Option Time
  part_time k = role_time links clock senders togglers (role_of count back k)

  -- the next part's own next time is the clock; nothing is queued where there is none
  unfoldable pub next_test : List Queued → Option ℕ → Bool
  next_test queue None = empty_test queue_places queue
  next_test queue (Some j) = same_time (Some clock) (part_time j)

  -- the first n places
  unfoldable pub places_test : ℕ → List Queued → Option ℕ → Bool
  places_test n queue next = up_to n (λ k. place_test next clock k (get_or queue k no_queued).time (part_time k))

  unfoldable pub queue_test : List Queued → Option ℕ → Bool
  queue_test queue next = next_test queue next && places_test queue_places queue next
