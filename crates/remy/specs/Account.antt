-- Demand 3: the account of packets, as one claim about every list of calls from a fresh simulation. Definitions only; the proof is in proofs/.
-- Dropped full, lost, counted, old and ignored are read in the history alone, waiting and on a line in the last state's rings alone.
use Rattle.std.specs.Prelude.{ℕ, ◌+◌, ◌≤◌, ◌<◌, ◌≡◌, ◌&&◌, cond, List, [], ◌∷◌, ◌++◌, map, length, take, T, ltb, eqb, Option, Some, None}
use Rattle.std.specs.Float.Ieee.{le}
use Rattle.quantities.specs.declared.time_span.TimeSpan.{TimeSpan}
use Rattle.quantities.specs.Units.{span_of, rate_of, amount_of, amount_over_rate, span_after}
use Rattle.link.specs.declared.packet.Waiting.{Waiting}
use Rattle.link.specs.declared.packet.Transit.{Transit}
use Rattle.link.specs.declared.link.LineValues.{LineValues}
use Rattle.remy.specs.declared.network.RemyNetwork.{RemyNetwork}
use Rattle.remy.specs.declared.simulation.Simulation.{Simulation}
use Rattle.remy.specs.declared.simulation.TickRecord.{TickRecord}
use Rattle.remy.specs.Network.{between}
use Rattle.remy.specs.State.{has_back, line_count, values_of, line_at, sender_at, meter_at, waiting_items, waiting_packets, on_line_items, on_line_packets, sender_bits, total_bits}
use Rattle.remy.specs.History.{Call, after, history, Fresh, PacketId, id_of, Entry, ids, times, admissions, starts, leaves, dropped_full, lost, dropped_back, lost_back, counted, old, ignored}

-- ---- counting in a list of packets

-- the sum of a weight over a list
abbrev pub total : (PacketId → ℕ) → List PacketId → ℕ
total f [] = 0
total f (x ∷ xs) = f x + total f xs

-- 1 for a packet of sender i, and 1 for the packet (i, m)
abbrev pub of_sender : ℕ → PacketId → ℕ
of_sender i x = cond (eqb x.sender i) 1 0

abbrev pub is_packet : ℕ → ℕ → PacketId → ℕ
is_packet i m x = cond (eqb x.sender i && eqb x.seq m) 1 0

-- ---- the account of a line, by its own values: delay, rate, limit, and the bits of each sender's packets

-- the time that a packet takes to start
abbrev pub pace : LineValues → (PacketId → ℕ) → PacketId → TimeSpan
pace v size x = amount_over_rate (amount_of (size x)) (rate_of v.rate)

-- neighbouring starts: the earlier, and the time that its packet takes, rounded each, are not above the later
abbrev pub Spaced : (PacketId → TimeSpan) → List Entry → Type 0
Spaced apart [] = Unit {0}
Spaced apart (x ∷ []) = Unit {0}
Spaced apart (x ∷ (y ∷ ys)) = T (le (span_after x.time (apart x.packet)).0.0 y.time.0.0) × Spaced apart (y ∷ ys)

-- with a limit set, waiting bits are at most it
abbrev pub Limited : Option ℕ → ℕ → Type 0
Limited None bits = Unit {0}
Limited (Some most) bits = bits ≤ most

pub record LineAccount (v : LineValues) (size : PacketId → ℕ) (admitted started left : List Entry)
    (waiting : List Waiting) (on_line : List Transit) (contains : ℕ) : Type 0 where
  -- in order, those admitted and not started wait, and those started and not left are on the line: none is passed over
  pub starts : ids admitted ≡ ids started ++ map (λ x. id_of x.packet) waiting
  pub leaves : ids started ≡ ids left ++ map (λ x. id_of x.packet) on_line
  -- each leaves at its start plus the delay, rounded once
  pub arrival : times left ≡ map (λ t. span_after t (span_of v.delay)) (take (length left) (times started))
  pub spacing : Spaced (pace v size) started
  -- waiting bits are the sum of what the waiting packets carry, and each carries the bits of its sender's packets
  pub bits : contains ≡ total_bits waiting
  pub carried : map (λ x. x.bits.0) waiting ≡ map (λ x. size (id_of x.packet)) waiting
  pub limit : Limited v.limit contains

-- ---- the account

-- what stands on a return line, where the network has one
abbrev pub if_back : RemyNetwork → List PacketId → List PacketId
if_back n ps = cond (has_back n.back) ps []

-- the packets that wait for line l, and those on it
abbrev pub waiting : Simulation → ℕ → List PacketId
waiting s l = map id_of (waiting_packets s l)

abbrev pub on_line : Simulation → ℕ → List PacketId
on_line s l = map id_of (on_line_packets s l)

-- every packet that was dropped full, waits, is on the line, was lost, was dropped full at a return line, waits for it, is on it, was lost on it, was counted, old or ignored
abbrev pub everywhere : RemyNetwork → List TickRecord → Simulation → List PacketId
everywhere n h s =
    dropped_full h
    ++ (waiting s 0
    ++ (on_line s 0
    ++ (lost h
    ++ (if_back n (dropped_back h)
    ++ (if_back n (waiting s 1)
    ++ (if_back n (on_line s 1)
    ++ (if_back n (lost_back h)
    ++ (counted h
    ++ (old h
    ++ ignored h)))))))))

-- n is the network that was built, h the history, s the last state
pub record Account (n : RemyNetwork) (h : List TickRecord) (s : Simulation) : Type 0 where
  pub network : s.network ≡ n
  -- Sent is the sender's held count, and equals its S and F marks.
  pub sent : (i : ℕ) → i < n.senders → (sender_at s i).packets_sent ≡ total (of_sender i) (ids (admissions 0 h)) + total (of_sender i) (dropped_full h)
  pub books : (i : ℕ) → i < n.senders
      → (sender_at s i).packets_sent
      ≡ total (of_sender i) (dropped_full h)
      + total (of_sender i) (waiting s 0)
      + total (of_sender i) (on_line s 0)
      + total (of_sender i) (lost h)
      + total (of_sender i) (if_back n (dropped_back h))
      + total (of_sender i) (if_back n (waiting s 1))
      + total (of_sender i) (if_back n (on_line s 1))
      + total (of_sender i) (if_back n (lost_back h))
      + total (of_sender i) (counted h)
      + total (of_sender i) (old h)
      + total (of_sender i) (ignored h)
  -- each packet 1..sent of each sender is in exactly one place, and nothing else is in any
  pub once : (i m : ℕ) → total (is_packet i m) (everywhere n h s) ≡ cond (ltb i n.senders && between 1 (sender_at s i).packets_sent m) 1 0
  -- counted also equals the number of its meter's records
  pub meter : (i : ℕ) → i < n.senders → (meter_at s i).records ≡ total (of_sender i) (counted h)
  -- each line, by its own values
  pub line : (l : ℕ) → l < line_count n
      → LineAccount (values_of n l) (λ x. (sender_bits n x.sender).0) (admissions l h) (starts n l h) (leaves n l h) (waiting_items s l) (on_line_items s l)
      (line_at s l).buffer_contains.0

-- Nobody who builds an accepted network and ticks it can mislay a packet or meet one twice.
abbrev pub Demand3 : Type 0
Demand3 = (n : RemyNetwork) (s : Simulation) → Fresh n s → (cs : List Call) → Account n (history cs s) (after cs s)
