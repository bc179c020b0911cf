-- Document 01, "Tick and history": the calls, the history, and the lists that the account reads in it. Definitions only.
use Rattle.std.specs.Prelude.{ℕ, zero, suc, ◌≡◌, Bool, true, false, ◌||◌, cond, List, [], ◌∷◌, map, eqb, Option, Some, None}
use Rattle.quantities.specs.declared.time.Time.{Time}
use Rattle.link.specs.declared.packet.Packet.{Packet}
use Rattle.remy.specs.declared.network.RemyNetwork.{RemyNetwork}
use Rattle.remy.specs.declared.simulation.Simulation.{Simulation}
use Rattle.remy.specs.declared.simulation.Mark.{Mark}
use Rattle.remy.specs.declared.simulation.TickRecord.{TickRecord}
use Rattle.remy.specs.declared.simulation.Ticked.{Ticked}
use Rattle.remy.specs.Build.{build_of}
use Rattle.remy.specs.State.{has_back, link}
use Rattle.remy.specs.Queue.{part_of}
use Rattle.remy.specs.Tick.{tick_of}

-- ---- calls

-- what can be asked of a simulation
pub data Call : Type 0 where
  tick : Call

abbrev pub called : Call → Simulation → Ticked
called tick s = tick_of s

-- so many ticks
abbrev pub ticks : ℕ → List Call
ticks zero = []
ticks (suc n) = tick ∷ ticks n

-- the state after the calls, each given the state that the one before it returned, refused and idle ones included
abbrev pub after : List Call → Simulation → Simulation
after [] s = s
after (c ∷ cs) s = after cs (called c s).simulation

-- The history is the records of ticks that moved since the build.
abbrev pub noted : Ticked → List TickRecord → List TickRecord
noted t h = cond t.moved (t.note ∷ h) h

abbrev pub history : List Call → Simulation → List TickRecord
history [] s = []
history (c ∷ cs) s = noted (called c s) (history cs (called c s).simulation)

-- Fresh is the state that an unrefused build returned.
abbrev pub Fresh : RemyNetwork → Simulation → Type 0
Fresh n s = (seed : ℕ) × (build_of n seed ≡ record { number = 0; simulation = s })

-- ---- packets in a history

-- a packet by its sender and number
pub record PacketId : Type 0 where
  pub sender : ℕ
  pub seq : ℕ

abbrev pub id_of : Packet → PacketId
id_of p = record { sender = p.sender; seq = p.seq }

-- a time, a sender and a number
pub record Entry : Type 0 where
  pub time : Time
  pub packet : PacketId

abbrev pub ids : List Entry → List PacketId
ids es = map (λ e. e.packet) es

abbrev pub times : List Entry → List Time
times es = map (λ e. e.time) es

-- the entry of a packet that a record names, if it does
abbrev pub entry_if : Bool → Time → Option (ℕ × ℕ) → List Entry → List Entry
entry_if false t name es = es
entry_if true t None es = es
entry_if true t (Some (i, m)) es = record { time = t; packet = record { sender = i; seq = m } } ∷ es

-- the packets that the records with certain marks are about, each at its record's time
abbrev pub entries : (Mark → Bool) → List TickRecord → List Entry
entries f [] = []
entries f (r ∷ rs) = entry_if (f r.mark) r.time r.packet (entries f rs)

-- ---- marks: the letters of documents 01 and 02

-- E on, D off, T timer, S sent and admitted, F sent and dropped full, L lost, C counted, O old, I ignored, - none; with a return line P admitted to it, Q dropped full there,
-- N lost on it; each by its ASCII code
abbrev pub letter_of : Mark → ℕ
letter_of Mark.None = 45
letter_of Mark.Enabled = 69
letter_of Mark.Disabled = 68
letter_of Mark.Timer = 84
letter_of Mark.Sent = 83
letter_of Mark.Full = 70
letter_of Mark.Lost = 76
letter_of Mark.Counted = 67
letter_of Mark.Old = 79
letter_of Mark.Ignored = 73
letter_of Mark.Passed = 80
letter_of Mark.FullBack = 81
letter_of Mark.LostBack = 78

abbrev pub is_s : Mark → Bool
is_s m = eqb (letter_of m) 83

abbrev pub is_f : Mark → Bool
is_f m = eqb (letter_of m) 70

abbrev pub is_l : Mark → Bool
is_l m = eqb (letter_of m) 76

abbrev pub is_c : Mark → Bool
is_c m = eqb (letter_of m) 67

abbrev pub is_o : Mark → Bool
is_o m = eqb (letter_of m) 79

abbrev pub is_i : Mark → Bool
is_i m = eqb (letter_of m) 73

abbrev pub is_p : Mark → Bool
is_p m = eqb (letter_of m) 80

abbrev pub is_q : Mark → Bool
is_q m = eqb (letter_of m) 81

abbrev pub is_n : Mark → Bool
is_n m = eqb (letter_of m) 78

-- ---- what the account reads in a history

-- packets sent: in an S or F record
abbrev pub sends : List TickRecord → List Entry
sends h = entries (λ m. is_s m || is_f m) h

-- A packet is admitted in its S record, and to a return line in its P record,
abbrev pub admitted_by : ℕ → Mark → Bool
admitted_by zero = is_s
admitted_by (suc l) = is_p

abbrev pub admissions : ℕ → List TickRecord → List Entry
admissions l h = entries (admitted_by l) h

-- starts in the record naming it as started, on the line whose part its record names,
abbrev pub starts_in : ℕ → List TickRecord → List Entry
starts_in part [] = []
starts_in part (r ∷ rs) = entry_if (eqb r.part part) r.time r.started (starts_in part rs)

abbrev pub starts : RemyNetwork → ℕ → List TickRecord → List Entry
starts n l h = starts_in (part_of n.senders (link l)) h

-- and leaves in its L, C, O or I record, each at that record's time. With a return line it leaves the first by L, P or Q, and the second by N, C, O or I.
abbrev pub comes_back : Mark → Bool
comes_back m = is_c m || (is_o m || is_i m)

abbrev pub leaves_by : RemyNetwork → ℕ → Mark → Bool
leaves_by n zero m = is_l m || cond (has_back n.back) (is_p m || is_q m) (comes_back m)
leaves_by n (suc l) m = is_n m || comes_back m

abbrev pub leaves : RemyNetwork → ℕ → List TickRecord → List Entry
leaves n l h = entries (leaves_by n l) h

-- dropped full, lost, counted, old and ignored: the F, L, C, O and I marks; dropped full and lost on a return line: the Q and N marks
abbrev pub dropped_full : List TickRecord → List PacketId
dropped_full h = ids (entries is_f h)

abbrev pub lost : List TickRecord → List PacketId
lost h = ids (entries is_l h)

abbrev pub dropped_back : List TickRecord → List PacketId
dropped_back h = ids (entries is_q h)

abbrev pub lost_back : List TickRecord → List PacketId
lost_back h = ids (entries is_n h)

abbrev pub counted : List TickRecord → List PacketId
counted h = ids (entries is_c h)

abbrev pub old : List TickRecord → List PacketId
old h = ids (entries is_o h)

abbrev pub ignored : List TickRecord → List PacketId
ignored h = ids (entries is_i h)
