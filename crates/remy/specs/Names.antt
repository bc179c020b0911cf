-- Document 01, "Tick and history": which packet a record names, and that counting named packets is counting marks. Definitions only; the proofs are in proofs/.
use Rattle.std.specs.Prelude.{ℕ, ◌+◌, ◌<◌, ◌≡◌, ◌⊎◌, Bool, true, false, ◌&&◌, ◌||◌, cond, length, eqb, Option, Some, None}
use mathlib.Core.List.{List, [], ◌∷◌, Memᴰ}
use Rattle.remy.specs.declared.network.RemyNetwork.{RemyNetwork}
use Rattle.remy.specs.declared.simulation.Simulation.{Simulation}
use Rattle.remy.specs.declared.simulation.Mark.{Mark}
use Rattle.remy.specs.declared.simulation.TickRecord.{TickRecord}
use Rattle.remy.specs.State.{line_count, link, sender_part, sender_at}
use Rattle.remy.specs.Queue.{part_of}
use Rattle.remy.specs.History.{Call, after, history, Fresh, ids, entries, is_s, is_f, is_l, is_p, is_q, is_n, comes_back, leaves_by}
use Rattle.remy.specs.Account.{total, of_sender}

-- ---- the packet that a record names

-- the marks of a packet that is sent, and of one that leaves
abbrev pub is_send : Mark → Bool
is_send m = is_s m || is_f m

abbrev pub is_leave : Mark → Bool
is_leave m = is_l m || (is_n m || (is_p m || (is_q m || comes_back m)))

-- a packet of a sender of the network
pub record NamesPacket (n : RemyNetwork) (name : Option (ℕ × ℕ)) : Type 0 where
  pub sender : ℕ
  pub seq : ℕ
  pub same : name ≡ Some (sender, seq)
  pub inside : sender < n.senders

-- a line of the network whose link is this part
pub record OnLine (n : RemyNetwork) (part : ℕ) : Type 0 where
  pub line : ℕ
  pub there : line < line_count n
  pub same : part ≡ part_of n.senders (link line)

-- n is the network that was built
pub record WellNamed (n : RemyNetwork) (r : TickRecord) : Type 0 where
  -- an S or F record names a packet of its part's own sender
  pub sent : is_send r.mark ≡ true → (p : NamesPacket n r.packet) × (r.part ≡ sender_part p.sender)
  -- an L, C, O, I, P, Q or N record is the part of the link whose line the packet leaves by it, and names the packet
  pub left : is_leave r.mark ≡ true → NamesPacket n r.packet × ((o : OnLine n r.part) × (leaves_by n o.line r.mark ≡ true))
  -- a record with another mark names none
  pub other : is_send r.mark ≡ false → is_leave r.mark ≡ false → r.packet ≡ None
  -- and a record that names a packet as started is a link's
  pub starts : (r.started ≡ None) ⊎ (NamesPacket n r.started × OnLine n r.part)

-- every record of every history
abbrev pub MarksName : Type 0
MarksName = (n : RemyNetwork) (s : Simulation) → Fresh n s → (cs : List Call) → (r : TickRecord) → Memᴰ r (history cs s) → WellNamed n r

-- ---- so counting named packets is counting marks

-- how many records pass a test
abbrev pub records_with : (TickRecord → Bool) → List TickRecord → ℕ
records_with f [] = 0
records_with f (r ∷ rs) = cond (f r) 1 0 + records_with f rs

-- such a mark, in the part of sender i
abbrev pub own_mark : (Mark → Bool) → ℕ → TickRecord → Bool
own_mark f i r = f r.mark && eqb r.part (sender_part i)

-- n is the network that was built, h the history, s the last state
pub record MarksCounted (n : RemyNetwork) (h : List TickRecord) (s : Simulation) : Type 0 where
  -- with any of the marks S, F, L, C, O, I, P, Q and N: as many records as packets
  pub marks : (f : Mark → Bool) → ((m : Mark) → f m ≡ true → (is_send m || is_leave m) ≡ true) → records_with (λ r. f r.mark) h ≡ length (entries f h)
  -- with S or F: as many records of a sender's part as packets of that sender
  pub own : (f : Mark → Bool) → ((m : Mark) → f m ≡ true → is_send m ≡ true) → (i : ℕ) → records_with (own_mark f i) h ≡ total (of_sender i) (ids (entries f h))
  -- Sent is the sender's held count, and equals its S and F marks.
  pub sent : (i : ℕ) → i < n.senders → (sender_at s i).packets_sent ≡ records_with (own_mark is_s i) h + records_with (own_mark is_f i) h

abbrev pub NamesCountMarks : Type 0
NamesCountMarks = (n : RemyNetwork) (s : Simulation) → Fresh n s → (cs : List Call) → MarksCounted n (history cs s) (after cs s)
