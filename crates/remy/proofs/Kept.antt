-- What a simulation keeps between the steps of a tick, and that each kind of store keeps it. It carries demand 3. Assumes nothing.
use mathlib.Core.Path.{◌≡◌, refl, sym, ap, subst, ◌∙◌}
use mathlib.Core.Bool.{Bool, true, false, ◌&&◌, cond}
use mathlib.Core.List.{List, [], ◌∷◌, ◌++◌, append-nil}
use Prim.Native.Nat.{ℕ, zero, suc, ◌+◌, ◌≤◌, ◌<◌}
use native.Mathlib.Nat.{add-zero}
use native.Mathlib.Decide.{ℕ_discrete}
use native.Mathlib.Omega.{arith}
use borrow.Author.Tests.{eq-eqb, ne_eqb, le-leb, lt-leb, lt-ltb, leb-true, leb-false}
use lib.Arith.{lt_of_le-ne}
use lib.Dec.{leb, ltb, eqb}
use lib.ListN.{length, get_or, set, length-set}
use lib.Seq.{get_or-set_same, get_or-set_other}
use Rattle.quantities.specs.declared.time.Time.{Time}
use Rattle.meters.specs.declared.meter.AverageFlowMeter.{AverageFlowMeter}
use Rattle.link.specs.declared.packet.Waiting.{Waiting}
use Rattle.link.specs.declared.packet.Transit.{Transit}
use Rattle.link.specs.declared.link.Line.{Line}
use Rattle.sender.specs.declared.lossy.LossySender.{LossySender}
use Rattle.toggler.specs.declared.toggler.Toggler.{Toggler}
use Rattle.toggler.specs.declared.tick_queue.Queued.{Queued}
use Rattle.remy.specs.declared.network.RemyNetwork.{RemyNetwork}
use Rattle.remy.specs.declared.simulation.Head.{Head}
use Rattle.remy.specs.declared.simulation.Simulation.{Simulation}
use Rattle.remy.specs.Network.{between}
use Rattle.remy.specs.State.{has_back, line_count, values_of, no_line, no_sender, no_meter, line_at, sender_at, meter_at, sender_bits, with_head, with_togglers, with_queue, with_line, with_waiting, with_on_line, with_sender, with_meter}
use Rattle.remy.specs.History.{PacketId, Entry, ids}
use Rattle.remy.specs.Account.{total, of_sender, is_packet}
use Rattle.remy.proofs.Lists.{map_append, total-append}
use Rattle.remy.proofs.Facts.{lines_few}
use Rattle.remy.proofs.Lines.{LineKept, line_lists}

-- ---- elements after a store: at one index, and at every index

-- a fact that may read the index
pub at_index : {A : Type 0} (P : ℕ → A → Type 0) (d : A) (l : List A) (j : ℕ) (x : A) (i : ℕ) → P i (get_or l i d) → P j x → P i (get_or (set l j x) i d)
at_index P d [] j x i there p = there
at_index P d (y ∷ l) zero x zero there p = p
at_index P d (y ∷ l) zero x (suc i) there p = there
at_index P d (y ∷ l) (suc j) x zero there p = there
at_index P d (y ∷ l) (suc j) x (suc i) there p = at_index (λ n. P (suc n)) d l j x i there p

module _ {A : Type 0} (P : A → Type 0) (d : A) where
  pub at_set : (l : List A) (j : ℕ) (x : A) (i : ℕ) → P (get_or l i d) → P x → P (get_or (set l j x) i d)
  at_set = at_index (λ n. P) d

  pub all_set : (l : List A) (j : ℕ) (x : A) → ((i : ℕ) → P (get_or l i d)) → P x → (i : ℕ) → P (get_or (set l j x) i d)
  all_set l j x all p i = at_set l j x i (all i) p

-- a store that leaves a reading of the element alone leaves it alone at every index
pub same_set : {A B : Type 0} (f : A → B) (d : A) (l : List A) (j : ℕ) (x : A) → f x ≡ f (get_or l j d) → (i : ℕ) → f (get_or (set l j x) i d) ≡ f (get_or l i d)
same_set f d [] j x e i = refl
same_set f d (y ∷ l) zero x e zero = e
same_set f d (y ∷ l) zero x e (suc i) = refl
same_set f d (y ∷ l) (suc j) x e zero = refl
same_set f d (y ∷ l) (suc j) x e (suc i) = same_set f d l j x e i

-- a fact that the old element need not have at the index itself
pub at_place : {A : Type 0} (P : ℕ → A → Type 0) (d : A) (l : List A) (j : ℕ) (x : A) (i : ℕ) → j < length l → ((i ≡ j → ⊥) → P i (get_or l i d)) → P j x → P i (get_or (set l j x) i d)
at_place P d l j x i inside there p = by (ℕ_discrete i j)
  where
    by : Dec (i ≡ j) → P i (get_or (set l j x) i d)
    by (yes same) = subst (λ (k : ℕ). P k (get_or (set l j x) k d)) (sym same) (subst (P j) (sym (get_or-set_same l j x d inside)) p)
    by (no other) = subst (P i) (sym (get_or-set_other l j i x d other)) (there other)

-- a number that is not c + 1 is at most c exactly if it is at most c + 1
one_above : (m c : ℕ) → (m ≡ c + 1 → ⊥) → leb m c ≡ leb m (c + 1)
one_above m c other = cases (leb m c) (leb-true m c) (leb-false m c)
  where
    cases : (b : Bool) → (b ≡ true → m ≤ c) → (b ≡ false → c < m) → b ≡ leb m (c + 1)
    cases true low high = sym (le-leb m (c + 1) (omega (arith, low refl)))
    cases false low high = sym (lt-leb m (c + 1) (lt_of_le-ne (omega (arith, high refl)) (λ (e : c + 1 ≡ m). other (sym e))))

-- ---- what is kept

-- whether (i, m) was sent, where sender i sent so many
abbrev pub was_sent : RemyNetwork → ℕ → ℕ → ℕ → ℕ
was_sent n i sent m = cond (ltb i n.senders && between 1 sent m) 1 0

-- the bits of a packet's sender
abbrev pub size_in : RemyNetwork → PacketId → ℕ
size_in n x = (sender_bits n x.sender).0

-- line l, by its own values
abbrev pub LineIn : RemyNetwork → ℕ → List Entry → List Entry → List Entry → Simulation → Type 0
LineIn n l admitted started left s = LineKept (values_of n l) (size_in n) l admitted started left s.waiting s.on_line (line_at s l)

-- n the network, and the admissions, starts and leaves of each line, the sends and the counted packets so far
pub record Kept (n : RemyNetwork) (admitted started left : ℕ → List Entry) (sent : List Entry) (counted : List PacketId) (s : Simulation) : Type 0 where
  pub network : s.network ≡ n
  pub lines_full : length s.lines ≡ 2
  pub senders-full : length s.senders ≡ 16
  pub meters-full : length s.meters ≡ 16
  pub line : (l : ℕ) → l < line_count n → LineIn n l (admitted l) (started l) (left l) s
  pub sends : (i : ℕ) → (sender_at s i).packets_sent ≡ total (of_sender i) (ids sent)
  pub once : (i m : ℕ) → total (is_packet i m) (ids sent) ≡ was_sent n i (sender_at s i).packets_sent m
  pub meter : (i : ℕ) → i < n.senders → (meter_at s i).records ≡ total (of_sender i) counted

-- a network has one line or two
pub few_lines : (n : RemyNetwork) (l : ℕ) → l < line_count n → l < 2
few_lines n l h = let few = lines_few (has_back n.back) in omega (arith, h, few)

-- the same lists, written otherwise
pub kept_lists : {n : RemyNetwork} {a a' b b' c c' : ℕ → List Entry} {d d' : List Entry} {e e' : List PacketId} {s : Simulation}
    → ((l : ℕ) → l < line_count n → a l ≡ a' l) → ((l : ℕ) → l < line_count n → b l ≡ b' l) → ((l : ℕ) → l < line_count n → c l ≡ c' l) → d ≡ d' → e ≡ e'
    → Kept n a b c d e s → Kept n a' b' c' d' e' s
kept_lists {n} {a} {a'} {b} {b'} {c} {c'} {d} {d'} {e} {e'} {s} p q r t u k =
    record {
      network = k.network;
      lines_full = k.lines_full;
      senders-full = k.senders-full;
      meters-full = k.meters-full;
      line = λ l h. line_lists (p l h) (q l h) (r l h) (k.line l h);
      sends = subst (λ (x : List Entry). (i : ℕ) → (sender_at s i).packets_sent ≡ total (of_sender i) (ids x)) t k.sends;
      once = subst (λ (x : List Entry). (i m : ℕ) → total (is_packet i m) (ids x) ≡ was_sent n i (sender_at s i).packets_sent m) t k.once;
      meter = subst (λ (x : List PacketId). (i : ℕ) → i < n.senders → (meter_at s i).records ≡ total (of_sender i) x) u k.meter;
    }

-- lists of which that of line l is longer
abbrev pub grown : (ℕ → List Entry) → ℕ → List Entry → ℕ → List Entry
grown f l es m = f m ++ cond (eqb m l) es []

pub grown-own : (f : ℕ → List Entry) (l : ℕ) (es : List Entry) → f l ++ es ≡ grown f l es l
grown-own f l es = rw (eq-eqb l l refl)

pub grown-none : (f : ℕ → List Entry) (l m : ℕ) → grown f l [] m ≡ f m
grown-none f l m = by (eqb m l)
  where
    by : (b : Bool) → f m ++ cond b [] [] ≡ f m
    by true = append-nil (f m)
    by false = append-nil (f m)

pub grown-other : (f : ℕ → List Entry) (l : ℕ) (es : List Entry) (m : ℕ) → (m ≡ l → ⊥) → f m ≡ grown f l es m
grown-other f l es m other = rw (ne_eqb m l other) (sym (append-nil (f m)))

module _ {n : RemyNetwork} {admitted started left : ℕ → List Entry} {sent : List Entry} {counted : List PacketId} {s : Simulation}
    (k : Kept n admitted started left sent counted s) where
  -- a sender that has sent as many as before
  pub keep_sender : (i : ℕ) (x : LossySender) → x.packets_sent ≡ (sender_at s i).packets_sent → Kept n admitted started left sent counted (with_sender s i x)
  keep_sender i x e =
      let same : (j : ℕ) → (sender_at (with_sender s i x) j).packets_sent ≡ (sender_at s j).packets_sent = same_set (λ y. y.packets_sent) no_sender s.senders i x e in
      record {
        network = k.network;
        lines_full = k.lines_full;
        senders-full = length-set s.senders i x ∙ k.senders-full;
        meters-full = k.meters-full;
        line = k.line;
        sends = λ j. same j ∙ k.sends j;
        once = λ j m. k.once j m ∙ ap (λ c. was_sent n j c m) (sym (same j));
        meter = k.meter;
      }

  -- line l anew, with its packets; what is stored for it leaves the other lines as they were
  pub keep_line : (l : ℕ) → l < line_count n → (a b c : List Entry) (waiting : List Waiting) (moving : List Transit) (x : Line)
      → ((m : ℕ) → (m ≡ l → ⊥) → (i j k : List Entry) (y : Line) → LineKept (values_of n m) (size_in n) m i j k s.waiting s.on_line y → LineKept (values_of n m) (size_in n) m i j k waiting moving y)
      → LineKept (values_of n l) (size_in n) l (admitted l ++ a) (started l ++ b) (left l ++ c) waiting moving x
      → Kept n (grown admitted l a) (grown started l b) (grown left l c) sent counted (with_line (with_on_line (with_waiting s waiting) moving) l x)
  keep_line l h a b c waiting moving x beside own =
      let P : ℕ → Line → Type 0 = λ m y. m < line_count n → LineKept (values_of n m) (size_in n) m (grown admitted l a m) (grown started l b m) (grown left l c m) waiting moving y in
      let here : LineKept (values_of n l) (size_in n) l (grown admitted l a l) (grown started l b l) (grown left l c l) waiting moving x =
      line_lists (grown-own admitted l a) (grown-own started l b) (grown-own left l c) own in
      record {
        network = k.network;
        lines_full = length-set s.lines l x ∙ k.lines_full;
        senders-full = k.senders-full;
        meters-full = k.meters-full;
        line = λ m g.
            at_place P no_line s.lines l x m (let full = k.lines_full in let few = few_lines n l h in omega (arith, full, few))
            (λ other there. beside m other (grown admitted l a m) (grown started l b m) (grown left l c m) (line_at s m)
            (line_lists (grown-other admitted l a m other) (grown-other started l b m other) (grown-other left l c m other) (k.line m there)))
            (λ there. here) g;
        sends = k.sends;
        once = k.once;
        meter = k.meter;
      }

  -- another head, other togglers and another queue: it reads none of them
  pub keep_unread : (head : Head) (togglers : List Toggler) (queue : List Queued)
      → Kept n admitted started left sent counted (with_head (with_queue (with_togglers s togglers) queue) head)
  keep_unread head togglers queue =
      record {
        network = k.network;
        lines_full = k.lines_full;
        senders-full = k.senders-full;
        meters-full = k.meters-full;
        line = k.line;
        sends = k.sends;
        once = k.once;
        meter = k.meter;
      }

  -- a meter that has as many records as before
  pub keep_meter : (i : ℕ) (x : AverageFlowMeter) → x.records ≡ (meter_at s i).records → Kept n admitted started left sent counted (with_meter s i x)
  keep_meter i x e =
      record {
        network = k.network;
        lines_full = k.lines_full;
        senders-full = k.senders-full;
        meters-full = length-set s.meters i x ∙ k.meters-full;
        line = k.line;
        sends = k.sends;
        once = k.once;
        meter = λ j h. same_set (λ y. y.records) no_meter s.meters i x e j ∙ k.meter j h;
      }

  -- a meter with one record more, of a packet of its sender
  pub count-meter : (i : ℕ) (x : AverageFlowMeter) (p : PacketId) → i < n.senders → n.senders ≤ 16 → p.sender ≡ i → x.records ≡ (meter_at s i).records + 1
      → Kept n admitted started left sent (counted ++ (p ∷ [])) (with_meter s i x)
  count-meter i x p h few own e =
      record {
        network = k.network;
        lines_full = k.lines_full;
        senders-full = k.senders-full;
        meters-full = length-set s.meters i x ∙ k.meters-full;
        line = k.line;
        sends = k.sends;
        once = k.once;
        meter = λ j g. counts j g (ℕ_discrete j i);
      }
    where
      inside : i < length s.meters
      inside = let full = k.meters-full in omega (arith, full)

      more : (j : ℕ) → total (of_sender j) (counted ++ (p ∷ [])) ≡ total (of_sender j) counted + of_sender j p
      more j = total-append (of_sender j) counted (p ∷ []) ∙ ap (λ c. total (of_sender j) counted + c) (add-zero (of_sender j p))

      counts : (j : ℕ) → j < n.senders → Dec (j ≡ i) → (get_or (set s.meters i x) j no_meter).records ≡ total (of_sender j) (counted ++ (p ∷ []))
      counts j g (yes same) =
          let one : of_sender j p ≡ 1 = rw (eq-eqb p.sender j (own ∙ sym same)) in
          subst (λ (z : ℕ). (get_or (set s.meters i x) z no_meter).records ≡ (meter_at s z).records + 1) (sym same) (ap (λ y. y.records) (get_or-set_same s.meters i x no_meter inside) ∙ e)
          ∙ ap (λ c. c + 1) (k.meter j g)
          ∙ sym (more j ∙ ap (λ c. total (of_sender j) counted + c) one)
      counts j g (no other) =
          let none : of_sender j p ≡ 0 = rw (ne_eqb p.sender j (λ (q : p.sender ≡ j). other (sym q ∙ own))) in
          ap (λ y. y.records) (get_or-set_other s.meters i j x no_meter other)
          ∙ k.meter j g
          ∙ sym (more j ∙ ap (λ c. total (of_sender j) counted + c) none ∙ add-zero (total (of_sender j) counted))

  -- a sender that has sent one more, the packet that follows its last
  pub count-sent : (i : ℕ) (x : LossySender) (t : Time) → i < n.senders → n.senders ≤ 16 → x.packets_sent ≡ (sender_at s i).packets_sent + 1
      → Kept n admitted started left (sent ++ (record { time = t; packet = record { sender = i; seq = (sender_at s i).packets_sent + 1 } } ∷ [])) counted (with_sender s i x)
  count-sent i x t h few e =
      record {
        network = k.network;
        lines_full = k.lines_full;
        senders-full = length-set s.senders i x ∙ k.senders-full;
        meters-full = k.meters-full;
        line = k.line;
        sends = λ j. counts j (ℕ_discrete j i);
        once = λ j m. ones j m (ℕ_discrete j i);
        meter = k.meter;
      }
    where
      next : PacketId
      next = record { sender = i; seq = (sender_at s i).packets_sent + 1 }

      entry : Entry
      entry = record { time = t; packet = next }

      inside : i < length s.senders
      inside = let full = k.senders-full in omega (arith, full)

      -- what a weight sums to with the new packet
      more : (f : PacketId → ℕ) → total f (ids (sent ++ (entry ∷ []))) ≡ total f (ids sent) + f next
      more f = ap (total f) (map_append (λ y. y.packet) sent (entry ∷ [])) ∙ total-append f (ids sent) (next ∷ []) ∙ ap (λ c. total f (ids sent) + c) (add-zero (f next))

      stored : (get_or (set s.senders i x) i no_sender).packets_sent ≡ (sender_at s i).packets_sent + 1
      stored = ap (λ y. y.packets_sent) (get_or-set_same s.senders i x no_sender inside) ∙ e

      elsewhere : (j : ℕ) → (j ≡ i → ⊥) → (get_or (set s.senders i x) j no_sender).packets_sent ≡ (sender_at s j).packets_sent
      elsewhere j other = ap (λ y. y.packets_sent) (get_or-set_other s.senders i j x no_sender other)

      counts : (j : ℕ) → Dec (j ≡ i) → (get_or (set s.senders i x) j no_sender).packets_sent ≡ total (of_sender j) (ids (sent ++ (entry ∷ [])))
      counts j (yes same) =
          let one : of_sender j next ≡ 1 = rw (eq-eqb i j (sym same)) in
          subst (λ (z : ℕ). (get_or (set s.senders i x) z no_sender).packets_sent ≡ (sender_at s z).packets_sent + 1) (sym same) stored
          ∙ ap (λ c. c + 1) (k.sends j)
          ∙ sym (more (of_sender j) ∙ ap (λ c. total (of_sender j) (ids sent) + c) one)
      counts j (no other) =
          let none : of_sender j next ≡ 0 = rw (ne_eqb i j (λ (q : i ≡ j). other (sym q))) in
          elsewhere j other ∙ k.sends j ∙ sym (more (of_sender j) ∙ ap (λ c. total (of_sender j) (ids sent) + c) none ∙ add-zero (total (of_sender j) (ids sent)))

      -- the packet after the last was not there, and the others are there as before
      grown : (m c : ℕ) → Dec (m ≡ c + 1) → was_sent n i c m + cond (eqb (c + 1) m) 1 0 ≡ was_sent n i (c + 1) m
      grown m c (yes same) =
          let before : leb m c ≡ false = lt-leb m c (omega (arith, same)) in
          let there : leb m (c + 1) ≡ true = le-leb m (c + 1) (omega (arith, same)) in
          let first : leb 1 m ≡ true = le-leb 1 m (omega (arith, same)) in
          rw (lt-ltb i n.senders h, before, there, first, eq-eqb (c + 1) m (sym same))
      grown m c (no other) = rw (ne_eqb (c + 1) m (λ (q : c + 1 ≡ m). other (sym q)), add-zero (was_sent n i c m), below (one_above m c other))
        where
          below : leb m c ≡ leb m (c + 1) → was_sent n i c m ≡ was_sent n i (c + 1) m
          below q = rw q

      ones : (j m : ℕ) → Dec (j ≡ i) → total (is_packet j m) (ids (sent ++ (entry ∷ []))) ≡ was_sent n j (get_or (set s.senders i x) j no_sender).packets_sent m
      ones j m (yes same) =
          let own : (z : ℕ) → is_packet i z next ≡ cond (eqb ((sender_at s i).packets_sent + 1) z) 1 0 = λ z. rw (eq-eqb i i refl) in
          subst (λ (z : ℕ). total (is_packet z m) (ids (sent ++ (entry ∷ []))) ≡ was_sent n z (get_or (set s.senders i x) z no_sender).packets_sent m) (sym same)
          (more (is_packet i m)
          ∙ ap (λ c. c + is_packet i m next) (k.once i m)
          ∙ ap (λ c. was_sent n i (sender_at s i).packets_sent m + c) (own m)
          ∙ grown m (sender_at s i).packets_sent (ℕ_discrete m ((sender_at s i).packets_sent + 1))
          ∙ ap (λ c. was_sent n i c m) (sym stored))
      ones j m (no other) =
          let none : is_packet j m next ≡ 0 = rw (ne_eqb i j (λ (q : i ≡ j). other (sym q))) in
          more (is_packet j m) ∙ ap (λ c. total (is_packet j m) (ids sent) + c) none ∙ add-zero (total (is_packet j m) (ids sent)) ∙ k.once j m
          ∙ ap (λ c. was_sent n j c m) (sym (elsewhere j other))
