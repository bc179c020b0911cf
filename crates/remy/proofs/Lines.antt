-- What a line keeps as packets arrive, start and leave: stated over its own values, so that it holds for any line. Assumes nothing.
use Rattle.std.proofs.Common.{Option, Some, None}
use mathlib.Core.Path.{◌≡◌, refl, sym, ap, subst, ◌∙◌}
use mathlib.Core.Bool.{true}
use mathlib.Core.List.{List, [], ◌∷◌, ◌++◌, map, append_assoc, cons-eq-cons}
use Prim.Native.Nat.{ℕ, ◌+◌, ◌-◌, ◌<◌}
use native.Mathlib.Nat.{add-zero}
use native.Mathlib.Omega.{arith}
use borrow.Author.Tests.{leb-true}
use lib.ListN.{length, get_or, set, take}
use lib.Seq.{take_at}
use lib.Dec.{T}
use lib.Ieee.{le}
use Rattle.quantities.specs.declared.time.Time.{Time}
use Rattle.quantities.specs.declared.time_span.TimeSpan.{TimeSpan}
use Rattle.quantities.specs.Units.{span_of, rate_of, amount_of, amount_over_rate, span_after}
use Rattle.link.specs.declared.packet.Packet.{Packet}
use Rattle.link.specs.declared.packet.Waiting.{Waiting}
use Rattle.link.specs.declared.packet.Transit.{Transit}
use Rattle.link.specs.declared.link.LineValues.{LineValues}
use Rattle.link.specs.declared.link.Line.{Line}
use Rattle.link.specs.Ring.{places, slot_of, place_after, popped, items}
use Rattle.link.specs.Link.{admits, admitted, departed, started_line}
use Rattle.link.proofs.Items.{Sound, items_push, items_pop, items-other, push_sound, pop_sound, store_sound}
use Rattle.remy.specs.State.{no_waiting, no_transit, total_bits}
use Rattle.remy.specs.History.{PacketId, id_of, Entry, ids, times}
use Rattle.remy.specs.Account.{pace, Spaced, Limited, LineAccount}
use Rattle.remy.proofs.Lists.{map_append, map_length, map_take, bits_append}

-- the entry of a packet at a time
abbrev pub entry_at : Time → Packet → Entry
entry_at t p = record { time = t; packet = id_of p }

-- ---- starts that keep their distance

-- the earliest next start after the last of some starts; any before the first
abbrev pub FreeAfter : (PacketId → TimeSpan) → List Entry → Time → Type 0
FreeAfter apart [] free = Unit {0}
FreeAfter apart (x ∷ []) free = free ≡ span_after x.time (apart x.packet)
FreeAfter apart (x ∷ (y ∷ ys)) free = FreeAfter apart (y ∷ ys) free

module _ (apart : PacketId → TimeSpan) (x : Entry) where
  pub spaced_more : (sts : List Entry) (free : Time) → Spaced apart sts → FreeAfter apart sts free → T (le free.0.0 x.time.0.0) → Spaced apart (sts ++ (x ∷ []))
  spaced_more [] free s f h = tt
  spaced_more (y ∷ []) free s f h = (subst (λ (t : Time). T (le t.0.0 x.time.0.0)) f h, tt)
  spaced_more (y ∷ (z ∷ zs)) free s f h = (s.0, spaced_more (z ∷ zs) free s.1 f h)

  pub free_more : (sts : List Entry) → FreeAfter apart (sts ++ (x ∷ [])) (span_after x.time (apart x.packet))
  free_more [] = refl
  free_more (y ∷ []) = refl
  free_more (y ∷ (z ∷ zs)) = free_more (z ∷ zs)

-- ---- the books of a line

-- the admissions, starts and leaves so far, beside the packets that wait and those on the line, the earliest start and the waiting bits
pub record Books (v : LineValues) (size : PacketId → ℕ) (admitted started left : List Entry) (waiting : List Waiting) (on_line : List Transit) (free : Time) (contains : ℕ) : Type 0 where
  pub starts : ids admitted ≡ ids started ++ map (λ x. id_of x.packet) waiting
  pub leaves : ids started ≡ ids left ++ map (λ x. id_of x.packet) on_line
  pub dues : map (λ t. span_after t (span_of v.delay)) (times started) ≡ times left ++ map (λ x. x.due) on_line
  pub spacing : Spaced (pace v size) started
  pub after : FreeAfter (pace v size) started free
  pub bits : contains ≡ total_bits waiting
  pub carried : map (λ x. x.bits.0) waiting ≡ map (λ x. size (id_of x.packet)) waiting
  pub limit : Limited v.limit contains

module _ {v : LineValues} {size : PacketId → ℕ} {adm sts lvs : List Entry} {on_line : List Transit} {free : Time} {contains : ℕ} where
  -- they are an account
  books_account : {waiting : List Waiting} → Books v size adm sts lvs waiting on_line free contains → LineAccount v size adm sts lvs waiting on_line contains
  books_account k =
      record {
        starts = k.starts;
        leaves = k.leaves;
        arrival =
            sym
            (map_take (λ t. span_after t (span_of v.delay)) (length lvs) (times sts)
            ∙ ap (take (length lvs)) k.dues
            ∙ take_at (times lvs) (map (λ x. x.due) on_line) (length lvs) (map_length (λ e. e.time) lvs));
        spacing = k.spacing;
        bits = k.bits;
        carried = k.carried;
        limit = k.limit;
      }

  -- the first packet that waits carries its own bits, and so do the others
  carry : (first : Waiting) (rest : List Waiting) → Books v size adm sts lvs (first ∷ rest) on_line free contains
      → (first.bits.0 ≡ size (id_of first.packet)) × (map (λ x. x.bits.0) rest ≡ map (λ x. size (id_of x.packet)) rest)
  carry first rest k = cons-eq-cons.0 k.carried

-- the first packet on the line leaves, at its due time
leave : {v : LineValues} {size : PacketId → ℕ} {adm sts lvs : List Entry} {waiting : List Waiting} {free : Time} {contains : ℕ} (front : Transit) (rest : List Transit) (clock : Time)
    → front.due ≡ clock → Books v size adm sts lvs waiting (front ∷ rest) free contains
    → Books v size adm sts (lvs ++ (entry_at clock front.packet ∷ [])) waiting rest free contains
leave {v} {size} {adm} {sts} {lvs} {waiting} {free} {contains} front rest clock e k =
    let x = entry_at clock front.packet in
    record {
      starts = k.starts;
      leaves =
          k.leaves
          ∙ sym (ap (λ l. l ++ map (λ y. id_of y.packet) rest) (map_append (λ y. y.packet) lvs (x ∷ []))
          ∙ append_assoc (ids lvs) (x.packet ∷ []) (map (λ y. id_of y.packet) rest));
      dues =
          k.dues
          ∙ ap (λ t. times lvs ++ (t ∷ map (λ y. y.due) rest)) e
          ∙ sym (ap (λ l. l ++ map (λ y. y.due) rest) (map_append (λ y. y.time) lvs (x ∷ []))
          ∙ append_assoc (times lvs) (clock ∷ []) (map (λ y. y.due) rest));
      spacing = k.spacing;
      after = k.after;
      bits = k.bits;
      carried = k.carried;
      limit = k.limit;
    }

-- The first packet that waits starts; the line is free again at a time that the packet's own bits give.
start : {v : LineValues} {size : PacketId → ℕ} {adm sts lvs : List Entry} {on_line : List Transit} {free : Time} {contains : ℕ} (first : Waiting) (rest : List Waiting) (clock : Time)
    → T (le free.0.0 clock.0.0) → Books v size adm sts lvs (first ∷ rest) on_line free contains
    → Books v size adm (sts ++ (entry_at clock first.packet ∷ [])) lvs rest (on_line ++ (record { packet = first.packet; due = span_after clock (span_of v.delay) } ∷ []))
    (span_after clock (amount_over_rate first.bits (rate_of v.rate))) (contains - first.bits.0)
start {v} {size} {adm} {sts} {lvs} {on_line} {free} {contains} first rest clock open-line k =
    let x = entry_at clock first.packet in
    let delay = span_of v.delay in
    let on : Transit = record { packet = first.packet; due = span_after clock delay } in
    let own = carry first rest k in
    record {
      starts =
          k.starts
          ∙ sym (ap (λ l. l ++ map (λ y. id_of y.packet) rest) (map_append (λ y. y.packet) sts (x ∷ []))
          ∙ append_assoc (ids sts) (x.packet ∷ []) (map (λ y. id_of y.packet) rest));
      leaves =
          map_append (λ y. y.packet) sts (x ∷ [])
          ∙ ap (λ l. l ++ (x.packet ∷ [])) k.leaves
          ∙ append_assoc (ids lvs) (map (λ y. id_of y.packet) on_line) (x.packet ∷ [])
          ∙ ap (λ l. ids lvs ++ l) (sym (map_append (λ y. id_of y.packet) on_line (on ∷ [])));
      dues =
          ap (map (λ t. span_after t delay)) (map_append (λ y. y.time) sts (x ∷ []))
          ∙ map_append (λ t. span_after t delay) (times sts) (clock ∷ [])
          ∙ ap (λ l. l ++ (span_after clock delay ∷ [])) k.dues
          ∙ append_assoc (times lvs) (map (λ y. y.due) on_line) (span_after clock delay ∷ [])
          ∙ ap (λ l. times lvs ++ l) (sym (map_append (λ y. y.due) on_line (on ∷ [])));
      spacing = spaced_more (pace v size) x sts free k.spacing k.after open-line;
      after =
          subst (λ (b : ℕ). FreeAfter (pace v size) (sts ++ (x ∷ [])) (span_after clock (amount_over_rate (amount_of b) (rate_of v.rate)))) (sym own.0)
          (free_more (pace v size) x sts);
      bits = fewer contains first.bits.0 (total_bits rest) k.bits;
      carried = own.1;
      limit = limited-less v.limit contains first.bits.0 k.limit;
    }
  where
    fewer : (a b c : ℕ) → a ≡ b + c → a - b ≡ c
    fewer a b c e = omega arith

    limited-less : (l : Option ℕ) (a b : ℕ) → Limited l a → Limited l (a - b)
    limited-less None a b m = tt
    limited-less (Some n) a b m = omega arith

-- a packet arrives, and is admitted
arrive : {v : LineValues} {size : PacketId → ℕ} {adm sts lvs : List Entry} {waiting : List Waiting} {on_line : List Transit} {free : Time} {contains : ℕ} (p : Packet) (clock : Time)
    → admits v.limit (amount_of contains) (amount_of (size (id_of p))) ≡ true → Books v size adm sts lvs waiting on_line free contains
    → Books v size (adm ++ (entry_at clock p ∷ [])) sts lvs (waiting ++ (record { packet = p; bits = amount_of (size (id_of p)) } ∷ [])) on_line free (contains + size (id_of p))
unfolding admits
arrive {v} {size} {adm} {sts} {lvs} {waiting} {on_line} {free} {contains} p clock fits k =
    let x = entry_at clock p in
    let new : Waiting = record { packet = p; bits = amount_of (size (id_of p)) } in
    record {
      starts =
          map_append (λ y. y.packet) adm (x ∷ [])
          ∙ ap (λ l. l ++ (id_of p ∷ [])) k.starts
          ∙ append_assoc (ids sts) (map (λ y. id_of y.packet) waiting) (id_of p ∷ [])
          ∙ ap (λ l. ids sts ++ l) (sym (map_append (λ y. id_of y.packet) waiting (new ∷ [])));
      leaves = k.leaves;
      dues = k.dues;
      spacing = k.spacing;
      after = k.after;
      bits = ap (λ n. n + new.bits.0) k.bits ∙ sym (bits_append waiting (new ∷ []) ∙ ap (λ n. total_bits waiting + n) (add-zero new.bits.0));
      carried =
          map_append (λ y. y.bits.0) waiting (new ∷ [])
          ∙ ap (λ l. l ++ (new.bits.0 ∷ [])) k.carried
          ∙ sym (map_append (λ y. size (id_of y.packet)) waiting (new ∷ []));
      limit = limited-more v.limit fits;
    }
  where
    limited-more : (l : Option ℕ) → admits l (amount_of contains) (amount_of (size (id_of p))) ≡ true → Limited l (contains + size (id_of p))
    limited-more None e = tt
    limited-more (Some n) e = leb-true (contains + size (id_of p)) n e

-- ---- what line l keeps, with its rings in the arrays of all lines

pub record LineKept (v : LineValues) (size : PacketId → ℕ) (l : ℕ) (admitted started left : List Entry) (waiting : List Waiting) (on_line : List Transit) (x : Line) : Type 0 where
  pub queue : Sound waiting l x.waiting
  pub transit : Sound on_line l x.on_line
  pub books : Books v size admitted started left (items no_waiting waiting l x.waiting) (items no_transit on_line l x.on_line) x.earliest_transmit x.buffer_contains.0

-- the same lists, written otherwise
pub line_lists : {v : LineValues} {size : PacketId → ℕ} {l : ℕ} {a a' b b' c c' : List Entry} {waiting : List Waiting} {on_line : List Transit} {x : Line}
    → a ≡ a' → b ≡ b' → c ≡ c' → LineKept v size l a b c waiting on_line x → LineKept v size l a' b' c' waiting on_line x
line_lists {v} {size} {l} {a} {a'} {b} {b'} {c} {c'} {waiting} {on_line} {x} p q r k =
    subst (λ (e : List Entry). LineKept v size l e b' c' waiting on_line x) p
    (subst (λ (e : List Entry). LineKept v size l a e c' waiting on_line x) q (subst (λ (e : List Entry). LineKept v size l a b e waiting on_line x) r k))

module _ {v : LineValues} {size : PacketId → ℕ} {l : ℕ} {adm sts lvs : List Entry} {waiting : List Waiting} {on_line : List Transit} {x : Line} (k : LineKept v size l adm sts lvs waiting on_line x) where
  pub line_account : LineAccount v size adm sts lvs (items no_waiting waiting l x.waiting) (items no_transit on_line l x.on_line) x.buffer_contains.0
  line_account = books_account k.books

  -- the first packet on the line leaves, at its due time
  pub line_leave : 0 < x.on_line.count → (clock : Time) → (get_or on_line (slot_of l x.on_line.start) no_transit).due ≡ clock
      → LineKept v size l adm sts (lvs ++ (entry_at clock (get_or on_line (slot_of l x.on_line.start) no_transit).packet ∷ [])) waiting on_line (departed x)
  line_leave some clock e =
      let front = get_or on_line (slot_of l x.on_line.start) no_transit in
      let rest = items no_transit on_line l (popped x.on_line) in
      record {
        queue = k.queue;
        transit = pop_sound k.transit some;
        books =
            leave front rest clock e
            (subst (λ (ts : List Transit). Books v size adm sts lvs (items no_waiting waiting l x.waiting) ts x.earliest_transmit x.buffer_contains.0)
            (items_pop k.transit no_transit some) k.books);
      }

  -- the first packet that waits starts
  pub line-start : 0 < x.waiting.count → x.on_line.count < places → (clock : Time) → T (le x.earliest_transmit.0.0 clock.0.0)
      → LineKept v size l adm (sts ++ (entry_at clock (get_or waiting (slot_of l x.waiting.start) no_waiting).packet ∷ [])) lvs waiting
      (set on_line (slot_of l (place_after x.on_line))
      (record { packet = (get_or waiting (slot_of l x.waiting.start) no_waiting).packet; due = span_after clock (span_of v.delay) }))
      (started_line x (get_or waiting (slot_of l x.waiting.start) no_waiting).bits
      (span_after clock (amount_over_rate (get_or waiting (slot_of l x.waiting.start) no_waiting).bits (rate_of v.rate))))
  line-start some room clock open-line =
      let first = get_or waiting (slot_of l x.waiting.start) no_waiting in
      let rest = items no_waiting waiting l (popped x.waiting) in
      let on : Transit = record { packet = first.packet; due = span_after clock (span_of v.delay) } in
      let free = span_after clock (amount_over_rate first.bits (rate_of v.rate)) in
      let begun = sts ++ (entry_at clock first.packet ∷ []) in
      record {
        queue = pop_sound k.queue some;
        transit = push_sound k.transit on room;
        books =
            subst (λ (ts : List Transit). Books v size adm begun lvs rest ts free (x.buffer_contains.0 - first.bits.0)) (sym (items_push k.transit no_transit on room))
            (start first rest clock open-line
            (subst (λ (ws : List Waiting). Books v size adm sts lvs ws (items no_transit on_line l x.on_line) x.earliest_transmit x.buffer_contains.0)
            (items_pop k.queue no_waiting some) k.books));
      }

  -- a packet arrives, and is admitted
  pub line_arrive : x.waiting.count < places → (clock : Time) (p : Packet) → admits v.limit x.buffer_contains (amount_of (size (id_of p))) ≡ true
      → LineKept v size l (adm ++ (entry_at clock p ∷ [])) sts lvs (set waiting (slot_of l (place_after x.waiting)) (record { packet = p; bits = amount_of (size (id_of p)) })) on_line
      (admitted x (amount_of (size (id_of p))))
  line_arrive room clock p fits =
      let new : Waiting = record { packet = p; bits = amount_of (size (id_of p)) } in
      record {
        queue = push_sound k.queue new room;
        transit = k.transit;
        books =
            subst
            (λ (ws : List Waiting). Books v size (adm ++ (entry_at clock p ∷ [])) sts lvs ws (items no_transit on_line l x.on_line) x.earliest_transmit (x.buffer_contains.0 + size (id_of p)))
            (sym (items_push k.queue no_waiting new room)) (arrive p clock fits k.books);
      }

  -- what is stored at a place of another line
  module _ (m p : ℕ) (other : l ≡ m → ⊥) (h : p < places) where
    pub beside_waiting : (y : Waiting) → LineKept v size l adm sts lvs (set waiting (slot_of m p) y) on_line x
    beside_waiting y =
        record {
          queue = store_sound k.queue (slot_of m p) y;
          transit = k.transit;
          books =
              subst (λ (ws : List Waiting). Books v size adm sts lvs ws (items no_transit on_line l x.on_line) x.earliest_transmit x.buffer_contains.0)
              (sym (items-other no_waiting waiting l x.waiting m p y other h)) k.books;
        }

    pub beside_moving : (y : Transit) → LineKept v size l adm sts lvs waiting (set on_line (slot_of m p) y) x
    beside_moving y =
        record {
          queue = k.queue;
          transit = store_sound k.transit (slot_of m p) y;
          books =
              subst (λ (ts : List Transit). Books v size adm sts lvs (items no_waiting waiting l x.waiting) ts x.earliest_transmit x.buffer_contains.0)
              (sym (items-other no_transit on_line l x.on_line m p y other h)) k.books;
        }
