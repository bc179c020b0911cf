-- A tick that moves keeps what a simulation keeps, with the lists grown by its record: the arrival at a line and the turn of a link here. Assumes nothing.
use Rattle.std.proofs.Common.{Option, None}
use mathlib.Core.Path.{◌≡◌, refl, sym, ap, subst, ◌∙◌}
use mathlib.Core.Bool.{Bool, true, false, ◌||◌, cond}
use mathlib.Core.List.{List, [], ◌∷◌, ◌++◌, map, append-nil, Memᴰ}
use Prim.Native.Nat.{ℕ, zero, suc, ◌+◌, ◌*◌, ◌≤◌, ◌<◌}
use native.Mathlib.Omega.{arith}
use borrow.Author.Tests.{eq-eqb, ne_eqb}
use lib.Dec.{leb, eqb}
use lib.ListN.{get_or}
use lib.Ieee.{lt}
use Rattle.quantities.specs.declared.time.Time.{Time}
use Rattle.quantities.specs.Doubles.{power}
use Rattle.quantities.specs.Units.{span_of, rate_of, since}
use Rattle.draws.specs.Draws.{unit_of}
use Rattle.meters.specs.Meter.{Metered, recorded_of}
use Rattle.link.specs.declared.packet.Packet.{Packet}
use Rattle.link.specs.declared.packet.Transit.{Transit}
use Rattle.link.specs.declared.link.Line.{Line}
use Rattle.link.specs.declared.link.Arrival.{Arrival}
use Rattle.link.specs.declared.link.Left.{Left}
use Rattle.link.specs.declared.link.Delivered.{Delivered}
use Rattle.link.specs.declared.link.Transmitted.{Transmitted}
use Rattle.sender.specs.declared.lossy.SenderState.{SenderState}
use Rattle.sender.specs.declared.lossy.SenderState.TheVariants as State
use Rattle.sender.specs.declared.lossy.Heard.TheVariants as Heard
use Rattle.sender.specs.declared.lossy.Returned.{Returned}
use Rattle.link.specs.Ring.{places, slot_of, place_after}
use Rattle.link.specs.Link.{admits, admitted, receive_of, is_due, departed, try_deliver, try_transmit}
use Rattle.sender.specs.Sender.{with_state, acked, return_to, returned_of}
use Rattle.link.proofs.Limits.{due_count}
use Rattle.link.proofs.Items.{items_pop}
use Rattle.remy.specs.HeldTimes.{Holds}
use Rattle.remy.specs.declared.network.RemyNetwork.{RemyNetwork}
use Rattle.remy.specs.declared.simulation.Simulation.{Simulation}
use Rattle.remy.specs.declared.simulation.Mark.{Mark}
use Rattle.remy.specs.declared.simulation.TickRecord.{TickRecord}
use Rattle.remy.specs.State.{has_back, line_count, values_of, Role, link, bouncer, sender, no_waiting, no_transit, line_at, sender_at, meter_at, first_of, front_of, packet_bits, with_line, with_on_line, with_sender}
use Rattle.remy.specs.Queue.{part_of, requeue, picked}
use Rattle.remy.specs.Tick.{named, record_at, marked, admitted_mark, full_mark, lost_mark, Message, arrives, bounces, returns, stopped, left_record, to_bouncer, left_messages, link_with, link_acts, acts_of, Outcome, moves, stops, arrive_with, return_with, deliver, deliver_all, pick_again, outcome_with, outcome_of}
use Rattle.remy.specs.History.{PacketId, id_of, Entry, entry_if, is_s, is_f, is_l, is_c, is_p, is_q, is_n, sends, admissions, starts, comes_back, leaves_by, leaves, counted}
use Rattle.remy.specs.Names.{is_leave}
use Rattle.remy.proofs.Lines.{entry_at, LineKept, line_lists, beside_moving}
use Rattle.remy.proofs.Facts.{FitState, second_there, at_second}
use Rattle.remy.proofs.Networks.{FitNetwork, few_senders, some_bits}
use Rattle.remy.proofs.Taken.{record_taken}
use Rattle.remy.proofs.Plain.{Plain, plain}
use Rattle.remy.proofs.Kept.{Kept, few_lines, kept_lists, size_in, grown, grown-none, keep_line, keep_sender, count-meter}
use Rattle.remy.proofs.Front.{accepted, meter_facts, front-sender, front-past, front_room}
use Rattle.remy.proofs.Steps.{cond_elim, keep_requeue, keep_picked}
use Rattle.remy.proofs.Parts.{leaves-line, transmit_elim, keep_arrive}

-- ---- outcomes

abbrev pub OnMoves : (TickRecord → Simulation → Type 0) → Outcome → Type 0
OnMoves P (moves r m) = P r m
OnMoves P (stops n) = Unit {0}

-- what is kept, with the lists grown by a record
abbrev pub Grown : RemyNetwork → (ℕ → List Entry) → (ℕ → List Entry) → (ℕ → List Entry) → List Entry → List PacketId → TickRecord → Simulation → Type 0
Grown n adm sts lvs snd cnt r m =
    Kept n (λ l. adm l ++ admissions l (r ∷ [])) (λ l. sts l ++ starts n l (r ∷ [])) (λ l. lvs l ++ leaves n l (r ∷ [])) (snd ++ sends (r ∷ [])) (cnt ++ counted (r ∷ [])) m

pub same : {A : Type 0} (xs : List A) → xs ≡ xs ++ []
same xs = sym (append-nil xs)

-- a part that stops gives a tick that stops
pub on-stopped : (P : TickRecord → Simulation → Type 0) (role : Role) (s : Simulation) (m : ℕ) → eqb m 0 ≡ false → OnMoves P (outcome_with role (stopped s m))
on-stopped P role s m e = rw e tt

-- ---- what a record adds to the lists of each line

or_l : (a b : Bool) → (a || b) ≡ false → a ≡ false
or_l true b e = e
or_l false b e = refl

or_r : (a b : Bool) → (a || b) ≡ false → b ≡ false
or_r true b e = absurd (true_false e)
  where
    true_false : true ≡ false → ⊥
    true_false q = subst (λ (b : Bool). cond b (Unit {0}) ⊥) q tt
or_r false b e = e

-- a mark by which no packet leaves, leaves no line
pub not_leaving : (n : RemyNetwork) (mark : Mark) → is_leave mark ≡ false → (m : ℕ) → leaves_by n m mark ≡ false
not_leaving n mark e zero =
    let beyond-l = or_r (is_l mark) _ e in
    let beyond-n = or_r (is_n mark) _ beyond-l in
    let beyond-p = or_r (is_p mark) _ beyond-n in
    let out = or_r (is_q mark) _ beyond-p in
    rw (or_l (is_l mark) _ e, or_l (is_p mark) _ beyond-n, or_l (is_q mark) _ beyond-p, out) (by (has_back n.back))
  where
    by : (b : Bool) → cond b false false ≡ false
    by true = refl
    by false = refl
not_leaving n mark e (suc m) =
    let beyond-l = or_r (is_l mark) _ e in
    let beyond-n = or_r (is_n mark) _ beyond-l in
    let beyond-p = or_r (is_p mark) _ beyond-n in
    let out = or_r (is_q mark) _ beyond-p in
    rw (or_l (is_n mark) _ beyond-l, out)

module _ (n : RemyNetwork) (r : TickRecord) where
  pub none-admitted : (adm : ℕ → List Entry) → is_s r.mark ≡ false → is_p r.mark ≡ false → (m : ℕ) → adm m ≡ adm m ++ admissions m (r ∷ [])
  none-admitted adm p q zero = rw p (same (adm zero))
  none-admitted adm p q (suc m) = rw q (same (adm (suc m)))

  pub none-started : (sts : ℕ → List Entry) → r.started ≡ None → (m : ℕ) → sts m ≡ sts m ++ starts n m (r ∷ [])
  none-started sts e m = rw e (by (eqb r.part (part_of n.senders (link m))))
    where
      by : (b : Bool) → sts m ≡ sts m ++ entry_if b r.time None []
      by true = same (sts m)
      by false = same (sts m)

  pub none_left_lem : (lvs : ℕ → List Entry) → is_leave r.mark ≡ false → (m : ℕ) → lvs m ≡ lvs m ++ leaves n m (r ∷ [])
  none_left_lem lvs e m = rw (not_leaving n r.mark e m) (same (lvs m))

-- the entry of a name, added to one line
at-line : (f : ℕ → List Entry) (l m : ℕ) (b : Bool) (t : Time) (name : Option (ℕ × ℕ)) → b ≡ eqb m l → grown f l (entry_if true t name []) m ≡ f m ++ entry_if b t name []
at-line f l m b t name e = ap (λ (c : Bool). f m ++ cond c (entry_if true t name []) []) (sym e) ∙ by b
  where
    by : (c : Bool) → f m ++ cond c (entry_if true t name []) [] ≡ f m ++ entry_if c t name []
    by true = refl
    by false = refl

-- two links of two lines are two parts
same_part : (n l m : ℕ) → l < 2 → m < 2 → eqb (part_of n (link l)) (part_of n (link m)) ≡ eqb m l
same_part n zero zero g h = refl
same_part n zero (suc m) g h = rw (ne_eqb 0 (2 + 2 * n) (λ (e : 0 ≡ 2 + 2 * n). omega arith), ne_eqb (suc m) zero (λ (e : suc m ≡ zero). omega arith))
same_part n (suc l) zero g h = rw (ne_eqb (2 + 2 * n) 0 (λ (e : 2 + 2 * n ≡ 0). omega arith), ne_eqb zero (suc l) (λ (e : zero ≡ suc l). omega arith))
same_part n (suc l) (suc m) g h = let e : suc m ≡ suc l = omega arith in rw (eq-eqb (2 + 2 * n) (2 + 2 * n) refl, eq-eqb (suc m) (suc l) e)

-- ---- the marks by which a packet leaves line l, and no other

module _ (n : RemyNetwork) where
  one_only : has_back n.back ≡ false → (m : ℕ) → m < line_count n → m ≡ 0
  one_only e m h = let few : m < cond (has_back n.back) 2 1 = h in by (has_back n.back) e few
    where
      by : (b : Bool) → b ≡ false → m < cond b 2 1 → m ≡ 0
      by true q g = absurd (subst (λ (c : Bool). cond c (Unit {0}) ⊥) q tt)
      by false q g = omega arith

  pub lost-on : (l m : ℕ) → l < line_count n → m < line_count n → leaves_by n m (lost_mark l) ≡ eqb m l
  lost-on zero zero g h = refl
  lost-on zero (suc m) g h = sym (ne_eqb (suc m) zero (λ (e : suc m ≡ zero). omega arith))
  lost-on (suc l) zero g h = rw (at_second (has_back n.back) l g).1 (sym (ne_eqb zero (suc l) (λ (e : zero ≡ suc l). omega arith)))
  lost-on (suc l) (suc m) g h =
      let few-l = few_lines n (suc l) g in
      let few-m = few_lines n (suc m) h in
      sym (eq-eqb (suc m) (suc l) (omega (arith, few-l, few-m)))

  -- a mark that comes back leaves the line from which packets go to their sender
  pub back_on : (mark : Mark) → is_l mark ≡ false → is_n mark ≡ false → is_p mark ≡ false → is_q mark ≡ false → comes_back mark ≡ true
      → (l m : ℕ) → l < line_count n → m < line_count n → to_bouncer n l ≡ false → leaves_by n m mark ≡ eqb m l
  back_on mark p q u v c zero m g h e =
      let only : m ≡ 0 = one_only e m h in
      subst (λ (k : ℕ). leaves_by n k mark ≡ eqb k zero) (sym only) (rw (p, e, c))
  back_on mark p q u v c (suc l) zero g h e = rw (p, (at_second (has_back n.back) l g).1, u, v) (sym (ne_eqb zero (suc l) (λ (d : zero ≡ suc l). omega arith)))
  back_on mark p q u v c (suc l) (suc m) g h e =
      let few-l = few_lines n (suc l) g in
      let few-m = few_lines n (suc m) h in
      rw (q, c) (sym (eq-eqb (suc m) (suc l) (omega (arith, few-l, few-m))))

  -- a mark of an arrival at the second line leaves the first
  pub passed_on_lem : (mark : Mark) → is_l mark ≡ false → is_n mark ≡ false → (is_p mark || is_q mark) ≡ true → comes_back mark ≡ false
      → has_back n.back ≡ true → (m : ℕ) → leaves_by n m mark ≡ eqb m 0
  passed_on_lem mark p q u c e zero = rw (p, e, u)
  passed_on_lem mark p q u c e (suc m) = rw (q, c) (sym (ne_eqb (suc m) 0 (λ (d : suc m ≡ 0). omega arith)))

-- ---- a packet arrives at line l: admitted, dropped full, or refused

pub arrival_elim : {adm sts lvs : ℕ → List Entry} {snd : List Entry} {cnt : List PacketId} {s : Simulation} → Kept s.network adm sts lvs snd cnt s
    → (l : ℕ) → l < line_count s.network → (p : Packet) (r : TickRecord) (P : TickRecord → Simulation → Type 0)
    → ((m : Simulation) → Kept s.network (grown adm l (entry_at s.head.clock p ∷ [])) sts lvs snd cnt m → P (marked r (admitted_mark l)) m)
    → ((m : Simulation) → Kept s.network adm sts lvs snd cnt m → P (marked r (full_mark l)) m)
    → OnMoves P (pick_again (deliver r s (arrives l p)))
unfolding deliver receive_of
arrival_elim {adm} {sts} {lvs} {snd} {cnt} {s} k l h p r P takes drops =
    let x = line_at s l in
    let bits = packet_bits s.network p in
    let dropped : Arrival = record { number = 0; admitted = false; line = x } in
    let taken : Arrival = record { number = 0; admitted = true; line = admitted x bits } in
    let full : Arrival = record { number = 12; admitted = false; line = x } in
    let F : Arrival → Type 0 = λ a. OnMoves P (pick_again (arrive_with r s l p a)) in
    cond_elim F (admits (values_of s.network l).limit x.buffer_contains bits) (cond (leb places x.waiting.count) full taken) dropped
    (λ fits. cond_elim F (leb places x.waiting.count) full taken (λ none. tt) (λ room. takes _ (keep_picked (keep_requeue (keep_arrive k l h p room fits) (link l)))))
    (λ over. drops _ (keep_picked (keep_requeue k (link l))))

-- ---- a packet comes back to its sender: ignored, old or counted

module _ {adm sts lvs : ℕ → List Entry} {snd : List Entry} {cnt : List PacketId} {s : Simulation} (k : Kept s.network adm sts lvs snd cnt s) (p : Packet) (r : TickRecord)
    (few : s.network.senders ≤ 16) (own : p.sender < s.network.senders)
    (more : (recorded_of (meter_at s p.sender) (packet_bits s.network p) (since s.head.clock p.sent_time) s.head.clock).meter.records ≡ (meter_at s p.sender).records + 1)
    (P : TickRecord → Simulation → Type 0)
    (ignores : (m : Simulation) → Kept s.network adm sts lvs snd cnt m → P (marked r Mark.Ignored) m)
    (olds : (m : Simulation) → Kept s.network adm sts lvs snd cnt m → P (marked r Mark.Old) m)
    (counts : (m : Simulation) → Kept s.network adm sts lvs snd (cnt ++ (id_of p ∷ [])) m → P (marked r Mark.Counted) m) where
  -- the sender as it was
  unheard : Kept s.network adm sts lvs snd cnt (picked (requeue (with_sender s p.sender (sender_at s p.sender)) (sender p.sender)))
  unheard = keep_picked (keep_requeue (keep_sender k p.sender (sender_at s p.sender) refl) (sender p.sender))

  back_with_lem : (x : SenderState) → (sender_at s p.sender).state ≡ x → OnMoves P (pick_again (return_with r s p.sender p (return_to s.network.policy (sender_at s p.sender) x p)))
  back_with_lem State.WaitingForEnable e = ignores _ unheard
  back_with_lem (State.Enabled y) e =
      let later = with_state (sender_at s p.sender) (State.Enabled (acked s.network.policy y p)) in
      cond_elim (λ (x : Returned). OnMoves P (pick_again (return_with r s p.sender p x))) (lt p.sent_time.0.0 y.started.0.0)
      (record { heard = Heard.Old; sender = sender_at s p.sender }) (record { heard = Heard.Counted; sender = later })
      (λ before. olds _ unheard)
      (λ since. counts _ (keep_picked (keep_requeue (count-meter (keep_sender k p.sender later refl) p.sender _ (id_of p) own few refl more) (sender p.sender))))

  pub return_elim : OnMoves P (pick_again (deliver r s (returns p)))
  unfolding deliver returned_of
  return_elim = back_with_lem (sender_at s p.sender).state refl

-- ---- the turn of the link of line l

-- a lost packet is not admitted, sent or counted
lost-quiet : (l : ℕ) → (is_s (lost_mark l) ≡ false) × (is_p (lost_mark l) ≡ false) × ((is_s (lost_mark l) || is_f (lost_mark l)) ≡ false) × (is_c (lost_mark l) ≡ false)
lost-quiet zero = (refl, refl, refl, refl)
lost-quiet (suc l) = (refl, refl, refl, refl)

module _ (n : RemyNetwork) where
  -- packets go to the bouncer from the first line, where there is a second
  pub bouncing : (l : ℕ) → to_bouncer n l ≡ true → (l ≡ 0) × (has_back n.back ≡ true)
  bouncing zero e = (refl, e)
  bouncing (suc l) e = absurd (subst (λ (b : Bool). cond b ⊥ (Unit {0})) e tt)

  -- a P record admits its packet to the second line
  passed : (adm : ℕ → List Entry) (t : Time) (p : Packet) (r : TickRecord) → r.mark ≡ Mark.Passed → r.time ≡ t → r.packet ≡ named p
      → (m : ℕ) → m < line_count n → grown adm 1 (entry_at t p ∷ []) m ≡ adm m ++ admissions m (r ∷ [])
  passed adm t p r mark time packet zero g = rw mark
  passed adm t p r mark time packet (suc m) g =
      let few = few_lines n (suc m) g in
      rw (mark, packet, time) (at-line adm 1 (suc m) true t (named p) (sym (eq-eqb (suc m) 1 (omega (arith, few)))))

module _ {adm sts lvs : ℕ → List Entry} {snd : List Entry} {cnt : List PacketId} {s : Simulation} (f : FitState s) (early : lt (power 40) s.head.clock.0.0 ≡ false)
    (clock : Plain s.head.clock) (held : Holds plain s) (k : Kept s.network adm sts lvs snd cnt s) (l : ℕ) (h : l < line_count s.network) where
  abbrev Good : TickRecord → Simulation → Type 0
  Good = Grown s.network adm sts lvs snd cnt

  ok : FitNetwork s.network
  ok = accepted s f

  -- the lists after the link has acted: a packet may have started, and one may have left
  abbrev Begun : Option (ℕ × ℕ) → ℕ → List Entry
  Begun started = grown sts l (entry_if true s.head.clock started [])

  -- a record of this link, with its start
  begun-on : (mark : Mark) (packet started : Option (ℕ × ℕ)) → let r : TickRecord = record_at s (link l) mark packet started in (m : ℕ) → m < line_count s.network → Begun started m ≡ sts m ++ starts s.network m (r ∷ [])
  begun-on mark packet started m g =
      at-line sts l m (eqb (part_of s.network.senders (link l)) (part_of s.network.senders (link m))) s.head.clock started
      (same_part s.network.senders l m (few_lines s.network l h) (few_lines s.network m g))

  -- and with the packet that left
  left_on : (mark : Mark) (p : Packet) (started : Option (ℕ × ℕ)) → ((m : ℕ) → m < line_count s.network → leaves_by s.network m mark ≡ eqb m l)
      → let r : TickRecord = record_at s (link l) mark (named p) started in (m : ℕ) → m < line_count s.network
      → grown lvs l (entry_at s.head.clock p ∷ []) m ≡ lvs m ++ leaves s.network m (r ∷ [])
  left_on mark p started by m g = at-line lvs l m (leaves_by s.network m mark) s.head.clock (named p) (by m g)

  -- what the rest of the turn must give, once the link has acted and is queued again
  abbrev Ends : Left → List Entry → Type 0
  Ends left gone =
      (started : Option (ℕ × ℕ)) (moving : List Transit) (x : Line) → Kept s.network adm (Begun started) (grown lvs l gone) snd cnt (with_line (with_on_line s moving) l x)
      → OnMoves Good
      (pick_again (deliver_all (moves (left_record s l left started) (requeue (with_line (with_on_line s moving) l x) (link l))) (left_messages s.network l left)))

  -- the link acts: the packet that left is given, and one may start
  act : (left : Left) (gone : List Entry) (x : Line) → LineKept (values_of s.network l) (size_in s.network) l (adm l) (sts l) (lvs l ++ gone) s.waiting s.on_line x
      → Ends left gone
      → OnMoves Good
      (outcome_with (link l)
      (link_with s l (record { left = left; line = x })
      (try_transmit x s.head.clock (get_or s.waiting (slot_of l x.waiting.start) no_waiting) (span_of (values_of s.network l).delay) (rate_of (values_of s.network l).rate))))
  act left gone x q ends =
      transmit_elim q s.head.clock (λ (t : Transmitted). OnMoves Good (outcome_with (link l) (link_with s l (record { left = left; line = x }) t)))
      (ends None s.on_line x
      (kept_lists (λ m g. grown-none adm l m) (λ m g. refl) (λ m g. refl) refl refl
      (keep_line k l h [] [] gone s.waiting s.on_line x (λ m other i j o y z. z) (line_lists (same (adm l)) (same (sts l)) refl q))))
      (λ m e. rw e (on-stopped Good (link l) s m e))
      (λ begun.
      ends (named (get_or s.waiting (slot_of l x.waiting.start) no_waiting).packet) _ _
      (kept_lists (λ m g. grown-none adm l m) (λ m g. refl) (λ m g. refl) refl refl
      (keep_line k l h [] (entry_at s.head.clock (get_or s.waiting (slot_of l x.waiting.start) no_waiting).packet ∷ []) gone s.waiting _ _
      (λ m other i j o y z. beside_moving z l (place_after x.on_line) other (omega arith) _) (line_lists (same (adm l)) refl refl begun))))

  -- nothing leaves
  stays : Ends Left.Nobody []
  stays started moving x q =
      let r = record_at s (link l) Mark.None None started in
      kept_lists (λ m g. none-admitted s.network r adm refl refl m) (begun-on Mark.None None started) (λ m g. grown-none lvs l m ∙ none_left_lem s.network r lvs refl m) (same snd) (same cnt)
      (keep_picked (keep_requeue q (link l)))

  module _ (e : is_due (line_at s l) s.head.clock (front_of s l) ≡ true) where
    some : 0 < (line_at s l).on_line.count
    some = due_count (line_at s l) s.head.clock (front_of s l) e

    front-due : Plain (front_of s l).due
    front-due =
        held.due l h (front_of s l).due
        (subst (λ (ts : List Transit). Memᴰ (front_of s l).due (map (λ x. x.due) ts)) (sym (items_pop (k.line l h).transit no_transit some)) (Memᴰ.head refl))

    gone : LineKept (values_of s.network l) (size_in s.network) l (adm l) (sts l) (lvs l ++ (entry_at s.head.clock (front_of s l).packet ∷ [])) s.waiting s.on_line (departed (line_at s l))
    gone = leaves-line (k.line l h) s.head.clock clock front-due e

    -- the first packet leaves, and is lost
    loses : Ends (Left.Lost (front_of s l).packet) (entry_at s.head.clock (front_of s l).packet ∷ [])
    loses started moving x q =
        let p = (front_of s l).packet in
        let r = record_at s (link l) (lost_mark l) (named p) started in
        let quiet = lost-quiet l in
        kept_lists (λ m g. none-admitted s.network r adm quiet.0 quiet.1 m) (begun-on (lost_mark l) (named p) started)
        (left_on (lost_mark l) p started (λ m g. lost-on s.network l m h g)) (rw quiet.2 (same snd)) (rw quiet.3 (same cnt))
        (keep_picked (keep_requeue q (link l)))

    own : (front_of s l).packet.sender < s.network.senders
    own = front-sender s f l h (k.line l h).transit some

    -- its record is taken, if it is counted
    more : (recorded_of (meter_at s (front_of s l).packet.sender) (packet_bits s.network (front_of s l).packet) (since s.head.clock (front_of s l).packet.sent_time) s.head.clock).meter.records
        ≡ (meter_at s (front_of s l).packet.sender).records + 1
    more =
        ap (λ (x : Metered). x.meter.records)
        (record_taken (meter_facts s f (front_of s l).packet.sender own early) (front_of s l).packet.sent_time (front_room s f l h (k.line l h).transit some)
        (some_bits ok (front_of s l).packet.sender own) clock.double (front-past s f l h (k.line l h).transit some))

    -- the first packet leaves, and comes back to its sender, or goes to the bouncer and on to the second line
    comes : Ends (Left.Out (front_of s l).packet) (entry_at s.head.clock (front_of s l).packet ∷ [])
    unfolding requeue deliver
    comes started moving x q =
        let p = (front_of s l).packet in
        let n = s.network in
        let st = requeue (with_line (with_on_line s moving) l x) (link l) in
        let r = record_at s (link l) Mark.None (named p) started in
        cond_elim (λ (m : Message). OnMoves Good (pick_again (deliver_all (moves r st) (m ∷ [])))) (to_bouncer n l) (bounces p) (returns p)
        (λ b.
        let first = bouncing n l b in
        let on : (mark : Mark) → is_l mark ≡ false → is_n mark ≡ false → (is_p mark || is_q mark) ≡ true → comes_back mark ≡ false → (m : ℕ) → m < line_count n → leaves_by n m mark ≡ eqb m l =
        λ mark u v w c m g. subst (λ (j : ℕ). leaves_by n m mark ≡ eqb m j) (sym first.0) (passed_on_lem n mark u v w c first.1 m) in
        arrival_elim (keep_requeue (keep_requeue q (link l)) bouncer) 1 (second_there (has_back n.back) first.1) p r Good
        (λ m z. kept_lists (passed n adm s.head.clock p (record_at s (link l) Mark.Passed (named p) started) refl refl refl) (begun-on Mark.Passed (named p) started)
        (left_on Mark.Passed p started (on Mark.Passed refl refl refl refl)) (same snd) (same cnt) z)
        (λ m z. kept_lists (λ j g. none-admitted n (record_at s (link l) Mark.FullBack (named p) started) adm refl refl j) (begun-on Mark.FullBack (named p) started)
        (left_on Mark.FullBack p started (on Mark.FullBack refl refl refl refl)) (same snd) (same cnt) z))
        (λ b.
        let on : (mark : Mark) → is_l mark ≡ false → is_n mark ≡ false → is_p mark ≡ false → is_q mark ≡ false → comes_back mark ≡ true → (m : ℕ) → m < line_count n → leaves_by n m mark ≡ eqb m l =
        λ mark u v w y c m g. back_on n mark u v w y c l m h g b in
        return_elim (keep_requeue q (link l)) p r (few_senders ok) own more Good
        (λ m z. kept_lists (λ j g. none-admitted n (record_at s (link l) Mark.Ignored (named p) started) adm refl refl j) (begun-on Mark.Ignored (named p) started)
        (left_on Mark.Ignored p started (on Mark.Ignored refl refl refl refl refl)) (same snd) (same cnt) z)
        (λ m z. kept_lists (λ j g. none-admitted n (record_at s (link l) Mark.Old (named p) started) adm refl refl j) (begun-on Mark.Old (named p) started)
        (left_on Mark.Old p started (on Mark.Old refl refl refl refl refl)) (same snd) (same cnt) z)
        (λ m z. kept_lists (λ j g. none-admitted n (record_at s (link l) Mark.Counted (named p) started) adm refl refl j) (begun-on Mark.Counted (named p) started)
        (left_on Mark.Counted p started (on Mark.Counted refl refl refl refl refl)) (same snd) refl z))

  pub link-good : OnMoves Good (outcome_of s (link l))
  unfolding outcome_of acts_of link_acts try_deliver
  link-good =
      let v = values_of s.network l in
      let x = line_at s l in
      let front = front_of s l in
      let F : Delivered → Type 0 = λ d. OnMoves Good (outcome_with (link l) (link_with s l d (try_transmit d.line s.head.clock (first_of s l) (span_of v.delay) (rate_of v.rate)))) in
      let lost : Delivered = record { left = Left.Lost front.packet; line = departed x } in
      let out : Delivered = record { left = Left.Out front.packet; line = departed x } in
      cond_elim F (is_due x s.head.clock front) (cond (lt (unit_of x.rng).value v.loss) lost out) (record { left = Left.Nobody; line = x })
      (λ e. cond_elim F (lt (unit_of x.rng).value v.loss) lost out
      (λ d. act (Left.Lost front.packet) _ (departed x) (gone e) (loses e))
      (λ d. act (Left.Out front.packet) _ (departed x) (gone e) (comes e)))
      (λ e. act Left.Nobody [] x (line_lists refl refl (same (lvs l)) (k.line l h)) stays)
