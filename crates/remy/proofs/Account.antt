-- Demand 3: the account holds after every list of calls from a fresh simulation. Assumes nothing.
use Rattle.std.proofs.Common.{Option, Some, None}
use mathlib.Core.Path.{◌≡◌, refl, sym, ap, subst, ◌∙◌}
use mathlib.Core.Logic.{◌⊎◌, inl, inr, ⊎_elim}
use mathlib.Core.Bool.{Bool, true, false, ◌||◌, cond, true≢false}
use mathlib.Core.List.{List, [], ◌∷◌, ◌++◌, map, map-map, append_assoc, append-nil}
use Prim.Native.Nat.{ℕ, ◌+◌, ◌<◌}
use native.Mathlib.Omega.{arith}
use borrow.Author.Tests.{eqb-true}
use lib.Dec.{eqb}
use lib.Ieee.{lt}
use Rattle.quantities.specs.Doubles.{power}
use Rattle.remy.specs.declared.network.RemyNetwork.{RemyNetwork}
use Rattle.remy.specs.declared.simulation.Simulation.{Simulation}
use Rattle.remy.specs.declared.simulation.Mark.{Mark}
use Rattle.remy.specs.declared.simulation.TickRecord.{TickRecord}
use Rattle.remy.specs.declared.simulation.Ticked.{Ticked}
use Rattle.remy.specs.State.{has_back, line_count, role_in, waiting_items, on_line_items}
use Rattle.remy.specs.Fit.{fit}
use Rattle.remy.specs.Tick.{Outcome, moves, stops, outcome_of, empty_record, unmoved, ticked, tick_next, tick_of}
use Rattle.remy.specs.HeldTimes.{Has}
use Rattle.remy.specs.History.{Call, tick, called, after, noted, history, Fresh, PacketId, id_of, ids, entries, letter_of, is_s, is_f, is_l, is_c, is_o, is_i, is_p, is_q, sends, admitted_by, admissions, starts, comes_back, leaves_by, leaves, dropped_full, lost, dropped_back, lost_back, counted, old, ignored}
use Rattle.remy.specs.Queue.{part_of}
use Rattle.remy.specs.State.{link}
use Rattle.remy.specs.Account.{total, of_sender, is_packet, if_back, waiting, on_line, everywhere, Account, Demand3}
use Rattle.remy.proofs.Lists.{map_append, entries-append, starts-append, total-append, entries-either}
use Rattle.remy.proofs.Lines.{line_account}
use Rattle.remy.proofs.Facts.{FitState, fit-state, first-there, second_there}
use Rattle.remy.proofs.Kept.{Kept, kept_lists}
use Rattle.remy.proofs.Steps.{cond_elim}
use Rattle.remy.proofs.Outcomes.{OnMoves, Grown}
use Rattle.remy.proofs.Turns.{turn_good}
use Rattle.remy.proofs.Plain.{plain}
use Rattle.remy.proofs.PlainTimes.{tick_plain}
use Rattle.remy.proofs.Start.{fresh_kept}

-- ---- what is kept, with a history

abbrev pub ListsAt : RemyNetwork → List TickRecord → Simulation → Type 0
ListsAt n h s = Kept n (λ l. admissions l h) (λ l. starts n l h) (λ l. leaves n l h) (sends h) (counted h) s

-- and times that are plain
pub record KeptAt (n : RemyNetwork) (h : List TickRecord) (s : Simulation) : Type 0 where
  pub lists : ListsAt n h s
  pub plain : Has plain s

module _ (n : RemyNetwork) where
  -- a tick, with the record that it adds to the history
  abbrev KeptBy : List TickRecord → Ticked → Type 0
  KeptBy h t = ListsAt n (h ++ noted t []) t.simulation

  unmoved_keeps : (h : List TickRecord) (s : Simulation) (number : ℕ) → ListsAt n h s → KeptBy h (unmoved s number)
  unmoved_keeps h s number k = subst (λ (l : List TickRecord). ListsAt n l s) (sym (append-nil h)) k

  outcome_keeps : (h : List TickRecord) (s : Simulation) (o : Outcome) → ListsAt n h s
      → OnMoves (Grown n (λ l. admissions l h) (λ l. starts n l h) (λ l. leaves n l h) (sends h) (counted h)) o
      → KeptBy h (ticked s o)
  outcome_keeps h s (stops number) k g = unmoved_keeps h s number k
  outcome_keeps h s (moves r m) k g =
      kept_lists (λ l g. sym (entries-append (admitted_by l) h (r ∷ []))) (λ l g. sym (starts-append (part_of n.senders (link l)) h (r ∷ [])))
      (λ l g. sym (entries-append (leaves_by n l) h (r ∷ [])))
      (sym (entries-append (λ x. is_s x || is_f x) h (r ∷ [])))
      (sym (ap ids (entries-append is_c h (r ∷ [])) ∙ map_append (λ e. e.packet) (entries is_c h) (entries is_c (r ∷ [])))) g

-- a tick: it does not move, or it is the turn of the next part of a fit state
pub tick_elim : (F : Ticked → Type 0) (s : Simulation) → ((number : ℕ) → F (unmoved s number))
    → (FitState s → lt (power 40) s.head.clock.0.0 ≡ false → (j : ℕ) → F (ticked s (outcome_of s (role_in s.network j))))
    → F (tick_of s)
unfolding tick_of
tick_elim F s rests goes = cond_elim F (fit s) (tick_next s s.head.next) (unmoved s 9) (with_next_lem s.head.next) (λ unfit. rests 9)
  where
    with_next_lem : (x : Option ℕ) → fit s ≡ true → F (tick_next s x)
    with_next_lem None e = rests 0
    with_next_lem (Some j) e =
        cond_elim F (lt (power 40) s.head.clock.0.0) (unmoved s 10) (ticked s (outcome_of s (role_in s.network j)))
        (λ late. rests 10)
        (λ early. goes (fit-state s e) early j)

-- every tick is what an outcome gives
outcome_elim : (F : Ticked → Type 0) (s : Simulation) → ((o : Outcome) → F (ticked s o)) → F (tick_of s)
outcome_elim F s each = tick_elim F s (λ number. each (stops number)) (λ f early j. each (outcome_of s (role_in s.network j)))

-- a tick that does not move returns the state that it was given
pub unmoved-same : (s : Simulation) → (tick_of s).moved ≡ false → (tick_of s).simulation ≡ s
unmoved-same s = outcome_elim (λ (t : Ticked). t.moved ≡ false → t.simulation ≡ s) s of_outcome
  where
    of_outcome : (o : Outcome) → (ticked s o).moved ≡ false → (ticked s o).simulation ≡ s
    of_outcome (stops k) e = refl
    of_outcome (moves x m) e = absurd (true≢false e)

-- and has the empty record
pub unmoved-empty : (s : Simulation) → (tick_of s).moved ≡ false → (tick_of s).note ≡ empty_record
unmoved-empty s = outcome_elim (λ (t : Ticked). t.moved ≡ false → t.note ≡ empty_record) s of_outcome
  where
    of_outcome : (o : Outcome) → (ticked s o).moved ≡ false → (ticked s o).note ≡ empty_record
    of_outcome (stops k) e = refl
    of_outcome (moves x m) e = absurd (true≢false e)

-- a tick that moves has the number 0
pub moved_zero : (s : Simulation) → (tick_of s).moved ≡ true → (tick_of s).number ≡ 0
moved_zero s = outcome_elim (λ (t : Ticked). t.moved ≡ true → t.number ≡ 0) s of_outcome
  where
    of_outcome : (o : Outcome) → (ticked s o).moved ≡ true → (ticked s o).number ≡ 0
    of_outcome (stops k) e = absurd (true≢false (sym e))
    of_outcome (moves x m) e = refl

tick_keeps : (h : List TickRecord) (s : Simulation) → KeptAt s.network h s → KeptAt s.network (h ++ noted (tick_of s) []) (tick_of s).simulation
tick_keeps h s k =
    record {
      lists =
          tick_elim (KeptBy s.network h) s (λ number. unmoved_keeps s.network h s number k.lists)
          (λ f early j. outcome_keeps s.network h s (outcome_of s (role_in s.network j)) k.lists (turn_good f early k.plain.clock k.plain.held k.lists j));
      plain = tick_plain s k.plain;
    }

-- ---- every list of calls

pub call_keeps : (n : RemyNetwork) (c : Call) (h : List TickRecord) (s : Simulation) → KeptAt n h s → KeptAt n (h ++ noted (called c s) []) (called c s).simulation
call_keeps n tick h s k =
    let own : KeptAt s.network h s = subst (λ (m : RemyNetwork). KeptAt m h s) (sym k.lists.network) k in
    subst (λ (m : RemyNetwork). KeptAt m (h ++ noted (tick_of s) []) (tick_of s).simulation) k.lists.network (tick_keeps h s own)

noted-append : (t : Ticked) (h : List TickRecord) → noted t h ≡ noted t [] ++ h
noted-append t h = by t.moved
  where
    by : (b : Bool) → cond b (t.note ∷ h) h ≡ cond b (t.note ∷ []) [] ++ h
    by true = refl
    by false = refl

pub calls_keep : (n : RemyNetwork) (cs : List Call) (h : List TickRecord) (s : Simulation) → KeptAt n h s → KeptAt n (h ++ history cs s) (after cs s)
calls_keep n [] h s k = subst (λ (l : List TickRecord). KeptAt n l s) (sym (append-nil h)) k
calls_keep n (c ∷ cs) h s k =
    let t = called c s in
    subst (λ (l : List TickRecord). KeptAt n l (after cs t.simulation))
    (append_assoc h (noted t []) (history cs t.simulation) ∙ ap (λ (l : List TickRecord). h ++ l) (sym (noted-append t (history cs t.simulation))))
    (calls_keep n cs (h ++ noted t []) t.simulation (call_keeps n c h s k))

pub fresh_keeps : (n : RemyNetwork) (s : Simulation) → Fresh n s → KeptAt n [] s
fresh_keeps n s fresh = let b = fresh_kept n s fresh in record { lists = b.kept; plain = b.plain }

-- ---- the account

-- two marks are apart by their letters
letters : (a b : ℕ) → (a ≡ b → ⊥) → (m : Mark) → eqb (letter_of m) a ≡ true → eqb (letter_of m) b ≡ true → ⊥
letters a b apart m p q = apart (sym (eqb-true (letter_of m) a p) ∙ eqb-true (letter_of m) b q)

pub either : (a b : Bool) → (a || b) ≡ true → (a ≡ true) ⊎ (b ≡ true)
either true b e = inl refl
either false b e = inr e

module _ (f : PacketId → ℕ) (h : List TickRecord) where
  pub sends_split : total f (ids (sends h)) ≡ total f (ids (admissions 0 h)) + total f (dropped_full h)
  sends_split = entries-either f is_s is_f (letters 83 70 (λ (e : 83 ≡ 70). omega arith)) h

  back_split : total f (ids (entries comes_back h)) ≡ total f (counted h) + (total f (old h) + total f (ignored h))
  back_split =
      entries-either f is_c (λ m. is_o m || is_i m)
      (λ m l q. ⊎_elim (letters 67 79 (λ (e : 67 ≡ 79). omega arith) m l) (letters 67 73 (λ (e : 67 ≡ 73). omega arith) m l) (either (is_o m) (is_i m) q)) h
      ∙ ap (λ (c : ℕ). total f (counted h) + c) (entries-either f is_o is_i (letters 79 73 (λ (e : 79 ≡ 73). omega arith)) h)

  -- a mark of another letter, and the marks that come back
  then_back : (a : ℕ) → (a ≡ 67 → ⊥) → (a ≡ 79 → ⊥) → (a ≡ 73 → ⊥)
      → total f (ids (entries (λ m. eqb (letter_of m) a || comes_back m) h)) ≡ total f (ids (entries (λ m. eqb (letter_of m) a) h)) + (total f (counted h) + (total f (old h) + total f (ignored h)))
  then_back a c o i =
      entries-either f (λ m. eqb (letter_of m) a) comes_back
      (λ m l r. ⊎_elim (letters a 67 c m l) (λ (q : (is_o m || is_i m) ≡ true). ⊎_elim (letters a 79 o m l) (letters a 73 i m l) (either (is_o m) (is_i m) q)) (either (is_c m) (is_o m || is_i m) r)) h
      ∙ ap (λ (c : ℕ). total f (ids (entries (λ m. eqb (letter_of m) a) h)) + c) back_split

  module _ (n : RemyNetwork) where
    -- the leaves of the first line, without a return line and with one, and those of the second
    first_split : has_back n.back ≡ false → total f (ids (leaves n 0 h)) ≡ total f (lost h) + (total f (counted h) + (total f (old h) + total f (ignored h)))
    first_split e =
        ap (λ (b : Bool). total f (ids (entries (λ m. is_l m || cond b (is_p m || is_q m) (comes_back m)) h))) e
        ∙ then_back 76 (λ (d : 76 ≡ 67). omega arith) (λ (d : 76 ≡ 79). omega arith) (λ (d : 76 ≡ 73). omega arith)

    passed_split : has_back n.back ≡ true → total f (ids (leaves n 0 h)) ≡ total f (lost h) + (total f (ids (admissions 1 h)) + total f (dropped_back h))
    passed_split e =
        ap (λ (b : Bool). total f (ids (entries (λ m. is_l m || cond b (is_p m || is_q m) (comes_back m)) h))) e
        ∙ entries-either f is_l (λ m. is_p m || is_q m)
        (λ m l r. ⊎_elim (letters 76 80 (λ (d : 76 ≡ 80). omega arith) m l) (letters 76 81 (λ (d : 76 ≡ 81). omega arith) m l) (either (is_p m) (is_q m) r)) h
        ∙ ap (λ (c : ℕ). total f (lost h) + c) (entries-either f is_p is_q (letters 80 81 (λ (d : 80 ≡ 81). omega arith)) h)

    second_split : total f (ids (leaves n 1 h)) ≡ total f (lost_back h) + (total f (counted h) + (total f (old h) + total f (ignored h)))
    second_split = then_back 78 (λ (d : 78 ≡ 67). omega arith) (λ (d : 78 ≡ 79). omega arith) (λ (d : 78 ≡ 73). omega arith)

    module _ (s : Simulation) where
      -- the eleven places one by one
      abbrev places : ℕ
      places =
          total f (dropped_full h)
          + (total f (waiting s 0)
          + (total f (on_line s 0)
          + (total f (lost h)
          + (total f (if_back n (dropped_back h))
          + (total f (if_back n (waiting s 1))
          + (total f (if_back n (on_line s 1))
          + (total f (if_back n (lost_back h)) + (total f (counted h) + (total f (old h) + total f (ignored h))))))))))

      pub everywhere_split : total f (everywhere n h s) ≡ places
      everywhere_split =
          more (dropped_full h) _
          (more (waiting s 0) _
          (more (on_line s 0) _
          (more (lost h) _
          (more (if_back n (dropped_back h)) _
          (more (if_back n (waiting s 1)) _ (more (if_back n (on_line s 1)) _ (more (if_back n (lost_back h)) _ (more (counted h) _ (total-append f (old h) (ignored h))))))))))
        where
          more : (xs ys : List PacketId) {c : ℕ} → total f ys ≡ c → total f (xs ++ ys) ≡ total f xs + c
          more xs ys e = total-append f xs ys ∙ ap (λ (c : ℕ). total f xs + c) e

      module _ (admitted : (l : ℕ) → l < line_count n → ids (admissions l h) ≡ ids (starts n l h) ++ map (λ x. id_of x.packet) (waiting_items s l))
          (started : (l : ℕ) → l < line_count n → ids (starts n l h) ≡ ids (leaves n l h) ++ map (λ x. id_of x.packet) (on_line_items s l)) where
        -- what was admitted to a line has started or waits, and what started has left or is on it
        begun : (l : ℕ) → l < line_count n → total f (ids (admissions l h)) ≡ total f (ids (starts n l h)) + total f (waiting s l)
        begun l g =
            ap (total f) (admitted l g ∙ ap (λ (ps : List PacketId). ids (starts n l h) ++ ps) (sym (map-map id_of (λ x. x.packet) (waiting_items s l))))
            ∙ total-append f (ids (starts n l h)) (waiting s l)

        gone : (l : ℕ) → l < line_count n → total f (ids (starts n l h)) ≡ total f (ids (leaves n l h)) + total f (on_line s l)
        gone l g =
            ap (total f) (started l g ∙ ap (λ (ps : List PacketId). ids (leaves n l h) ++ ps) (sym (map-map id_of (λ x. x.packet) (on_line_items s l))))
            ∙ total-append f (ids (leaves n l h)) (on_line s l)

        -- every packet sent is in one of the places
        pub partition : total f (ids (sends h)) ≡ places
        partition = by (has_back n.back) refl
          where
            by : (b : Bool) → has_back n.back ≡ b → total f (ids (sends h)) ≡ places
            by true e =
                let there = second_there (has_back n.back) e in
                let first = first-there (has_back n.back) in
                let a = begun 0 first in
                let b = gone 0 first in
                let c = begun 1 there in
                let d = gone 1 there in
                let split = passed_split e in
                rw e (omega (arith, sends_split, a, b, c, d, split, second_split))
            by false e =
                let first = first-there (has_back n.back) in
                let a = begun 0 first in
                let b = gone 0 first in
                let split = first_split e in
                rw e (omega (arith, sends_split, a, b, split))

account : (n : RemyNetwork) (h : List TickRecord) (s : Simulation) → ListsAt n h s → Account n h s
account n h s k =
    let all : (f : PacketId → ℕ) → total f (ids (sends h)) ≡ places f h n s = λ f. partition f h n s (λ l g. (k.line l g).books.starts) (λ l g. (k.line l g).books.leaves) in
    record {
      network = k.network;
      sent = λ i below. k.sends i ∙ sends_split (of_sender i) h;
      books = λ i below. let each = all (of_sender i) in omega (arith, k.sends i, each);
      once = λ i m. everywhere_split (is_packet i m) h n s ∙ sym (all (is_packet i m)) ∙ k.once i m;
      meter = k.meter;
      line = λ l g. line_account (k.line l g);
    }

-- Nobody who builds an accepted network and ticks it can mislay a packet or meet one twice.
pub demand3 : Demand3
demand3 n s fresh cs = account n (history cs s) (after cs s) (calls_keep n cs [] s (fresh_keeps n s fresh)).lists
