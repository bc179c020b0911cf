-- The records of a run, batch by batch. Assumes nothing.
use Rattle.std.proofs.Common.{Option, Some, None}
use Prim.Native.Nat.{ℕ, zero, suc, ◌+◌, ◌-◌, ◌*◌, ◌≤◌, ◌<◌}
use native.Mathlib.Nat.{zero-add, add-zero}
use native.Mathlib.Numerals.{add-one}
use native.Mathlib.Omega.{arith}
use mathlib.Core.Bool.{Bool, true, false, cond}
use mathlib.Core.List.{List, [], ◌∷◌, ◌++◌, map}
use mathlib.Core.Logic.{inl, inr}
use mathlib.Core.Path.{◌≡◌, refl, sym, ap, ◌∙◌, subst}
use lib.Dec.{ltb}
use lib.ListN.{length, take, drop, get_or, length-map, drop_of_length-le}
use lib.Seq.{length-take-le, drop-cons, get_or-take}
use borrow.Author.Tests.{ltb-true, ltb-false, lt-ltb, le-ltb}
use Rattle.remy.specs.declared.simulation.Simulation.{Simulation}
use Rattle.remy.specs.declared.simulation.Noted.{Noted}
use Rattle.remy.specs.declared.simulation.Ran.{Ran}
use Rattle.remy.specs.declared.simulation.Recorded.{Recorded}
use Rattle.remy.specs.Tick.{tick_of}
use Rattle.remy.specs.Run.{run_of, one_more, noted_of, notes_of, batch_of, records_of}
use Rattle.remy.specs.Joins.{Ended}
use Rattle.remy.proofs.Joins.{runs_join, tick_by_tick}
use Rattle.remy.proofs.Records.{notes_done, run_most, batch-within, first_notes}
use Rattle.remy.proofs.Steps.{cond_elim}
use Rattle.printer.specs.Printing.{PutIs}
use Rattle.lines.specs.Lines.{record_line, record_lines}
use Rattle.lines.proofs.Joins.{record_lines_join}
use Rattle.report.specs.declared.run.Stage.{Stage}
use Rattle.filling.specs.declared.Filled.{Filled}
use Rattle.filling.specs.declared.Batch.{Batch}
use Rattle.filling.specs.Filling.{Puts, puts, none_left, PutBy, report_at, end_after, run_after, rest_at, filled_by, batch_by, noted_line}
use Rattle.filling.proofs.Putting.{further, puts_none, puts_then, puts-short, puts-count, put_further, put_as, put_line, put_full, put_none, filled_known, filled_as, From}

-- ---- how many ticks of a run are done

-- fewer ticks than those that are done are all done
pub run_part : (k n : ℕ) (s : Simulation) → k ≤ (run_of n s).done → (run_of k s).done ≡ k
unfolding run_of
run_part zero n s h = refl
run_part (suc k) zero s h = absurd (omega (arith, h))
run_part (suc k) (suc n) s h = by (tick_of s).moved h (run_part k n (tick_of s).simulation)
  where
    next : Simulation
    next = (tick_of s).simulation

    none : Ran
    none = record { done = 0; number = (tick_of s).number; simulation = next }

    by : (b : Bool) → suc k ≤ (cond b (one_more (run_of n next)) none).done → (k ≤ (run_of n next).done → (run_of k next).done ≡ k) → (cond b (one_more (run_of k next)) none).done ≡ suc k
    by true less more = let e = more (omega (arith, less)) in omega (arith, e)
    by false less more = absurd (omega (arith, less))

-- all of them
module _ (m : ℕ) (s : Simulation) (e : (run_of m s).done ≡ m) where
  zero_number : (run_of m s).number ≡ 0
  zero_number = zeros (tick_by_tick m s).ended
    where
      zeros : Ended m (run_of m s) → (run_of m s).number ≡ 0
      zeros (inl all) = all.1
      zeros (inr some) = let d = some.0 in absurd (omega (arith, d, e))

  done_then : (j : ℕ) → (run_of (m + j) s).done ≡ m + (run_of j (run_of m s).simulation).done
  done_then j = let d = (runs_join m j s).done in omega (arith, d, e)

  number_then : (j : ℕ) → (run_of (m + j) s).number ≡ (run_of j (run_of m s).simulation).number
  unfolding run_of
  number_then zero = rw (add-zero m) zero_number
  number_then (suc j) = sym ((runs_join m (suc j) s).number (omega arith))

  -- a run of more after its first m lines and k others
  run_after_then : (j k : ℕ) → run_after (m + k) (m + j) s ≡ run_after k j (run_of m s).simulation
  unfolding run_after
  run_after_then j k = rw (done_then j, number_then j, sym (runs_join m j s).state, sym (runs_join m k s).state) (by (ltb k last.done) refl)
    where
      next : Simulation
      next = (run_of m s).simulation

      last : Ran
      last = run_of j next

      by : (b : Bool) → ltb k last.done ≡ b
          → cond (ltb (m + k) (m + last.done)) (report_at (Stage.Ticks (m + j - (m + k))) (run_of k next).simulation) (end_after (m + k - (m + last.done)) last.number last.simulation)
          ≡ cond (ltb k last.done) (report_at (Stage.Ticks (j - k)) (run_of k next).simulation) (end_after (k - last.done) last.number last.simulation)
      by true e =
          let below : k < last.done = ltb-true _ _ e in
          let less : m + k < m + last.done = omega (arith, below) in
          let ticks : m + j - (m + k) ≡ j - k = omega arith in
          rw (e, lt-ltb _ _ less, ticks)
      by false e =
          let above : last.done ≤ k = ltb-false _ _ e in
          let more : m + last.done ≤ m + k = omega (arith, above) in
          let lines : m + k - (m + last.done) ≡ k - last.done = omega arith in
          rw (e, le-ltb _ _ more, lines)

-- not all of them: more ticks change nothing
abbrev Early : ℕ → ℕ → Simulation → Type 0
Early m j s = (run_of (m + j) s ≡ run_of m s) × (record_lines (m + j) s ≡ record_lines m s)

run_early : (m j : ℕ) (s : Simulation) → (run_of m s).done < m → Early m j s
unfolding run_of record_lines
run_early zero j s h = absurd (omega (arith, h))
run_early (suc m) j s h = by (tick_of s).moved refl h (run_early m j (tick_of s).simulation)
  where
    later : suc m + j ≡ suc (m + j)
    later = omega arith

    by : (b : Bool) → (tick_of s).moved ≡ b
        → (cond b (one_more (run_of m (tick_of s).simulation)) (record { done = 0; number = (tick_of s).number; simulation = (tick_of s).simulation })).done < suc m
        → ((run_of m (tick_of s).simulation).done < m → Early m j (tick_of s).simulation) → Early (suc m) j s
    by true e less more =
        let next = more (omega (arith, less)) in
        (rw (later, e) (ap one_more next.0), rw (later, e) (ap (λ (l : List (List ℕ)). record_line (tick_of s).note ∷ l) next.1))
    by false e less more = (rw (later, e), rw (later, e))

-- ---- the lines of records

notes_lines : (n : ℕ) (s : Simulation) → map noted_line (notes_of n s) ≡ record_lines n s
unfolding notes_of record_lines
notes_lines zero s = refl
notes_lines (suc n) s = by (tick_of s).moved (notes_lines n (tick_of s).simulation)
  where
    next : Simulation
    next = (tick_of s).simulation

    by : (b : Bool) → map noted_line (notes_of n next) ≡ record_lines n next
        → map noted_line (cond b (noted_of (tick_of s).note next ∷ notes_of n next) []) ≡ cond b (record_line (tick_of s).note ∷ record_lines n next) []
    by true h = ap (λ (l : List (List ℕ)). record_line (tick_of s).note ∷ l) h
    by false h = refl

pub records_done : (n : ℕ) (s : Simulation) → length (record_lines n s) ≡ (run_of n s).done
records_done n s = sym (ap length (notes_lines n s)) ∙ length-map (notes_of n s) noted_line ∙ notes_done n s

-- ---- the records of a batch, one by one

module _ (done : ℕ) (records : List Noted) (i : ℕ) (few : done ≤ length records) where
  notes_long : length (take done records) ≡ done
  notes_long = length-take-le done records few

  module _ (z : Noted) (d : List ℕ) (at : ℕ) (x : Option ℕ) (mid : List ℕ) (w : PutIs (record_line (get_or records i z).note) d at x mid) (h : i < done) where
    notes_more : map noted_line (drop i (take done records)) ≡ record_line (get_or records i z).note ∷ map noted_line (drop (i + 1) (take done records))
    notes_more =
        let long = notes_long in
        let below : i < length (take done records) = omega (arith, long, h) in
        rw (drop-cons (take done records) i z below, get_or-take done records i z h, add-one i) refl

    pub note_goes : (next : ℕ) → x ≡ Some next
        → From (λ (p : Puts). batch_by (further i p)) (map noted_line (drop i (take done records))) d at
        (λ (p : Puts). batch_by (further (i + 1) p)) (map noted_line (drop (i + 1) (take done records))) mid next
    note_goes next e r after v =
        rw notes_more
        (put_line (λ (p : Puts). batch_by (further i p)) _ _ d at x mid w next e r after
        (put_as (λ (p : Puts). batch_by (further (i + 1) p)) _ mid next (λ (p : Puts). batch_by (further i (further 1 p)))
        (λ (p : Puts). let more : i + 1 + p.count ≡ i + (1 + p.count) = omega arith in ap (λ (k : ℕ). record { count = k; at = p.at }) more) r after v))

    pub note_full : x ≡ None → PutBy (λ (p : Puts). batch_by (further i p)) (map noted_line (drop i (take done records))) d at (record { count = i; at = at }) mid
    note_full e = rw notes_more (put_full (λ (p : Puts). batch_by (further i p)) _ _ d at x mid w e _ (rw (add-zero i)))

  pub notes_end : done ≤ i → (d : List ℕ) (at : ℕ) → PutBy (λ (p : Puts). batch_by (further i p)) (map noted_line (drop i (take done records))) d at (record { count = i; at = at }) d
  notes_end h d at =
      let long = notes_long in
      let none : drop i (take done records) ≡ [] = drop_of_length-le (take done records) {i = i} (omega (arith, long, h)) in
      put_none (λ (p : Puts). batch_by (further i p)) _ d at (ap (map noted_line) none) _ (rw (add-zero i))

pub notes_all : (done : ℕ) (records : List Noted) (d : List ℕ) (at : ℕ)
    → From batch_by (map noted_line (take done records)) d at (λ (p : Puts). batch_by (further 0 p)) (map noted_line (drop 0 (take done records))) d at
notes_all done records d at =
    put_as (λ (p : Puts). batch_by (further 0 p)) (map noted_line (take done records)) d at batch_by (λ (p : Puts). let all = zero-add p.count in rw all)

-- ---- a batch of those that are left

module _ (left : ℕ) where
  pub batch_some : 0 < left → 0 < batch_of left
  batch_some some = cond_elim (λ (m : ℕ). 0 < m) (ltb left 256) left 256 (λ e. some) (λ e. omega arith)

no_lines : (ls : List (List ℕ)) → length ls ≤ 0 → ls ≡ []
no_lines [] h = refl
no_lines (l ∷ ls) h = absurd (omega (arith, h))

some_lines : (a b : List (List ℕ)) → 0 < length a → (none_left a ≡ false) × (none_left (a ++ b) ≡ false)
some_lines [] b h = absurd (omega (arith, h))
some_lines (l ∷ ls) b h = (refl, refl)

module _ (left : ℕ) (s : Simulation) (b : Recorded) (q : b ≡ records_of left s) where
  done_is : b.done ≡ (run_of (batch_of left) s).done
  unfolding records_of
  done_is = ap (λ (x : Recorded). x.done) q

  number_is : b.number ≡ (run_of (batch_of left) s).number
  unfolding records_of
  number_is = ap (λ (x : Recorded). x.number) q

  simulation_is : b.simulation ≡ (run_of (batch_of left) s).simulation
  unfolding records_of
  simulation_is = ap (λ (x : Recorded). x.simulation) q

  pub batch_few : (b.done ≤ left) × (b.done ≤ 256)
  batch_few =
      let most = run_most (batch_of left) s in
      let within = batch-within left in
      let e = done_is in (omega (arith, most, within, e), omega (arith, most, within, e))

  batch-lines : map noted_line (take b.done b.records) ≡ record_lines (batch_of left) s
  batch-lines = rw (q, first_notes left s) (notes_lines (batch_of left) s)

  module _ (d : List ℕ) (at : ℕ) (r : Batch) (mid : List ℕ) (w : PutBy batch_by (map noted_line (take b.done b.records)) d at r mid) where
    this : PutBy batch_by (record_lines (batch_of left) s) d at r mid
    this = subst (λ (ls : List (List ℕ)). PutBy batch_by ls d at r mid) batch-lines w

    -- what the lines of the batch put
    known : (c : ℕ) (rest : List (List ℕ)) → r.count ≡ c → (puts (record_lines (batch_of left) s) d at).rest ≡ rest
        → puts (record_lines (batch_of left) s) d at ≡ record { at = r.at; count = c; out = mid; rest = rest }
    known c rest e f = rw (← e, this.answer, this.bytes, f) refl

    count_is : r.count + length (puts (record_lines (batch_of left) s) d at).rest ≡ b.done
    count_is =
        let all = puts-count (record_lines (batch_of left) s) d at in
        let long = records_done (batch_of left) s in
        let count : r.count ≡ (puts (record_lines (batch_of left) s) d at).count = ap (λ (x : Batch). x.count) this.answer in
        let e = done_is in omega (arith, all, long, count, e)

    short_is : r.at ≤ at + 128 * r.count
    short_is = rw this.answer this.short

    -- all are put, and the batch is whole: the report goes on with the ticks that are left
    pub batch_goes : b.done ≤ r.count → batch_of left ≤ b.done → (x : Filled) (after : List ℕ)
        → PutBy (filled_by (rest_at b.simulation (Stage.Ticks (left - b.done)))) (record_lines (left - b.done) b.simulation) mid r.at x after
        → PutBy (filled_by (rest_at s (Stage.Ticks left))) (record_lines left s) d at x after
    batch_goes put whole x after v =
        let m : ℕ = batch_of left in
        let next : Simulation = (run_of m s).simulation in
        let within = batch-within left in
        let most = run_most m s in
        let done : b.done ≡ m = let e = done_is in omega (arith, e, most, whole) in
        let moved : (run_of m s).done ≡ m = sym done_is ∙ done in
        let both : left ≡ m + (left - m) = omega (arith, within) in
        let count : r.count ≡ m = let k = count_is in omega (arith, k, put, done) in
        let none = let k = count_is in no_lines (puts (record_lines m s) d at).rest (omega (arith, k, put)) in
        let later : puts (record_lines left s) d at ≡ further m (puts (record_lines (left - m) next) mid r.at) =
        ap (λ (n : ℕ). puts (record_lines n s) d at) both
        ∙ ap (λ (ls : List (List ℕ)). puts ls d at) (record_lines_join m (left - m) s)
        ∙ puts_then (record_lines (left - m) next) (record_lines m s) d at none
        ∙ ap (λ (p : Puts). further p.count (puts (record_lines (left - m) next) p.out p.at)) (known m [] count none) in
        let rest : (k : ℕ) → run_after k (left - m) next ≡ run_after (m + k) left s = λ k. sym (ap (λ (n : ℕ). run_after (m + k) n s) both ∙ run_after_then m s moved (left - m) k) in
        let short = short_is in
        put_further (filled_by (rest_at s (Stage.Ticks left))) (record_lines left s) d at m (record_lines (left - m) next) mid r.at later (omega (arith, short, count)) x after
        (filled_as (λ (k : ℕ). run_after k (left - m) next) (λ (k : ℕ). run_after (m + k) left s) (record_lines (left - m) next) mid r.at x after rest
        (subst (λ (n : ℕ). PutBy (filled_by (rest_at next (Stage.Ticks (left - n)))) (record_lines (left - n) next) mid r.at x after) done
        (subst (λ (t : Simulation). PutBy (filled_by (rest_at t (Stage.Ticks (left - b.done)))) (record_lines (left - b.done) t) mid r.at x after) simulation_is v)))

    -- all are put, and a tick did not move: the run ends
    pub batch-stops : b.done ≤ r.count → b.done < batch_of left
        → PutBy (filled_by (rest_at s (Stage.Ticks left))) (record_lines left s) d at (record { at = r.at; done = true; report = report_at (Stage.Stop b.number) b.simulation }) mid
    unfolding run_after
    batch-stops put early =
        let m : ℕ = batch_of left in
        let within = batch-within left in
        let both : left ≡ m + (left - m) = omega (arith, within) in
        let same = run_early m (left - m) s (let e = done_is in omega (arith, e, early)) in
        let count : r.count ≡ b.done = let k = count_is in omega (arith, k, put) in
        let none = let k = count_is in no_lines (puts (record_lines m s) d at).rest (omega (arith, k, put)) in
        let run : run_of left s ≡ run_of m s = ap (λ (n : ℕ). run_of n s) both ∙ same.0 in
        let lines : record_lines left s ≡ record_lines m s = ap (λ (n : ℕ). record_lines n s) both ∙ same.1 in
        let put_all : puts (record_lines left s) d at ≡ record { at = r.at; count = b.done; out = mid; rest = [] } =
        ap (λ (ls : List (List ℕ)). puts ls d at) lines ∙ known b.done [] count none in
        let zero_left : b.done - b.done ≡ 0 = omega arith in
        let short = short_is in
        filled_known (rest_at s (Stage.Ticks left)) (record_lines left s) d at _ put_all (omega (arith, short, count)) true refl _
        (rw (run, ← done_is, ← number_is, ← simulation_is, le-ltb b.done b.done (omega arith), zero_left) refl)

    -- not all are put: the report goes on with the first of the others
    pub batch-waits : r.count < b.done → (again : Ran) → again ≡ run_of r.count s
        → PutBy (filled_by (rest_at s (Stage.Ticks left))) (record_lines left s) d at (record { at = r.at; done = false; report = report_at (Stage.Ticks (left - r.count)) again.simulation }) mid
    unfolding run_after
    batch-waits less again e =
        let m : ℕ = batch_of left in
        let next : Simulation = (run_of m s).simulation in
        let within = batch-within left in
        let both : left ≡ m + (left - m) = omega (arith, within) in
        let lines : record_lines left s ≡ record_lines m s ++ record_lines (left - m) next = ap (λ (n : ℕ). record_lines n s) both ∙ record_lines_join m (left - m) s in
        let rest : List (List ℕ) = (puts (record_lines m s) d at).rest in
        let some = let k = count_is in some_lines rest (record_lines (left - m) next) (omega (arith, k, less)) in
        let put : puts (record_lines left s) d at ≡ record { at = r.at; count = r.count; out = mid; rest = rest ++ record_lines (left - m) next } =
        ap (λ (ls : List (List ℕ)). puts ls d at) lines
        ∙ puts-short (record_lines (left - m) next) (record_lines m s) d at some.0
        ∙ ap (λ (p : Puts). record { at = p.at; count = p.count; out = p.out; rest = p.rest ++ record_lines (left - m) next }) (known r.count rest refl refl) in
        let joined = (runs_join m (left - m) s).done in
        let whole : (run_of left s).done ≡ (run_of (m + (left - m)) s).done = ap (λ (n : ℕ). (run_of n s).done) both in
        let below : r.count < (run_of left s).done = let k = done_is in omega (arith, k, less, joined, whole) in
        filled_known (rest_at s (Stage.Ticks left)) (record_lines left s) d at _ put short_is false (sym some.1) _ (rw (lt-ltb _ _ below, e) refl)

-- no ticks are left
pub records_end : (left : ℕ) (s : Simulation) (d : List ℕ) (at : ℕ) → left ≡ 0
    → PutBy (filled_by (rest_at s (Stage.Ticks left))) (record_lines left s) d at (record { at = at; done = true; report = report_at (Stage.Stop 0) s }) d
unfolding record_lines run_of run_after
records_end left s d at e =
    rw e (filled_known (rest_at s (Stage.Ticks 0)) [] d at (record { at = at; count = 0; out = d; rest = [] }) (puts_none d at) (omega arith) true refl (report_at (Stage.Stop 0) s) refl)
