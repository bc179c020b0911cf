-- The flows, the end of a run and a refusal, line by line; the records, then the end; a whole report. Assumes nothing.
use Rattle.std.proofs.Common.{Option, Some, None}
use Prim.Native.Nat.{ℕ, suc, ◌+◌, ◌-◌, ◌≤◌, ◌<◌}
use native.Mathlib.Nat.{zero-add, add-zero}
use native.Mathlib.Omega.{arith}
use mathlib.Core.Bool.{Bool, true, false, true≢false}
use mathlib.Core.List.{List, [], ◌∷◌, ◌++◌}
use mathlib.Core.Path.{◌≡◌, refl, sym, ap, ◌∙◌, subst}
use lib.Dec.{ltb}
use lib.ListN.{length}
use borrow.Author.Tests.{ltb-true, lt-ltb, le-ltb}
use Rattle.quantities.specs.declared.time.Time.{Time}
use Rattle.remy.specs.declared.simulation.Simulation.{Simulation}
use Rattle.remy.specs.declared.simulation.Ran.{Ran}
use Rattle.remy.specs.State.{sender_at, meter_at}
use Rattle.remy.specs.Run.{run_of}
use Rattle.remy.proofs.Steps.{cond_elim}
use Rattle.printer.specs.Printing.{PutIs, refused_text}
use Rattle.lines.specs.Lines.{record_lines, stop_line, flow_at, flow_line, flow_lines, flow_count, flows_from, end_lines, run_lines}
use Rattle.report.specs.declared.run.Stage.{Stage}
use Rattle.report.specs.declared.run.Report.{Report}
use Rattle.report.specs.Report.{left_at, left_of}
use Rattle.filling.specs.declared.Filled.{Filled}
use Rattle.filling.specs.Filling.{puts, none_left, PutBy, report_at, flows_at, end_after, run_after, rest_at, rest_of, end_at, end_of, filled_by, FilledIs, AllPut}
use Rattle.filling.proofs.Putting.{further, put_line, put_full, put_none, put_known, put_further, filled_as, puts_then, puts-short, puts-count}
use Rattle.filling.proofs.Running.{records_done}

-- ---- the flows

pub flow-count-le : (s : Simulation) → flow_count s ≤ 16
unfolding flow_count
flow-count-le s = cond_elim (λ (n : ℕ). n ≤ 16) (ltb s.network.senders 16) s.network.senders 16 (λ e. let h = ltb-true s.network.senders 16 e in omega (arith, h)) (λ e. omega arith)

module _ (s : Simulation) (i : ℕ) where
  flows_more : i < flow_count s → flows_from s i ≡ flow_line s i ∷ flows_from s (i + 1)
  unfolding flow_lines
  flows_more h =
      let e : flow_count s - i ≡ suc (flow_count s - (i + 1)) = omega arith in
      ap (λ (k : ℕ). flow_lines s k i) e

  pub flows_none : flow_count s ≤ i → flows_from s i ≡ []
  unfolding flow_lines
  flows_none h =
      let e : flow_count s - i ≡ 0 = omega arith in
      ap (λ (k : ℕ). flow_lines s k i) e

  module _ (d : List ℕ) (at : ℕ) where
    module _ (clock : Time) (ec : clock ≡ s.head.clock) (x : Option ℕ) (mid : List ℕ)
        (w : PutIs (flow_at i (sender_at s i) (meter_at s i) clock) d at x mid) (h : i < flow_count s) where
      this : PutIs (flow_line s i) d at x mid
      this = subst (λ (c : Time). PutIs (flow_at i (sender_at s i) (meter_at s i) c) d at x mid) ec w

      pub flow_goes : (next : ℕ) → x ≡ Some next → (r : Filled) (after : List ℕ)
          → PutBy (filled_by (rest_at s (Stage.Flows (i + 1)))) (flows_from s (i + 1)) mid next r after → PutBy (filled_by (rest_at s (Stage.Flows i))) (flows_from s i) d at r after
      flow_goes next e r after v =
          rw (flows_more h)
          (put_line (filled_by (rest_at s (Stage.Flows i))) _ _ d at x mid this next e r after
          (filled_as (rest_at s (Stage.Flows (i + 1))) (λ (k : ℕ). rest_at s (Stage.Flows i) (1 + k)) (flows_from s (i + 1)) mid next r after
          (λ (k : ℕ). let more : i + 1 + k ≡ i + (1 + k) = omega arith in ap (λ (j : ℕ). flows_at j s) more) v))

      pub flow-full : x ≡ None → PutBy (filled_by (rest_at s (Stage.Flows i))) (flows_from s i) d at (record { at = at; done = false; report = report_at (Stage.Flows i) s }) mid
      unfolding flows_at
      flow-full e = rw (flows_more h) (put_full (filled_by (rest_at s (Stage.Flows i))) _ _ d at x mid this e _ (rw (add-zero i, lt-ltb i (flow_count s) h)))

    pub flows_done : flow_count s ≤ i → PutBy (filled_by (rest_at s (Stage.Flows i))) (flows_from s i) d at (record { at = at; done = true; report = report_at Stage.Done s }) d
    unfolding flows_at
    flows_done h = put_none (filled_by (rest_at s (Stage.Flows i))) (flows_from s i) d at (flows_none h) _ (rw (add-zero i, le-ltb i (flow_count s) h))

-- ---- the end

module _ (number : ℕ) (s : Simulation) (d : List ℕ) (at : ℕ) (x : Option ℕ) (mid : List ℕ) (w : PutIs (stop_line number s) d at x mid) where
  pub end_goes : (next : ℕ) → x ≡ Some next → (r : Filled) (after : List ℕ)
      → PutBy (filled_by (rest_at s (Stage.Flows 0))) (flows_from s 0) mid next r after → PutBy (filled_by (rest_at s (Stage.Stop number))) (end_lines number s) d at r after
  unfolding end_lines
  end_goes next e r after v =
      put_line (filled_by (rest_at s (Stage.Stop number))) _ _ d at x mid w next e r after
      (filled_as (rest_at s (Stage.Flows 0)) (λ (k : ℕ). rest_at s (Stage.Stop number) (1 + k)) (flows_from s 0) mid next r after
      (λ (k : ℕ). let one : 1 + k ≡ suc k = omega arith in rw (zero-add k, one)) v)

  pub end_full : x ≡ None → PutBy (filled_by (rest_at s (Stage.Stop number))) (end_lines number s) d at (record { at = at; done = false; report = report_at (Stage.Stop number) s }) mid
  unfolding end_lines
  end_full e = put_full (filled_by (rest_at s (Stage.Stop number))) _ _ d at x mid w e _ refl

-- ---- a refusal

module _ (number : ℕ) (s : Simulation) (d : List ℕ) (at : ℕ) (x : Option ℕ) (mid : List ℕ) (w : PutIs (refused_text number) d at x mid) where
  pub refused_put : (next : ℕ) → x ≡ Some next
      → PutBy (filled_by (rest_at s (Stage.Refused number))) (refused_text number ∷ []) d at (record { at = next; done = true; report = report_at Stage.Done s }) mid
  refused_put next e = put_line (filled_by (rest_at s (Stage.Refused number))) _ [] d at x mid w next e _ mid (put_none _ [] mid next refl _ refl)

  pub refused_full : x ≡ None
      → PutBy (filled_by (rest_at s (Stage.Refused number))) (refused_text number ∷ []) d at (record { at = at; done = false; report = report_at (Stage.Refused number) s }) mid
  refused_full e = put_full (filled_by (rest_at s (Stage.Refused number))) _ [] d at x mid w e _ refl

-- ---- the records, then the end

some_more : (a b : List (List ℕ)) → none_left a ≡ false → none_left (a ++ b) ≡ false
some_more [] b e = absurd (true≢false e)
some_more (l ∷ ls) b e = refl

some_long : (a : List (List ℕ)) → none_left a ≡ false → 0 < length a
some_long [] e = absurd (true≢false e)
some_long (l ∷ ls) e = omega arith

abbrev is_stop : Stage → Bool
is_stop (Stage.Refused number) = false
is_stop (Stage.Ticks n) = false
is_stop (Stage.Stop number) = true
is_stop (Stage.Flows i) = false
is_stop Stage.Done = false

module _ (n : ℕ) (s : Simulation) where
  -- after the records and k more lines
  run_after_end : (k : ℕ) → run_after ((run_of n s).done + k) n s ≡ end_after k (run_of n s).number (run_of n s).simulation
  unfolding run_after
  run_after_end k =
      let lines : (run_of n s).done + k - (run_of n s).done ≡ k = omega arith in
      rw (le-ltb ((run_of n s).done + k) (run_of n s).done (omega arith), lines)

  -- before the last record, where the end is not yet come to
  run_after_less : (k : ℕ) → k < (run_of n s).done → is_stop (run_after k n s).stage ≡ false
  unfolding run_after
  run_after_less k h = rw (lt-ltb k (run_of n s).done h)

  module _ (d : List ℕ) (f : Filled) (mid : List ℕ) (w : PutBy (filled_by (rest_at s (Stage.Ticks n))) (record_lines n s) d 0 f mid) where
    count_is : (puts (record_lines n s) d 0).count + length (puts (record_lines n s) d 0).rest ≡ (run_of n s).done
    count_is = puts-count (record_lines n s) d 0 ∙ records_done n s

    -- all records are put
    module _ (none : (puts (record_lines n s) d 0).rest ≡ []) where
      all_done : (puts (record_lines n s) d 0).count ≡ (run_of n s).done + 0
      all_done = let k = count_is in let l = ap length none in omega (arith, k, l)

      stopped : f.report ≡ report_at (Stage.Stop (run_of n s).number) (run_of n s).simulation
      stopped = ap (λ (x : Filled). x.report) w.answer ∙ ap (λ (k : ℕ). run_after k n s) all_done ∙ run_after_end 0

      run_end : (r : Filled) (after : List ℕ)
          → PutBy (filled_by (rest_at (run_of n s).simulation (Stage.Stop (run_of n s).number))) (end_lines (run_of n s).number (run_of n s).simulation) mid f.at r after
          → PutBy (filled_by (rest_at s (Stage.Ticks n))) (run_lines n s) d 0 r after
      unfolding run_lines
      run_end r after v =
          let p = puts (record_lines n s) d 0 in
          let end : List (List ℕ) = end_lines (run_of n s).number (run_of n s).simulation in
          let done : p.count ≡ (run_of n s).done = let h = all_done in omega (arith, h) in
          let later : puts (record_lines n s ++ end) d 0 ≡ further (run_of n s).done (puts end mid f.at) =
          puts_then end (record_lines n s) d 0 none ∙ rw (done, w.bytes, w.answer) in
          let short = w.short in
          let place : f.at ≡ p.at = ap (λ (x : Filled). x.at) w.answer in
          put_further (filled_by (rest_at s (Stage.Ticks n))) _ d 0 (run_of n s).done end mid f.at later (omega (arith, short, place, done)) r after
          (filled_as _ (λ (k : ℕ). run_after ((run_of n s).done + k) n s) end mid f.at r after (λ (k : ℕ). sym (run_after_end k)) v)

    -- some are left
    run_left : none_left (puts (record_lines n s) d 0).rest ≡ false → PutBy (filled_by (rest_at s (Stage.Ticks n))) (run_lines n s) d 0 f mid
    unfolding run_lines
    run_left some =
        let p = puts (record_lines n s) d 0 in
        let end : List (List ℕ) = end_lines (run_of n s).number (run_of n s).simulation in
        let all = puts-short end (record_lines n s) d 0 some in
        rw w.bytes (put_known (filled_by (rest_at s (Stage.Ticks n))) _ d 0 _ all w.short f (w.answer ∙ rw (some, some_more p.rest end some)))

    some_less : none_left (puts (record_lines n s) d 0).rest ≡ false → is_stop f.report.stage ≡ false
    some_less some =
        let k = count_is in
        let more = some_long (puts (record_lines n s) d 0).rest some in
        ap (λ (x : Filled). is_stop x.report.stage) w.answer ∙ run_after_less (puts (record_lines n s) d 0).count (omega (arith, k, more))

    pub run_ends : (number : ℕ) → f.report.stage ≡ Stage.Stop number → (r : Filled) (after : List ℕ)
        → PutBy (filled_by (rest_at f.report.simulation (Stage.Stop number))) (end_lines number f.report.simulation) mid f.at r after
        → PutBy (filled_by (rest_at s (Stage.Ticks n))) (run_lines n s) d 0 r after
    run_ends number e r after v = ends (puts (record_lines n s) d 0).rest refl
      where
        ends : (rest : List (List ℕ)) → (puts (record_lines n s) d 0).rest ≡ rest → PutBy (filled_by (rest_at s (Stage.Ticks n))) (run_lines n s) d 0 r after
        ends [] none =
            let last = stopped none in
            let same : Stage.Stop number ≡ Stage.Stop (run_of n s).number = sym e ∙ ap (λ (x : Report). x.stage) last in
            let number_is : number ≡ (run_of n s).number = cc in
            run_end none r after
            (subst (λ (m : ℕ). PutBy (filled_by (rest_at (run_of n s).simulation (Stage.Stop m))) (end_lines m (run_of n s).simulation) mid f.at r after) number_is
            (subst (λ (m : Simulation). PutBy (filled_by (rest_at m (Stage.Stop number))) (end_lines number m) mid f.at r after) (ap (λ (x : Report). x.simulation) last) v))
        ends (l ∷ ls) some = absurd (true≢false (ap is_stop (sym e) ∙ some_less (ap none_left some)))

    -- the records did not end, so that some of them are left
    pub run_waits : ((number : ℕ) → f.report.stage ≡ Stage.Stop number → ⊥) → PutBy (filled_by (rest_at s (Stage.Ticks n))) (run_lines n s) d 0 f mid
    run_waits other = waits (puts (record_lines n s) d 0).rest refl
      where
        waits : (rest : List (List ℕ)) → (puts (record_lines n s) d 0).rest ≡ rest → PutBy (filled_by (rest_at s (Stage.Ticks n))) (run_lines n s) d 0 f mid
        waits [] none = absurd (other (run_of n s).number (ap (λ (x : Report). x.stage) (stopped none)))
        waits (l ∷ ls) some = run_left (ap none_left some)

-- ---- a report

module _ (report : Report) (d : List ℕ) where
  -- by its stage
  pub at_stage : (stage : Stage) (r : Filled) (after : List ℕ) → report.stage ≡ stage
      → PutBy (filled_by (rest_at report.simulation stage)) (left_at report.simulation stage) d 0 r after → FilledIs report d r after
  unfolding left_of rest_of
  at_stage stage r after e w = subst (λ (x : Stage). PutBy (filled_by (rest_at report.simulation x)) (left_at report.simulation x) d 0 r after) (sym e) w

  pub nothing_left : report.stage ≡ Stage.Done → FilledIs report d (record { at = 0; done = true; report = report }) d
  nothing_left e = at_stage Stage.Done _ d e (put_none (filled_by (rest_at report.simulation Stage.Done)) [] d 0 refl _ (rw e))

  -- all of it
  module _ (f : Filled) (after : List ℕ) (w : FilledIs report d f after) where
    done_is : f.done ≡ none_left (puts (left_of report) d 0).rest
    done_is = ap (λ (x : Filled). x.done) w.answer

    place : f.at ≡ (puts (left_of report) d 0).at
    place = ap (λ (x : Filled). x.at) w.answer

    pub all_put : f.done ≡ true → AllPut report d (Some f.at) after
    all_put e = record { answer = rw (← done_is, e) (ap Some place); bytes = w.bytes; short = w.short }

    pub too_long : f.done ≡ false → AllPut report d None after
    too_long e = record { answer = rw (← done_is, e) refl; bytes = w.bytes; short = w.short }

pub all_as : {x y : Report} {d after : List ℕ} {r : Option ℕ} → x ≡ y → AllPut x d r after → AllPut y d r after
all_as {d = d} {after = after} {r = r} e w = subst (λ (z : Report). AllPut z d r after) e w

-- ---- a report without its records

module _ (report : Report) where
  pub ticks-run : (n : ℕ) → report.stage ≡ Stage.Ticks n → (r : Ran) → r ≡ run_of n report.simulation → report_at (Stage.Stop r.number) r.simulation ≡ end_of report
  unfolding end_of
  ticks-run n e r q = rw q (ap (end_at report.simulation) (sym e))

  pub no_ticks : ((n : ℕ) → report.stage ≡ Stage.Ticks n → ⊥) → report ≡ end_of report
  unfolding end_of
  no_ticks other = by report.stage refl
    where
      by : (x : Stage) → report.stage ≡ x → report_at report.stage report.simulation ≡ end_at report.simulation report.stage
      by (Stage.Refused number) e = rw e
      by (Stage.Ticks n) e = absurd (other n e)
      by (Stage.Stop number) e = rw e
      by (Stage.Flows i) e = rw e
      by Stage.Done e = rw e
