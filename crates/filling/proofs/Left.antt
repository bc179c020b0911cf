-- The lines of a report after its first k lines are its other lines. Assumes nothing.
use Prim.Native.Nat.{ℕ, zero, suc, ◌+◌, ◌-◌, ◌≤◌, ◌<◌}
use native.Mathlib.Nat.{zero-add, add-zero}
use native.Mathlib.Omega.{arith}
use mathlib.Core.Bool.{Bool, true, false, cond}
use mathlib.Core.List.{List, [], ◌∷◌, ◌++◌}
use mathlib.Core.Path.{◌≡◌, refl, sym, ap, ◌∙◌}
use lib.Dec.{ltb}
use lib.ListN.{length, drop}
use lib.Seq.{drop-nil, drop_at, drop-append-le, drop-append-add}
use borrow.Author.Tests.{ltb-true, ltb-false}
use Rattle.remy.specs.declared.simulation.Simulation.{Simulation}
use Rattle.remy.specs.declared.simulation.Ran.{Ran}
use Rattle.remy.specs.Run.{run_of}
use Rattle.remy.proofs.Joins.{runs_join}
use Rattle.remy.proofs.Records.{run_most}
use Rattle.remy.proofs.Steps.{cond_elim}
use Rattle.printer.specs.Printing.{refused_text}
use Rattle.lines.specs.Lines.{record_lines, flow_lines, flow_count, flows_from, end_lines, run_lines}
use Rattle.lines.proofs.Joins.{record_lines_join}
use Rattle.report.specs.declared.run.Stage.{Stage}
use Rattle.report.specs.declared.run.Report.{Report}
use Rattle.report.specs.Report.{left_at, left_of}
use Rattle.filling.specs.declared.Filled.{Filled}
use Rattle.filling.specs.Filling.{report_at, flows_at, refused_after, end_after, run_after, rest_at, rest_of, puts, FilledIs}
use Rattle.filling.proofs.Putting.{puts-rest}
use Rattle.filling.proofs.Running.{run_part, records_done}
use Rattle.filling.proofs.Ending.{flows_none}

-- ---- the flows

flow-lines_drop : (s : Simulation) (left i k : ℕ) → flow_lines s (left - k) (i + k) ≡ drop k (flow_lines s left i)
unfolding flow_lines
flow-lines_drop s left i zero = let all : left - 0 ≡ left = omega arith in rw (all, add-zero i)
flow-lines_drop s zero i (suc k) = let none : 0 - suc k ≡ 0 = omega arith in rw none
flow-lines_drop s (suc left) i (suc k) =
    let less : suc left - suc k ≡ left - k = omega arith in
    let more : i + suc k ≡ i + 1 + k = omega arith in
    rw (less, more) (flow-lines_drop s left (i + 1) k)

module _ (s : Simulation) where
  flows_left : (i : ℕ) → left_of (flows_at i s) ≡ flows_from s i
  unfolding left_of flows_at
  flows_left i = by (ltb i (flow_count s)) refl
    where
      by : (b : Bool) → ltb i (flow_count s) ≡ b → left_at s (cond b (Stage.Flows i) Stage.Done) ≡ flows_from s i
      by true e = refl
      by false e = sym (flows_none s i (ltb-false _ _ e))

  flows_drop : (i k : ℕ) → left_of (flows_at (i + k) s) ≡ drop k (flows_from s i)
  flows_drop i k =
      let less : flow_count s - (i + k) ≡ flow_count s - i - k = omega arith in
      flows_left (i + k) ∙ rw less (flow-lines_drop s (flow_count s - i) i k)

-- ---- the end

end_drop : (s : Simulation) (number k : ℕ) → left_of (end_after k number s) ≡ drop k (end_lines number s)
unfolding left_of end_lines
end_drop s number zero = refl
end_drop s number (suc k) = ap (λ (i : ℕ). left_of (flows_at i s)) (sym (zero-add k)) ∙ flows_drop s 0 k

refused_drop : (s : Simulation) (number k : ℕ) → left_of (refused_after k number s) ≡ drop k (refused_text number ∷ [])
unfolding left_of
refused_drop s number zero = refl
refused_drop s number (suc k) = sym (drop-nil k)

-- ---- a run

-- ticks are left
ticks-left : (s : Simulation) (n k : ℕ) → k < (run_of n s).done
    → left_of (report_at (Stage.Ticks (n - k)) (run_of k s).simulation) ≡ drop k (record_lines n s) ++ end_lines (run_of n s).number (run_of n s).simulation
unfolding left_of run_lines
ticks-left s n k below =
    let next : Simulation = (run_of k s).simulation in
    let most = run_most n s in
    let both : n ≡ k + (n - k) = omega (arith, below, most) in
    let joined = runs_join k (n - k) s in
    let long : length (record_lines k s) ≡ k = records_done k s ∙ run_part k n s (omega (arith, below)) in
    let lines : record_lines n s ≡ record_lines k s ++ record_lines (n - k) next = ap (λ (m : ℕ). record_lines m s) both ∙ record_lines_join k (n - k) s in
    let rest : drop k (record_lines n s) ≡ record_lines (n - k) next = ap (drop k) lines ∙ drop_at (record_lines k s) (record_lines (n - k) next) k long in
    let number : (run_of (n - k) next).number ≡ (run_of n s).number = joined.number (omega (arith, below, most)) ∙ ap (λ (m : ℕ). (run_of m s).number) (sym both) in
    let state : (run_of (n - k) next).simulation ≡ (run_of n s).simulation = joined.state ∙ ap (λ (m : ℕ). (run_of m s).simulation) (sym both) in
    rw (rest, number, state)

run_drop : (s : Simulation) (n k : ℕ) → left_of (run_after k n s) ≡ drop k (run_lines n s)
unfolding run_after run_lines
run_drop s n k =
    let last : Ran = run_of n s in
    let end : List (List ℕ) = end_lines last.number last.simulation in
    let long = records_done n s in
    cond_elim (λ (r : Report). left_of r ≡ drop k (record_lines n s ++ end)) (ltb k last.done) _ _
    (λ e.
    let below : k < last.done = ltb-true _ _ e in
    let less : k ≤ length (record_lines n s) = omega (arith, long, below) in
    ticks-left s n k below ∙ sym (drop-append-le k (record_lines n s) end less))
    (λ e.
    let above : last.done ≤ k = ltb-false _ _ e in
    let place : k ≡ length (record_lines n s) + (k - last.done) = omega (arith, above, long) in
    end_drop last.simulation last.number (k - last.done)
    ∙ sym (ap (λ (m : ℕ). drop m (record_lines n s ++ end)) place ∙ drop-append-add (record_lines n s) end (k - last.done)))

-- ---- a report

pub left_rest : (r : Report) (k : ℕ) → left_of (rest_of r k) ≡ drop k (left_of r)
unfolding left_of rest_of
left_rest r k = by r.stage
  where
    by : (x : Stage) → left_of (rest_at r.simulation x k) ≡ drop k (left_at r.simulation x)
    by (Stage.Refused number) = refused_drop r.simulation number k
    by (Stage.Ticks n) = run_drop r.simulation n k
    by (Stage.Stop number) = end_drop r.simulation number k
    by (Stage.Flows i) = flows_drop r.simulation i k
    by Stage.Done = sym (drop-nil k)

-- what is answered has the lines left that were not put
pub left_is : (report : Report) (out after : List ℕ) (r : Filled) → FilledIs report out r after → left_of r.report ≡ (puts (left_of report) out 0).rest
left_is report out after r w =
    ap (λ (x : Filled). left_of x.report) w.answer ∙ left_rest report (puts (left_of report) out 0).count ∙ sym (puts-rest (left_of report) out 0)
