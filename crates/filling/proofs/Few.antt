-- How many lines a text's report has, that a buffer with room for a line takes one, and how much room is enough. Assumes nothing.
use Prim.Native.Nat.{ℕ, zero, suc, ◌+◌, ◌-◌, ◌*◌, ◌≤◌, ◌<◌}
use mathlib.Core.Bool.{Bool, true, false, true≢false}
use mathlib.Core.List.{List, [], ◌∷◌, ◌++◌}
use mathlib.Core.Path.{◌≡◌, refl, sym, ap, subst, ◌∙◌}
use native.Mathlib.Omega.{arith}
use borrow.Author.Tests.{leb-true, leb-false, le-leb}
use lib.Dec.{leb, eqb}
use lib.ListN.{length, take, drop, length-append, length-drop}
use lib.Seq.{length-take-le}
use Rattle.remy.specs.declared.simulation.Simulation.{Simulation}
use Rattle.remy.specs.Run.{run_of}
use Rattle.remy.specs.Build.{build_of}
use Rattle.remy.proofs.Records.{run_most}
use Rattle.remy.proofs.Steps.{cond_elim}
use Rattle.description.specs.Text.{Written, text_of, InWidth, given, malformed, description_of, answer_of}
use Rattle.printer.specs.Printing.{written}
use Rattle.report.specs.declared.run.Stage.{Stage}
use Rattle.report.specs.declared.run.Report.{Report}
use Rattle.filling.specs.declared.Filled.{Filled}
use Rattle.report.specs.Network.{network_of}
use Rattle.lines.specs.Lines.{flow_lines, flow_count, record_lines, end_lines, run_lines}
use Rattle.report.specs.Report.{left_at, left_of, begun_of, answered_of, report_of, ForText}
use Rattle.filling.specs.Filling.{Puts, puts, none_left, PutBy, end_at, end_of, FilledIs}
use Rattle.filling.proofs.Putting.{puts-count}
use Rattle.filling.proofs.Running.{records_done}
use Rattle.filling.proofs.Ending.{flow-count-le}
use Rattle.filling.proofs.Left.{left_is}

-- ---- how many lines

flows_few : (s : Simulation) (left i : ℕ) → length (flow_lines s left i) ≤ left
unfolding flow_lines
flows_few s zero i = omega arith
flows_few s (suc left) i = let h = flows_few s left (i + 1) in omega (arith, h)

end_few : (number : ℕ) (s : Simulation) → length (end_lines number s) ≤ 17
unfolding end_lines
end_few number s = let h = flows_few s (flow_count s - 0) 0 in let k = flow-count-le s in omega (arith, h, k)

run_few : (n : ℕ) (s : Simulation) → length (run_lines n s) ≤ n + 17
unfolding run_lines
run_few n s =
    let last = end_lines (run_of n s).number (run_of n s).simulation in
    let all : length (record_lines n s ++ last) ≡ length (record_lines n s) + length last = length-append (record_lines n s) last in
    let h = records_done n s in
    let m = run_most n s in
    let k = end_few (run_of n s).number (run_of n s).simulation in omega (arith, all, h, m, k)

-- of a description: so many records as it has ticks, a stop line and 16 flows
pub given_few : (w : Written) → length (left_of (report_of (given w))) ≤ w.ticks + 17
unfolding left_of report_of answered_of begun_of answer_of
given_few w =
    let b = build_of (network_of (description_of w)) w.seed in
    cond_elim (λ (x : Stage). length (left_at b.simulation x) ≤ w.ticks + 17) (eqb b.number 0) (Stage.Ticks w.ticks) (Stage.Refused b.number)
    (λ e. run_few w.ticks b.simulation) (λ e. omega arith)

-- of any other text: one
pub malformed_few : length (left_of (report_of malformed)) ≤ 1
unfolding left_of report_of answered_of answer_of
malformed_few = omega arith

-- without its records, of any report: a stop line and 16 flows
pub end_of_few : (r : Report) → length (left_of (end_of r)) ≤ 17
unfolding left_of end_of
end_of_few r = by r.stage
  where
    by : (x : Stage) → length (left_of (end_at r.simulation x)) ≤ 17
    by (Stage.Refused number) = omega arith
    by (Stage.Ticks n) = end_few (run_of n r.simulation).number (run_of n r.simulation).simulation
    by (Stage.Stop number) = end_few number r.simulation
    by (Stage.Flows i) = let h = flows_few r.simulation (flow_count r.simulation - i) i in let k = flow-count-le r.simulation in omega (arith, h, k)
    by Stage.Done = omega arith

abbrev Few : Report → Type 0
Few r = length (left_of r) ≤ 65553

pub text_few : (text : List ℕ) (r : Report) → ForText text (λ d. r ≡ report_of d) → length (left_of r) ≤ 65553
text_few text r w = by (leb (length (left_of r)) 65553) refl
  where
    by : (b : Bool) → leb (length (left_of r)) 65553 ≡ b → Few r
    by true e = leb-true _ _ e
    by false e =
        let many : Few r → ⊥ = λ h. true≢false (sym (le-leb _ _ h) ∙ e) in
        let none : (u : Written) → text ≡ text_of u → InWidth u → ⊥ = λ u t k. let h = given_few u in let ticks = k.ticks in many (subst Few (sym (w.given u t k)) (omega (arith, h, ticks))) in
        let h = malformed_few in
        absurd (many (subst Few (sym (w.other none)) (omega (arith, h))))

-- ---- a line at least

first_put : (l : List ℕ) (ls : List (List ℕ)) (out : List ℕ) → 128 ≤ length out → 0 < (puts (l ∷ ls) out 0).count
unfolding puts
first_put l ls out room = let long : leb 128 (length out) ≡ true = le-leb _ _ room in rw long (omega arith)

some_put : (ls : List (List ℕ)) (out : List ℕ) → 128 ≤ length out → none_left (puts ls out 0).rest ≡ false → 0 < (puts ls out 0).count
unfolding puts
some_put [] out room e = absurd (true≢false e)
some_put (l ∷ ls) out room e = first_put l ls out room

-- where any line is left, there are fewer than before
pub fills : (report : Report) (out after : List ℕ) (r : Filled) → 128 ≤ length out → FilledIs report out r after → r.done ≡ false
    → length (left_of r.report) < length (left_of report)
fills report out after r room w e =
    let all = puts-count (left_of report) out 0 in
    let some = some_put (left_of report) out room (sym (ap (λ (x : Filled). x.done) w.answer) ∙ e) in
    let left = ap length (left_is report out after r w) in
    omega (arith, all, some, left)

-- ---- enough room

written-long : (d : List ℕ) (at : ℕ) (l : List ℕ) → at + 128 ≤ length d → length d ≤ length (written d at l)
unfolding written
written-long d at l room =
    let front = length-append (take at d) l in
    let whole = length-append (take at d ++ l) (drop (at + length l) d) in
    let back = length-drop (at + length l) d in
    let first = length-take-le at d (omega (arith, room)) in
    omega (arith, front, whole, back, first)

-- a line that is left has no room
stuck : (ls : List (List ℕ)) (d : List ℕ) (at : ℕ) → none_left (puts ls d at).rest ≡ false → length d < (puts ls d at).at + 128
unfolding puts
stuck [] d at e = absurd (true≢false e)
stuck (l ∷ ls) d at e =
    cond_elim (λ (p : Puts). none_left p.rest ≡ false → length d < p.at + 128) (leb (at + 128) (length d)) _ _
    (λ b left. let next = stuck ls (written d at l) (at + length l) left in let long = written-long d at l (leb-true _ _ b) in omega (arith, next, long))
    (λ b left. let full : length d < at + 128 = leb-false _ _ b in full) e

-- 128 bytes for each line
pub enough : {A : Type 0} (f : Puts → A) (ls : List (List ℕ)) (out : List ℕ) (r : A) (after : List ℕ) → PutBy f ls out 0 r after → 128 * length ls ≤ length out
    → none_left (puts ls out 0).rest ≡ true
enough f ls out r after w room = by (puts ls out 0).rest refl
  where
    by : (rest : List (List ℕ)) → (puts ls out 0).rest ≡ rest → none_left rest ≡ true
    by [] e = refl
    by (l ∷ more) e =
        let full = stuck ls out 0 (ap none_left e) in
        let all = puts-count ls out 0 in
        let left = ap length e in
        let short = w.short in
        absurd (omega (arith, full, all, left, short, room))
