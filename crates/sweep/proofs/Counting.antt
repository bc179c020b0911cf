-- The answer of a run as a number, that a run's count is not 0, and how much room is enough. Assumes nothing.
use Rattle.std.proofs.Common.{Option, Some, None}
use Prim.Native.Nat.{ℕ, zero, suc, ◌+◌, ◌*◌, ◌≤◌, ◌<◌}
use mathlib.Core.Bool.{Bool, true, false, cond, true≢false}
use mathlib.Core.List.{List, [], ◌∷◌, ◌++◌}
use mathlib.Core.Path.{◌≡◌, refl, sym, ap, ◌∙◌}
use native.Mathlib.Omega.{arith}
use lib.Dec.{leb, ltb, eqb}
use lib.ListN.{length}
use borrow.Author.Tests.{ltb-true, lt-ltb}
use Rattle.remy.specs.declared.simulation.Simulation.{Simulation}
use Rattle.remy.specs.Build.{build_of}
use Rattle.remy.specs.Tick.{tick_of}
use Rattle.remy.specs.Run.{run_of}
use Rattle.remy.proofs.Steps.{cond_elim}
use Rattle.description.specs.declared.Description.{Description}
use Rattle.description.specs.Text.{Written, InWidth, ReadAs, given, malformed, description_of, answer_of}
use Rattle.printer.specs.Printing.{refused_text, record_text, stop_text, written}
use Rattle.report.specs.declared.run.Stage.{Stage}
use Rattle.report.specs.declared.run.Report.{Report}
use Rattle.lines.specs.Lines.{record_line, record_lines, stop_line, end_lines, run_lines}
use Rattle.report.specs.Network.{network_of}
use Rattle.report.specs.Report.{left_at, left_of, begun_of, answered_of, report_of, ForText}
use Rattle.report.proofs.Texts.{for_each}
use Rattle.filling.specs.Filling.{Puts, puts, none_left, end_at, end_of, AllPut}
use Rattle.filling.proofs.Few.{given_few, malformed_few, end_of_few, enough}
use Rattle.sweep.specs.Sweep.{count_of, put_count, CountPut, Enough, enough_for, enough_for_each, enough_for_flows}

-- ---- the answer

number_cond : (b : Bool) (at : ℕ) → count_of (cond b (Some at) None) ≡ cond b at 0
number_cond true at = refl
number_cond false at = refl

-- what is said of a report that was all put or too long, said of the answer's number
count_put : (report : Report) (out : List ℕ) (x : Option ℕ) (after : List ℕ) (n : ℕ) → n ≡ count_of x → AllPut report out x after → CountPut report out n after
count_put report out x after n e w = record {
  answer = let p = puts (left_of report) out 0 in e ∙ ap count_of w.answer ∙ number_cond (none_left p.rest) p.at;
  bytes = w.bytes;
  short = w.short;
}

-- ---- 0 is no count

puts_up : (ls : List (List ℕ)) (d : List ℕ) (at : ℕ) → at ≤ (puts ls d at).at
unfolding puts
puts_up [] d at = omega arith
puts_up (l ∷ ls) d at =
    let h = puts_up ls (written d at l) (at + length l) in
    cond_elim (λ (p : Puts). at ≤ p.at) (leb (at + 128) (length d)) _ _ (λ e. omega (arith, h)) (λ e. omega arith)

-- there is a first line, and it is not empty
abbrev Begins : List (List ℕ) → Type 0
Begins [] = ⊥
Begins (l ∷ ls) = 0 < length l

put_above_0 : (ls : List (List ℕ)) (d : List ℕ) → Begins ls → none_left (puts ls d 0).rest ≡ true → 0 < (puts ls d 0).at
unfolding puts
put_above_0 [] d h e = absurd h
put_above_0 (l ∷ ls) d h e =
    let up = puts_up ls (written d 0 l) (0 + length l) in
    cond_elim (λ (p : Puts). none_left p.rest ≡ true → 0 < p.at) (leb (0 + 128) (length d)) _ _ (λ b f. omega (arith, h, up)) (λ b f. absurd (true≢false (sym f))) e

refused_begins : (n : ℕ) → 0 < length (refused_text n)
unfolding refused_text
refused_begins n = omega arith

end_begins : (n : ℕ) (s : Simulation) → Begins (end_lines n s)
unfolding end_lines stop_line stop_text
end_begins n s = omega arith

run_begins : (n : ℕ) (s : Simulation) → Begins (run_lines n s)
unfolding run_lines record_lines record_line record_text
run_begins zero s = end_begins (run_of 0 s).number (run_of 0 s).simulation
run_begins (suc n) s = begins (tick_of s).moved
  where
    begins : (b : Bool) → Begins (cond b (record_line (tick_of s).note ∷ record_lines n (tick_of s).simulation) [] ++ end_lines (run_of (suc n) s).number (run_of (suc n) s).simulation)
    begins true = omega arith
    begins false = end_begins (run_of (suc n) s).number (run_of (suc n) s).simulation

-- with its records, and without them
abbrev Both : Report → Type 0
Both r = Begins (left_of r) × Begins (left_of (end_of r))

begun-begins : (d : Description) → Both (begun_of d)
unfolding left_of begun_of end_of
begun-begins d =
    let b = build_of (network_of d) d.seed in
    cond_elim (λ (x : Stage). Begins (left_at b.simulation x) × Begins (left_of (end_at b.simulation x))) (eqb b.number 0) (Stage.Ticks d.ticks) (Stage.Refused b.number)
    (λ e. (run_begins d.ticks b.simulation, end_begins (run_of d.ticks b.simulation).number (run_of d.ticks b.simulation).simulation))
    (λ e. (refused_begins b.number, refused_begins b.number))

report_begins : (d : ReadAs) → Both (report_of d)
unfolding left_of report_of answered_of answer_of end_of
report_begins malformed = (refused_begins 15, refused_begins 15)
report_begins (given w) = begun-begins (description_of w)

-- ---- enough room

room_enough : (report : Report) (out : List ℕ) (n : ℕ) (after : List ℕ) → Begins (left_of report) → CountPut report out n after → (lines : ℕ) → length (left_of report) ≤ lines
    → Enough (128 * lines) out n
room_enough report out n after begins w lines few room =
    let all : none_left (puts (left_of report) out 0).rest ≡ true = enough put_count (left_of report) out n after w (omega (arith, few, room)) in
    let count = put_above_0 (left_of report) out begins all in
    rw (w.answer, all) count

-- whatever a text is read as
print_enough : (d : ReadAs) (out : List ℕ) (n : ℕ) (after : List ℕ) → CountPut (report_of d) out n after → Enough (enough_for d) out n
print_enough (given u) out n after w = room_enough (report_of (given u)) out n after (report_begins (given u)).0 w (u.ticks + 17) (given_few u)
print_enough malformed out n after w = room_enough (report_of malformed) out n after (report_begins malformed).0 w 1 malformed_few

flows_enough : (d : ReadAs) (out : List ℕ) (n : ℕ) (after : List ℕ) → CountPut (end_of (report_of d)) out n after → Enough enough_for_flows out n
flows_enough d out n after w = room_enough (end_of (report_of d)) out n after (report_begins d).1 w 17 (end_of_few (report_of d))

-- a number is above 0 where it is for each way to read a text
above_0 : (text : List ℕ) (n : ℕ) (P : ReadAs → Type 0) → ForText text P → ((w : Written) → InWidth w → P (given w) → 0 < n) → (P malformed → 0 < n) → 0 < n
above_0 text n P t one other = by (ltb 0 n) refl
  where
    by : (b : Bool) → ltb 0 n ≡ b → 0 < n
    by true e = ltb-true 0 n e
    by false e =
        let none : 0 < n → ⊥ = λ h. true≢false (sym (lt-ltb 0 n h) ∙ e) in
        absurd (none (other (t.other (λ w s i. none (one w i (t.given w s i))))))

module _ (text out : List ℕ) (x : Option ℕ) (after : List ℕ) (n : ℕ) (e : n ≡ count_of x) where
  pub print_counted : ForText text (λ d. AllPut (report_of d) out x after) → ForText text (λ d. CountPut (report_of d) out n after × Enough (enough_for d) out n) × Enough enough_for_each out n
  print_counted t =
      let each : ForText text (λ d. CountPut (report_of d) out n after × Enough (enough_for d) out n) =
      for_each text _ _ (λ d w. let c = count_put (report_of d) out x after n e w in (c, print_enough d out n after c)) t in
      (each, λ room. above_0 text n _ each (λ w i c. let ticks = i.ticks in c.1 (omega (arith, room, ticks))) (λ c. c.1 (omega (arith, room))))

  pub flows_counted : ForText text (λ d. AllPut (end_of (report_of d)) out x after) → ForText text (λ d. CountPut (end_of (report_of d)) out n after) × Enough enough_for_flows out n
  flows_counted t =
      let each : ForText text (λ d. CountPut (end_of (report_of d)) out n after) = for_each text _ _ (λ d w. count_put (end_of (report_of d)) out x after n e w) t in
      (each, λ room. above_0 text n _ each (λ w i c. flows_enough (given w) out n after c room) (λ c. flows_enough malformed out n after c room))
