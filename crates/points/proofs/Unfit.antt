-- Each test alone makes a state unfit, and the nearest states are fit: computed. Assumes nothing.
use mathlib.Core.Path.{◌≡◌, refl, ap, ◌∙◌}
use mathlib.Core.Bool.{Bool, true, false, ◌&&◌, and_assoc, cond}
use mathlib.Core.List.{List, [], ◌∷◌}
use Prim.Native.Nat.{ℕ, zero, suc}
use lib.Dec.{leb, ltb}
use lib.ListN.{get_or}
use Rattle.link.specs.Ring.{places}
use Rattle.remy.specs.declared.simulation.Simulation.{Simulation}
use Rattle.remy.specs.Network.{up_to}
use Rattle.remy.specs.State.{line_count, line_at, waiting_packets, on_line_packets}
use Rattle.remy.specs.Build.{empty_simulation, build_of}
use Rattle.remy.specs.Fit.{every, each_line, packet_fit, rings_fit, packets_fit, held_times_fit, past_fit, queue_fit, words_fit, fit}
use Rattle.remy.specs.Tick.{unmoved, tick_of}
use Rattle.remy.specs.Run.{run_of}
use Rattle.steady.specs.Steady.{steady}
use Rattle.points.specs.Points.{Hold}
use Rattle.points.specs.Worked.{worked_after}
use Rattle.points.specs.Unfit.{network, Row, row, rows, all_pass, failed, is_empty, Sorted, line_cases, busy, quiet, there_and_back, returning, scribbled, early, DueLater, unfit}
use Rattle.points.proofs.Claims.{◌and◌}
use Rattle.points.proofs.Unread.{lines_unread}
use Rattle.remy.proofs.Opened.{fitting, ticking}

-- the tests one by one, and as they lie in the clauses
regrouped : (p : ℕ → Bool)
    → (p 0 && (p 1 && p 2 && p 3 && p 4) && (p 5 && p 6) && p 7 && p 8
    && (p 9 && p 10 && p 11 && p 12 && p 13 && p 14 && p 15 && p 16 && p 17) && (p 18 && p 19 && p 20 && p 21)
    && p 22 && p 23 && p 24 && p 25 && p 26 && p 27 && p 28 && p 29 && p 30 && p 31 && (p 32 && p 33) && p 34 && (p 35 && p 36 && p 37))
    ≡ (p 0 && p 1 && p 2 && p 3 && p 4 && p 5 && p 6 && p 7 && p 8
    && p 9 && p 10 && p 11 && p 12 && p 13 && p 14 && p 15 && p 16 && p 17 && p 18 && p 19 && p 20 && p 21
    && p 22 && p 23 && p 24 && p 25 && p 26 && p 27 && p 28 && p 29 && p 30 && p 31 && p 32 && p 33 && p 34 && p 35 && p 36 && p 37)
regrouped p = simp and_assoc

-- two tests of every number below n
crossed : (a b c d : Bool) → (a && b && (c && d)) ≡ (a && c && (b && d))
crossed true true c d = refl
crossed true false true d = refl
crossed true false false d = refl
crossed false b c d = refl

up_to-both : (n : ℕ) (f g : ℕ → Bool) → up_to n (λ i. f i && g i) ≡ (up_to n f && up_to n g)
up_to-both zero f g = refl
up_to-both (suc n) f g = rw (up_to-both n f g) (crossed (up_to n f) (up_to n g) (f n) (g n))

rings_rows : (s : Simulation)
    → rings_fit s
    ≡ (each_line s (λ l. leb (line_at s l).waiting.count places)
    && each_line s (λ l. leb (line_at s l).on_line.count places)
    && each_line s (λ l. ltb (line_at s l).waiting.start places)
    && each_line s (λ l. ltb (line_at s l).on_line.start places))
unfolding rings_fit
rings_rows s =
    let n = line_count s.network in
    let a : ℕ → Bool = λ l. leb (line_at s l).waiting.count places in
    let b : ℕ → Bool = λ l. leb (line_at s l).on_line.count places in
    let c : ℕ → Bool = λ l. ltb (line_at s l).waiting.start places in
    let d : ℕ → Bool = λ l. ltb (line_at s l).on_line.start places in
    up_to-both n (λ l. a l && b l && c l) d ∙ ap (λ x. x && up_to n d) (up_to-both n (λ l. a l && b l) c ∙ ap (λ x. x && up_to n c) (up_to-both n a b))

packets-rows : (s : Simulation)
    → packets_fit s ≡ (each_line s (λ l. every (packet_fit s) (waiting_packets s l)) && each_line s (λ l. every (packet_fit s) (on_line_packets s l)))
unfolding packets_fit
packets-rows s = up_to-both (line_count s.network) (λ l. every (packet_fit s) (waiting_packets s l)) (λ l. every (packet_fit s) (on_line_packets s l))

pub fit-rows : (s : Simulation) → fit s ≡ all_pass true (rows s)
unfolding fit held_times_fit past_fit queue_fit words_fit
fit-rows s = rw (rings_rows s, packets-rows s) (regrouped (λ k. (get_or (rows s) k (row network true)).passes))

-- all pass where none fails
none-fails : (so : Bool) (rs : List Row) → all_pass so rs ≡ (so && is_empty (failed rs))
none-fails true [] = refl
none-fails false [] = refl
none-fails so (r ∷ rs) = none-fails (so && r.passes) rs ∙ one r.passes so
  where
    one : (p so : Bool) → (so && p && is_empty (failed rs)) ≡ (so && is_empty (cond p (failed rs) (r.test ∷ failed rs)))
    one true true = refl
    one false true = refl
    one p false = refl

unfit_is_9 : (s : Simulation) → fit s ≡ false → tick_of s ≡ unmoved s 9
unfolding tick_of
unfit_is_9 s e = rw e

busy-worked : worked_after 7 ≡ busy
unfolding ticking worked_after busy
busy-worked = refl

due_later : DueLater 0 × DueLater 1
unfolding ticking steady early
due_later = (((refl, refl, refl), refl, (refl, refl, refl), (refl, refl)), ((refl, refl, refl), refl, (refl, refl, refl), (refl, refl)))

scribbled_runs : run_of 7 (scribbled quiet) ≡ record { done = 7; number = 0; simulation = scribbled busy }
unfolding ticking quiet busy
scribbled_runs = refl

returning_reached : (run_of 11 (build_of there_and_back 1).simulation).simulation ≡ returning
unfolding ticking returning
returning_reached = refl

first-line : Sorted (line_cases busy 0)
unfolding fitting busy
first-line = refl

return_line : Sorted (line_cases returning 1)
unfolding fitting returning
return_line = refl

quiet-worked : worked_after 0 ≡ quiet
unfolding ticking worked_after quiet
quiet-worked = refl

-- a line for each comment of the list
pub unfit_holds : Hold unfit
unfolding fitting busy quiet returning empty_simulation
unfit_holds =
    fit-rows and (λ s. fit-rows s ∙ none-fails true (rows s)) and unfit_is_9 and busy-worked and quiet-worked and returning_reached and refl and refl and refl and refl and refl and refl
    and first-line and return_line
    and refl and (refl, refl) and (refl, refl) and (refl, refl) and (refl, refl) and (refl, refl) and (refl, refl) and (refl, refl)
    and refl and (refl, refl) and (refl, refl) and (refl, refl) and (refl, refl)
    and refl and refl and (refl, refl) and (refl, refl)
    and refl and (refl, refl) and (refl, refl) and refl and refl and (refl, refl)
    and (refl, refl) and (refl, refl) and refl and (refl, refl) and (refl, refl)
    and refl and (refl, refl) and (refl, refl)
    and (refl, refl) and (refl, refl)
    and refl and (refl, refl) and refl and (refl, refl) and refl and (refl, refl)
    and refl and refl and (refl, refl) and (refl, refl) and (refl, refl)
    and refl and refl and (refl, refl) and (refl, refl)
    and refl and refl and (refl, refl) and (refl, refl)
    and refl and refl and (refl, refl) and (refl, refl) and (refl, refl)
    and refl and refl and (refl, refl) and (refl, refl) and (refl, refl) and (refl, refl)
    and refl and (refl, refl)
    and refl and (refl, refl) and refl and refl and (refl, refl) and (refl, refl)
    and refl and (refl, refl) and refl and (refl, refl)
    and refl and (refl, refl) and refl and (refl, refl)
    and refl and (refl, refl)
    and (refl, refl) and (refl, refl)
    and (refl, refl) and (refl, refl) and (refl, refl) and refl
    and (refl, refl) and (refl, refl)
    and (refl, refl) and (refl, refl) and (refl, refl)
    and (refl, refl)
    and (refl, refl)
    and (refl, refl) and (refl, refl) and (refl, refl) and (refl, refl)
    and (refl, refl) and (refl, refl)
    and (refl, refl) and (refl, refl) and (refl, refl) and (refl, refl)
    and (refl, refl) and (refl, refl)
    and (refl, refl) and (refl, refl)
    and refl and refl and refl
    and (refl, refl)
    and refl and (refl, refl) and (refl, refl)
    and refl and (refl, refl)
    and lines_unread and refl and scribbled_runs
    and refl
    and due_later.0 and due_later.1
    and refl and (refl, refl) and (refl, refl) and (refl, refl) and (refl, refl) and refl and refl and refl
    and refl and refl and refl
    and tt
