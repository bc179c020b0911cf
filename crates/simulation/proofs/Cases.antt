-- One tick, a run, and a run with records, as the loop's cases. Assumes nothing.
use mathlib.Core.Path.{◌≡◌, refl, sym, ap, ◌∙◌}
use mathlib.Core.Bool.{Bool, true, false, cond}
use mathlib.Core.List.{List, [], ◌∷◌, ◌++◌, append-nil}
use Prim.Native.Nat.{ℕ, zero, suc, ◌+◌, ◌-◌, ◌%◌, ◌≤◌, ◌<◌}
use native.Mathlib.Omega.{arith}
use native.Mathlib.Nat.{add-zero, zero-add, mod-eq_of_lt}
use lib.Dec.{eqb}
use lib.ListN.{length, get_or, set, replicate, length-append}
use lib.Seq.{append_snoc, set-append_seam}
use Rattle.remy.specs.declared.simulation.Simulation.{Simulation}
use Rattle.remy.specs.declared.simulation.Ticked.{Ticked}
use Rattle.remy.specs.declared.simulation.Ran.{Ran}
use Rattle.remy.specs.declared.simulation.Noted.{Noted}
use Rattle.remy.specs.declared.simulation.Recorded.{Recorded}
use Rattle.remy.specs.Tick.{empty_record, tick_of}
use Rattle.remy.specs.Run.{one_more, run_of, noted_of, no_noted, notes_of, batch, batch_of, padded, records_of, ran_of}
use Rattle.remy.proofs.Account.{moved_zero, unmoved-empty}
use Rattle.advance.specs.Advance.{advance_of}
use Rattle.remy.proofs.Records.{notes_done, run_most, batch-within}

-- ---- one tick

-- from the loop's answer; d is what a place past the end of the records would have
abbrev pub tick_told : Noted → Recorded → Ticked
tick_told d a = record { number = a.number; moved = eqb a.done 1; note = (get_or a.records 0 d).note; simulation = a.simulation }

pub one-tick : (d : Noted) (s : Simulation) (a : Recorded) → a ≡ advance_of 1 0 (replicate batch no_noted) s → tick_told d a ≡ tick_of s
unfolding advance_of
one-tick d s a e = ap (tick_told d) e ∙ by (replicate 255 no_noted) (tick_of s) (moved_zero s) (unmoved-empty s) (tick_of s).moved refl
  where
    told : List Noted → Ticked → Recorded
    told rest t =
        cond t.moved (record { done = 1; number = 0; records = noted_of t.note t.simulation ∷ rest; simulation = t.simulation })
        (record { done = 0; number = t.number; records = no_noted ∷ rest; simulation = t.simulation })

    by : (rest : List Noted) (t : Ticked) → (t.moved ≡ true → t.number ≡ 0) → (t.moved ≡ false → t.note ≡ empty_record) → (b : Bool) → t.moved ≡ b
        → tick_told d (told rest t) ≡ t
    by rest t z n true e = rw (e, z e)
    by rest t z n false e = rw (e, n e)

-- ---- n ticks

-- the records xs stored one after the other, from the place of the tick after d on
abbrev stored : List Noted → ℕ → List Noted → List Noted
stored notes d [] = notes
stored notes d (x ∷ xs) = stored (set notes (d % batch) x) (d + 1) xs

-- after d ticks a run r, with the records xs
abbrev later : ℕ → List Noted → Ran → List Noted → Recorded
later d notes r xs = record { done = d + r.done; number = r.number; records = stored notes d xs; simulation = r.simulation }

loop_is : (n d : ℕ) (notes : List Noted) (s : Simulation) → advance_of n d notes s ≡ later d notes (run_of n s) (notes_of n s)
unfolding advance_of run_of notes_of
loop_is zero d notes s = ap (λ (k : ℕ). record { done = k; number = 0; records = notes; simulation = s }) (sym (add-zero d))
loop_is (suc n) d notes s = by (tick_of s) (tick_of s).moved refl (λ l m. loop_is n (d + 1) l m)
  where
    by : (t : Ticked) (b : Bool) → t.moved ≡ b → ((l : List Noted) (m : Simulation) → advance_of n (d + 1) l m ≡ later (d + 1) l (run_of n m) (notes_of n m))
        → cond t.moved (advance_of n (d + 1) (set notes (d % batch) (noted_of t.note t.simulation)) t.simulation)
        (record { done = d; number = t.number; records = notes; simulation = t.simulation })
        ≡ later d notes (cond t.moved (one_more (run_of n t.simulation)) (record { done = 0; number = t.number; simulation = t.simulation }))
        (cond t.moved (noted_of t.note t.simulation ∷ notes_of n t.simulation) [])
    by t true e rest =
        let r = run_of n t.simulation in
        let more : (d + 1) + r.done ≡ d + (r.done + 1) = omega arith in
        let after = set notes (d % batch) (noted_of t.note t.simulation) in
        rw e
        (rest after t.simulation
        ∙ ap (λ (k : ℕ). record { done = k; number = r.number; records = stored after (d + 1) (notes_of n t.simulation); simulation = r.simulation }) more)
    by t false e rest = rw e (ap (λ (k : ℕ). record { done = k; number = t.number; records = notes; simulation = t.simulation }) (sym (add-zero d)))

pub run_is : (n : ℕ) (s : Simulation) (a : Recorded) → a ≡ advance_of n 0 (replicate batch no_noted) s → ran_of a ≡ run_of n s
run_is n s a e =
    let r = run_of n s in
    ap ran_of (e ∙ loop_is n 0 (replicate batch no_noted) s) ∙ ap (λ (k : ℕ). record { done = k; number = r.number; simulation = r.simulation }) (zero-add r.done)

-- ---- n ticks with their records, where no place is used over again

-- one record more
padded-more : (xs : List Noted) (x : Noted) → length xs < batch → set (padded xs) (length xs % batch) x ≡ padded (xs ++ (x ∷ []))
padded-more xs x below =
    let left : batch - length xs ≡ suc (batch - length (xs ++ (x ∷ []))) = omega (arith, length-append xs (x ∷ [])) in
    rw (mod-eq_of_lt below, left) (set-append_seam xs no_noted (replicate (batch - length (xs ++ (x ∷ []))) no_noted) x ∙ sym (append_snoc xs x _))

stored-padded : (ys xs : List Noted) → length xs + length ys ≤ batch → stored (padded xs) (length xs) ys ≡ padded (xs ++ ys)
stored-padded [] xs room = ap padded (sym (append-nil xs))
stored-padded (y ∷ ys) xs room =
    let more : length (xs ++ (y ∷ [])) ≡ length xs + 1 = length-append xs (y ∷ []) in
    ap (λ (l : List Noted). stored l (length xs + 1) ys) (padded-more xs y (omega (arith, room)))
    ∙ ap (λ (k : ℕ). stored (padded (xs ++ (y ∷ []))) k ys) (sym more)
    ∙ stored-padded ys (xs ++ (y ∷ [])) (omega (arith, room, more))
    ∙ ap padded (append_snoc xs y ys)

pub records_is : (n k : ℕ) (s : Simulation) (a : Recorded) → k ≡ batch_of n → a ≡ advance_of k 0 (replicate batch no_noted) s → a ≡ records_of n s
unfolding records_of
records_is n k s a most e =
    let r = run_of (batch_of n) s in
    let notes = notes_of (batch_of n) s in
    e
    ∙ ap (λ (m : ℕ). advance_of m 0 (replicate batch no_noted) s) most
    ∙ loop_is (batch_of n) 0 (replicate batch no_noted) s
    ∙ ap (λ (d : ℕ). record { done = d; number = r.number; records = stored (replicate batch no_noted) 0 notes; simulation = r.simulation }) (zero-add r.done)
    ∙ ap (λ (l : List Noted). record { done = r.done; number = r.number; records = l; simulation = r.simulation })
    (stored-padded notes [] (omega (arith, notes_done (batch_of n) s, run_most (batch_of n) s, batch-within n)))
