-- Demand 3 for the states that calls reach: calls and histories append, and the state after a run is that after its ticks. Assumes nothing.
use Prim.Native.Nat.{ℕ}
use mathlib.Core.Path.{◌≡◌, refl, sym, ap, subst, ◌∙◌}
use mathlib.Core.Bool.{Bool, true, false, cond}
use mathlib.Core.List.{List, [], ◌∷◌, ◌++◌, map}
use lib.ListN.{take}
use Rattle.remy.specs.declared.simulation.Simulation.{Simulation}
use Rattle.remy.specs.declared.simulation.TickRecord.{TickRecord}
use Rattle.remy.specs.declared.simulation.Ticked.{Ticked}
use Rattle.remy.specs.declared.simulation.Ran.{Ran}
use Rattle.remy.specs.declared.simulation.Recorded.{Recorded}
use Rattle.remy.specs.Tick.{tick_of}
use Rattle.remy.specs.Run.{run_of, notes_of, batch_of, records_of, ran_of}
use Rattle.remy.specs.History.{Call, tick, ticks, called, after, history, noted}
use Rattle.remy.specs.Account.{Account}
use Rattle.remy.specs.Joins.{TickByTick}
use Rattle.remy.proofs.Account.{demand3}
use Rattle.simulation.specs.Reached.{TickAccount, RunAccount, RecordsAccount}
use Rattle.remy.proofs.Records.{note_of, notes_history, first_notes, records_ran}

-- ---- calls and histories append

after-append : (cs ds : List Call) (s : Simulation) → after (cs ++ ds) s ≡ after ds (after cs s)
after-append [] ds s = refl
after-append (c ∷ cs) ds s = after-append cs ds (called c s).simulation

noted-append : (t : Ticked) (h g : List TickRecord) → noted t (h ++ g) ≡ noted t h ++ g
noted-append t h g = by t.moved
  where
    by : (b : Bool) → cond b (t.note ∷ (h ++ g)) (h ++ g) ≡ cond b (t.note ∷ h) h ++ g
    by true = refl
    by false = refl

history-append : (cs ds : List Call) (s : Simulation) → history (cs ++ ds) s ≡ history cs s ++ history ds (after cs s)
history-append [] ds s = refl
history-append (c ∷ cs) ds s =
    ap (noted (called c s)) (history-append cs ds (called c s).simulation) ∙ noted-append (called c s) (history cs (called c s).simulation) (history ds (after cs (called c s).simulation))

-- ---- a tick

pub tick_account : (s : Simulation) (r : Ticked) → r ≡ tick_of s → TickAccount s r
tick_account s r e n s₀ fresh cs reached =
    let now : tick_of (after cs s₀) ≡ r = ap tick_of (sym reached) ∙ sym e in
    let state : after (cs ++ (tick ∷ [])) s₀ ≡ r.simulation = after-append cs (tick ∷ []) s₀ ∙ ap (λ (t : Ticked). t.simulation) now in
    let records : history (cs ++ (tick ∷ [])) s₀ ≡ history cs s₀ ++ noted r [] = history-append cs (tick ∷ []) s₀ ∙ ap (λ (t : Ticked). history cs s₀ ++ noted t []) now in
    subst (λ (h : List TickRecord). Account n h r.simulation) records (subst (Account n (history (cs ++ (tick ∷ [])) s₀)) state (demand3 n s₀ fresh (cs ++ (tick ∷ []))))

-- ---- a run

pub run_account : (k : ℕ) (s : Simulation) (r : Ran) → TickByTick k s r → RunAccount s r
run_account k s r steps n s₀ fresh cs reached =
    let state : after (cs ++ ticks r.done) s₀ ≡ r.simulation = after-append cs (ticks r.done) s₀ ∙ ap (after (ticks r.done)) (sym reached) ∙ sym steps.state in
    subst (Account n (history (cs ++ ticks r.done) s₀)) state (demand3 n s₀ fresh (cs ++ ticks r.done))

-- ---- a run with records

pub records_account : (k : ℕ) (s : Simulation) (r : Recorded) → r ≡ records_of k s → TickByTick (batch_of k) s (ran_of r) → RecordsAccount s r
records_account k s r e steps n s₀ fresh cs reached =
    let first : take r.done r.records ≡ notes_of (batch_of k) s = ap (λ (x : Recorded). take x.done x.records) e ∙ first_notes k s in
    let done : r.done ≡ (run_of (batch_of k) s).done = ap (λ (x : Recorded). x.done) e ∙ ap (λ (x : Ran). x.done) (records_ran k s) in
    let these : history (ticks r.done) s ≡ map note_of (take r.done r.records) =
    ap (λ (d : ℕ). history (ticks d) s) done ∙ sym (notes_history (batch_of k) s) ∙ ap (map note_of) (sym first) in
    let records : history (cs ++ ticks r.done) s₀ ≡ history cs s₀ ++ map note_of (take r.done r.records) =
    history-append cs (ticks r.done) s₀ ∙ ap (λ (x : Simulation). history cs s₀ ++ history (ticks r.done) x) (sym reached) ∙ ap (λ (l : List TickRecord). history cs s₀ ++ l) these in
    subst (λ (h : List TickRecord). Account n h r.simulation) records (run_account (batch_of k) s (ran_of r) steps n s₀ fresh cs reached)
