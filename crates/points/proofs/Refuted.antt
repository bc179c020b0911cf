-- Each clause of the account has a history and a last state that it refuses: the refutation cites that clause and no other. Assumes nothing.
use mathlib.Core.Path.{◌≡◌, refl, sym, ap, subst}
use mathlib.Core.Bool.{Bool, true, false, ◌&&◌, cond, true≢false, false≢true}
use mathlib.Core.List.{List, [], ◌∷◌}
use Prim.Native.Nat.{ℕ, zero, suc, ◌≤◌, ◌<◌}
use native.Mathlib.Omega.{arith}
use borrow.Author.Tests.{eqb-false}
use lib.Dec.{ltb, eqb}
use lib.ListN.{get_or}
use lib.Ieee.{eq}
use Rattle.quantities.specs.Doubles.{zero_f}
use Rattle.remy.specs.declared.network.RemyNetwork.{RemyNetwork}
use Rattle.remy.specs.declared.simulation.Simulation.{Simulation}
use Rattle.remy.specs.declared.simulation.Mark.TheVariants as Mark
use Rattle.remy.specs.Network.{between}
use Rattle.remy.specs.State.{has_back, line_count, values_of, no_time, line_at, sender_at, waiting_items, on_line_items}
use Rattle.remy.specs.Build.{build_of}
use Rattle.remy.specs.History.{ticks, after, history, Fresh, PacketId, admissions}
use Rattle.remy.specs.History.{starts as startsOn, leaves as leavesOf}
use Rattle.remy.specs.Account.{total, is_packet, everywhere, LineAccount, Account}
use Rattle.remy.proofs.Facts.{first-there, second_there, at_second}
use Rattle.remy.proofs.Account.{demand3}
use Rattle.remy.proofs.Opened.{doubles, ticking}
use Rattle.points.specs.Points.{Hold}
use Rattle.points.specs.Unfit.{three}
use Rattle.points.specs.Refuted.{Case, network, sent, books, once, meter, starts, leaves, arrival, spacing, bits, carried, limit, line_clauses, size_of, Says, OthersOf, Others, Accounted, Refuted, plan, ten, tenth, another_network, unrecorded, mislaid, recorded_twice, passed_over, overtaken, late, too_close, tallied_twice, overfull, full_and_waiting, waiting_and_on_line, on_line_and_full, left_and_on_line, numbered_case, nowhere, never_sent, refutations}
use Rattle.points.proofs.Claims.{◌and◌}
use Rattle.points.proofs.Once.{each_once, once_by}
use Rattle.points.proofs.Follows.{books_follows, sent_follows}

-- ---- the clauses and the account

says_all : (k : Case) → Accounted k → Others [] k
says_all k a =
    let first = a.line 0 (first-there (has_back k.network.back)) in
    a.network
    and a.sent
    and a.books
    and a.once
    and a.meter
    and first.starts
    and first.leaves
    and first.arrival
    and first.spacing
    and first.bits
    and first.carried
    and first.limit
    and second (has_back k.network.back) refl
  where
    second : (b : Bool) → has_back k.network.back ≡ b → OthersOf [] k (cond b (line_clauses 1) [])
    second false e = tt
    second true e =
        let x = a.line 1 (second_there (has_back k.network.back) e) in
        x.starts and x.leaves and x.arrival and x.spacing and x.bits and x.carried and x.limit and tt

all_said : (k : Case) → Others [] k → Accounted k
all_said k o =
    record { network = o.0; sent = o.1.0; books = o.1.1.0; once = o.1.1.1.0; meter = o.1.1.1.1.0; line = each }
  where
    of_line : (l : ℕ) → Says k.network k.past k.last (starts l) → Says k.network k.past k.last (leaves l) → Says k.network k.past k.last (arrival l)
        → Says k.network k.past k.last (spacing l) → Says k.network k.past k.last (bits l) → Says k.network k.past k.last (carried l)
        → Says k.network k.past k.last (limit l)
        → LineAccount (values_of k.network l) (size_of k.network) (admissions l k.past) (startsOn k.network l k.past) (leavesOf k.network l k.past)
        (waiting_items k.last l) (on_line_items k.last l) (line_at k.last l).buffer_contains.0
    of_line l a b c d e f g = record { starts = a; leaves = b; arrival = c; spacing = d; bits = e; carried = f; limit = g }

    each : (l : ℕ) → l < line_count k.network
        → LineAccount (values_of k.network l) (size_of k.network) (admissions l k.past) (startsOn k.network l k.past) (leavesOf k.network l k.past)
        (waiting_items k.last l) (on_line_items k.last l) (line_at k.last l).buffer_contains.0
    each zero there =
        let x = o.1.1.1.1.1 in
        of_line 0 x.0 x.1.0 x.1.1.0 x.1.1.1.0 x.1.1.1.1.0 x.1.1.1.1.1.0 x.1.1.1.1.1.1.0
    each (suc l) there =
        let at = at_second (has_back k.network.back) l there in
        let x = subst (λ (b : Bool). OthersOf [] k (cond b (line_clauses 1) [])) at.1 o.1.1.1.1.1.1.1.1.1.1.1.1 in
        subst
        (λ (m : ℕ). LineAccount (values_of k.network (suc m)) (size_of k.network) (admissions (suc m) k.past) (startsOn k.network (suc m) k.past) (leavesOf k.network (suc m) k.past)
        (waiting_items k.last (suc m)) (on_line_items k.last (suc m)) (line_at k.last (suc m)).buffer_contains.0)
        (sym at.0) (of_line 1 x.0 x.1.0 x.1.1.0 x.1.1.1.0 x.1.1.1.1.0 x.1.1.1.1.1.0 x.1.1.1.1.1.1.0)

-- ---- ten ticks

plan_fresh : Fresh plan (build_of plan 1).simulation
unfolding ticking
plan_fresh = (1, refl)

ten-noted : history (ticks 10) (build_of plan 1).simulation ≡ ten
unfolding ticking
ten-noted = refl

ten-done : after (ticks 10) (build_of plan 1).simulation ≡ tenth
unfolding ticking tenth
ten-done = refl

ten_account : Account plan ten tenth
ten_account =
    subst (λ (s : Simulation). Account plan ten s) ten-done
    (subst (λ h. Account plan h (after (ticks 10) (build_of plan 1).simulation)) ten-noted (demand3 plan (build_of plan 1).simulation plan_fresh (ticks 10)))

-- ---- the clauses that hold are computed

-- there is one sender, sender 0
pub only : (P : ℕ → Type 0) → P 0 → (i : ℕ) → i < 1 → P i
only P p zero below = p
only P p (suc i) below = absurd (omega arith)

-- where each of a case's packets is exactly once
pub once_in : (k : Case) → each_once k.network.senders (λ i. (sender_at k.last i).packets_sent) (everywhere k.network k.past k.last) ≡ true → Says k.network k.past k.last once
once_in k each i m = once_by k.network.senders (λ i. (sender_at k.last i).packets_sent) i m (everywhere k.network k.past k.last) each

-- ---- the refutations, each by the clause that is broken

-- the number of the packet at a place of a list, and the time at one
abbrev pub seq_at : ℕ → List PacketId → ℕ
seq_at p l = (get_or l p (record { sender = 0; seq = 0 })).seq

network_refutes : Refuted (network ∷ []) another_network
unfolding doubles tenth
network_refutes =
    (λ a. true≢false (ap (λ n. eq n.line.loss zero_f) a.network))
    and only _ refl and only _ refl and once_in another_network refl and only _ refl
    and refl and refl and refl and (tt, (tt, tt)) and refl and refl and omega arith and tt

meter_refutes : Refuted (meter ∷ []) recorded_twice
unfolding doubles tenth
meter_refutes =
    (λ a. let e : 2 ≡ 1 = a.meter 0 (omega arith) in omega (arith, e))
    and refl and only _ refl and only _ refl and once_in recorded_twice refl
    and refl and refl and refl and (tt, (tt, tt)) and refl and refl and omega arith and tt

starts_refutes : Refuted (starts 0 ∷ []) passed_over
unfolding doubles tenth
starts_refutes =
    (λ a. let e : 4 ≡ 5 = ap (seq_at 3) (a.line 0 (omega arith)).starts in omega (arith, e))
    and refl and only _ refl and only _ refl and once_in passed_over refl and only _ refl
    and refl and refl and (tt, (tt, tt)) and refl and refl and omega arith and tt

leaves_refutes : Refuted (leaves 0 ∷ []) overtaken
unfolding doubles tenth
leaves_refutes =
    (λ a. let e : 2 ≡ 3 = ap (seq_at 1) (a.line 0 (omega arith)).leaves in omega (arith, e))
    and refl and only _ refl and only _ refl and once_in overtaken refl and only _ refl
    and refl and refl and (tt, (tt, tt)) and refl and refl and omega arith and tt

arrival_refutes : Refuted (arrival 0 ∷ []) late
unfolding doubles tenth
arrival_refutes =
    (λ a. false≢true (ap (λ l. eq (get_or l 0 no_time).0.0 three) (a.line 0 (omega arith)).arrival))
    and refl and only _ refl and only _ refl and once_in late refl and only _ refl
    and refl and refl and (tt, (tt, tt)) and refl and refl and omega arith and tt

spacing_refutes : Refuted (spacing 0 ∷ []) too_close
unfolding doubles tenth
spacing_refutes =
    (λ a. (a.line 0 (omega arith)).spacing.0)
    and refl and only _ refl and only _ refl and once_in too_close refl and only _ refl
    and refl and refl and refl and refl and refl and omega arith and tt

bits_refutes : Refuted (bits 0 ∷ []) tallied_twice
unfolding doubles tenth
bits_refutes =
    (λ a. let e : 24 ≡ 16 = (a.line 0 (omega arith)).bits in omega (arith, e))
    and refl and only _ refl and only _ refl and once_in tallied_twice refl and only _ refl
    and refl and refl and refl and (tt, (tt, tt)) and refl and omega arith and tt

limit_refutes : Refuted (limit 0 ∷ []) overfull
unfolding doubles tenth
limit_refutes =
    (λ a. let e : 16 ≤ 8 = (a.line 0 (omega arith)).limit in omega (arith, e))
    and refl and only _ refl and only _ refl and once_in overfull refl and only _ refl
    and refl and refl and refl and (tt, (tt, tt)) and refl and refl and tt

books_refutes : Refuted (books ∷ once ∷ starts 0 ∷ []) mislaid
unfolding doubles tenth
books_refutes =
    (λ a. let e : 6 ≡ 5 = a.books 0 (omega arith) in omega (arith, e))
    and refl and only _ refl and only _ refl
    and refl and refl and (tt, (tt, tt)) and refl and refl and omega arith and tt

sent_refutes : Refuted (sent ∷ starts 0 ∷ []) unrecorded
unfolding doubles tenth
sent_refutes =
    (λ a. let e : 6 ≡ 5 = a.sent 0 (omega arith) in omega (arith, e))
    and refl and only _ refl and once_in unrecorded refl and only _ refl
    and refl and refl and (tt, (tt, tt)) and refl and refl and omega arith and tt

-- ---- `once`: a packet is not found as often as it should be

pub not_once : (k : Case) (i m : ℕ)
    → eqb (total (is_packet i m) (everywhere k.network k.past k.last)) (cond (ltb i k.network.senders && between 1 (sender_at k.last i).packets_sent m) 1 0) ≡ false
    → Accounted k → ⊥
not_once k i m e a = eqb-false (total (is_packet i m) (everywhere k.network k.past k.last)) (cond (ltb i k.network.senders && between 1 (sender_at k.last i).packets_sent m) 1 0) e (a.once i m)

-- whatever the packets' numbers are, the other clauses hold
module _ (a b c d e f : ℕ) where
  counted-others : Others (once ∷ []) (numbered_case a b c d e f Mark.Counted 1)
  unfolding doubles tenth
  counted-others = refl and only _ refl and only _ refl and only _ refl and refl and refl and refl and (tt, (tt, tt)) and refl and refl and omega arith and tt

  lost-others : Others (once ∷ []) (numbered_case a b c d e f Mark.Lost 0)
  unfolding doubles tenth
  lost-others = refl and only _ refl and only _ refl and only _ refl and refl and refl and refl and (tt, (tt, tt)) and refl and refl and omega arith and tt

  old-others : Others (once ∷ []) (numbered_case a b c d e f Mark.Old 0)
  unfolding doubles tenth
  old-others = refl and only _ refl and only _ refl and only _ refl and refl and refl and refl and (tt, (tt, tt)) and refl and refl and omega arith and tt

  ignored-others : Others (once ∷ []) (numbered_case a b c d e f Mark.Ignored 0)
  unfolding doubles tenth
  ignored-others = refl and only _ refl and only _ refl and only _ refl and refl and refl and refl and (tt, (tt, tt)) and refl and refl and omega arith and tt

never_sent_others : Others (once ∷ []) never_sent
unfolding doubles tenth
never_sent_others = refl and only _ refl and only _ refl and only _ refl and refl and refl and refl and (tt, (tt, tt)) and refl and refl and omega arith and tt

-- ---- what the account speaks of

every_build : (n : RemyNetwork) (seed : ℕ) → (build_of n seed).number ≡ 0 → Fresh n (build_of n seed).simulation
every_build n seed done = (seed, ap (λ k. record { number = k; simulation = (build_of n seed).simulation }) done)

-- a line for each comment of the list
pub refutations_hold : Hold refutations
unfolding tenth
refutations_hold =
    says_all and all_said
    and plan_fresh and ten-noted and ten-done and ten_account
    and network_refutes and meter_refutes and starts_refutes and leaves_refutes and arrival_refutes and spacing_refutes and bits_refutes and limit_refutes
    and (not_once full_and_waiting 0 5 refl, counted-others 1 2 3 4 5 5)
    and (not_once waiting_and_on_line 0 3 refl, counted-others 1 2 3 3 5 6)
    and (not_once on_line_and_full 0 3 refl, counted-others 1 2 3 4 5 3)
    and (not_once (left_and_on_line Mark.Lost 0) 0 2 refl, lost-others 2 2 3 4 5 6)
    and (not_once (left_and_on_line Mark.Counted 1) 0 2 refl, counted-others 2 2 3 4 5 6)
    and (not_once (left_and_on_line Mark.Old 0) 0 2 refl, old-others 2 2 3 4 5 6)
    and (not_once (left_and_on_line Mark.Ignored 0) 0 2 refl, ignored-others 2 2 3 4 5 6)
    and (not_once nowhere 0 6 refl, counted-others 1 2 3 4 5 7)
    and (not_once never_sent 1 1 refl, never_sent_others)
    and books_follows and sent_follows and books_refutes and sent_refutes
    and every_build
    and (λ s. refl) and (λ s cs moved. rw moved) and (λ s cs stayed. rw stayed)
    and (λ s. refl) and (λ s cs. refl)
    and tt
