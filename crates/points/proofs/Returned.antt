-- Each clause of the second line's account has a history and a last state that it refuses, and each place of `once` a packet. Assumes nothing.
use mathlib.Core.Path.{◌≡◌, refl, sym, ap, subst, ◌∙◌}
use mathlib.Core.Bool.{Bool, true, false, ◌||◌, cond, true≢false, false≢true}
use mathlib.Core.List.{List, [], ◌∷◌, ◌++◌, map}
use Prim.Native.Nat.{ℕ, zero, suc, ◌≤◌, ◌<◌}
use native.Mathlib.Omega.{arith}
use lib.ListN.{get_or}
use lib.Ieee.{eq}
use Rattle.link.specs.declared.packet.Packet.{Packet}
use Rattle.link.specs.declared.link.Left.TheVariants as Left
use Rattle.remy.specs.declared.network.RemyNetwork.{RemyNetwork}
use Rattle.remy.specs.declared.simulation.Simulation.{Simulation}
use Rattle.remy.specs.declared.simulation.TickRecord.{TickRecord}
use Rattle.remy.specs.declared.simulation.Mark.TheVariants as Mark
use Rattle.remy.specs.State.{has_back, line_count, bouncer, sender, no_time}
use Rattle.remy.specs.Build.{build_of}
use Rattle.remy.specs.Tick.{tick_of, Message, arrives, bounces, returns, switches, to_bouncer, left_messages, answers}
use Rattle.remy.specs.History.{ticks, after, history, Fresh, PacketId, entries, is_l, is_c, is_o, is_i, is_p, is_q, comes_back, dropped_full, lost, counted, old, ignored}
use Rattle.remy.specs.History.{leaves as leavesOf}
use Rattle.remy.specs.Account.{if_back, waiting, on_line, everywhere, Account}
use Rattle.remy.proofs.Facts.{at_second}
use Rattle.remy.proofs.Account.{demand3}
use Rattle.remy.proofs.Opened.{doubles, ticking}
use Rattle.points.specs.Points.{Hold}
use Rattle.points.specs.Refuted.{books, once, starts, leaves, arrival, spacing, bits, carried, limit, Others, Refuted}
use Rattle.points.specs.Returned.{both, twenty, twentieth, six, passed_over_back, overtaken_back, late_back, too_close_back, tallied_less, tallied_at_q, other_bits, overfull_back, not_admitted, wrong_line, numbered_back, full_and_waits, waits_and_moves, moves_and_gone, waits_twice, waits_and_returns, returns_and_left, nowhere_back, crowded, packed, passing, starting_back, source_of, destination_of, receiver_of, returned}
use Rattle.points.proofs.Claims.{◌and◌}
use Rattle.points.proofs.Refuted.{only, once_in, seq_at, not_once}

-- ---- twenty ticks

both_fresh : Fresh both (build_of both 1).simulation
unfolding ticking
both_fresh = (1, refl)

twenty-noted : history (ticks 20) (build_of both 1).simulation ≡ twenty
unfolding ticking
twenty-noted = refl

twenty-done : after (ticks 20) (build_of both 1).simulation ≡ twentieth
unfolding ticking twentieth
twenty-done = refl

twenty_account : Account both twenty twentieth
twenty_account =
    subst (λ (s : Simulation). Account both twenty s) twenty-done
    (subst (λ h. Account both h (after (ticks 20) (build_of both 1).simulation)) twenty-noted (demand3 both (build_of both 1).simulation both_fresh (ticks 20)))

-- ---- the second line's clauses

starts_back : Refuted (starts 1 ∷ []) passed_over_back
unfolding doubles twentieth
starts_back =
    (λ a. let e : 4 ≡ 6 = ap (seq_at 3) (a.line 1 (omega arith)).starts in omega (arith, e))
    and refl and only _ refl and only _ refl and once_in passed_over_back refl and only _ refl
    and refl and refl and refl and (tt, (tt, (tt, (tt, (tt, (tt, tt)))))) and refl and refl and omega arith
    and refl and refl and (tt, (tt, tt)) and refl and refl and omega arith and tt

leaves_back : Refuted (leaves 1 ∷ []) overtaken_back
unfolding doubles twentieth
leaves_back =
    (λ a. let e : 2 ≡ 3 = ap (seq_at 1) (a.line 1 (omega arith)).leaves in omega (arith, e))
    and refl and only _ refl and only _ refl and once_in overtaken_back refl and only _ refl
    and refl and refl and refl and (tt, (tt, (tt, (tt, (tt, (tt, tt)))))) and refl and refl and omega arith
    and refl and refl and (tt, (tt, tt)) and refl and refl and omega arith and tt

arrival_back : Refuted (arrival 1 ∷ []) late_back
unfolding doubles twentieth
arrival_back =
    (λ a. false≢true (ap (λ l. eq (get_or l 0 no_time).0.0 six) (a.line 1 (omega arith)).arrival))
    and refl and only _ refl and only _ refl and once_in late_back refl and only _ refl
    and refl and refl and refl and (tt, (tt, (tt, (tt, (tt, (tt, tt)))))) and refl and refl and omega arith
    and refl and refl and (tt, (tt, tt)) and refl and refl and omega arith and tt

spacing_back : Refuted (spacing 1 ∷ []) too_close_back
unfolding doubles twentieth
spacing_back =
    (λ a. (a.line 1 (omega arith)).spacing.0)
    and refl and only _ refl and only _ refl and once_in too_close_back refl and only _ refl
    and refl and refl and refl and (tt, (tt, (tt, (tt, (tt, (tt, tt)))))) and refl and refl and omega arith
    and refl and refl and refl and refl and refl and omega arith and tt

bits_back : Refuted (bits 1 ∷ []) tallied_less
unfolding doubles twentieth
bits_back =
    (λ a. let e : 8 ≡ 16 = (a.line 1 (omega arith)).bits in omega (arith, e))
    and refl and only _ refl and only _ refl and once_in tallied_less refl and only _ refl
    and refl and refl and refl and (tt, (tt, (tt, (tt, (tt, (tt, tt)))))) and refl and refl and omega arith
    and refl and refl and refl and (tt, (tt, tt)) and refl and omega arith and tt

carried_back : Refuted (carried 1 ∷ []) other_bits
unfolding doubles twentieth
carried_back =
    (λ a. let e : 4 ≡ 8 = ap (λ l. get_or l 0 0) (a.line 1 (omega arith)).carried in omega (arith, e))
    and refl and only _ refl and only _ refl and once_in other_bits refl and only _ refl
    and refl and refl and refl and (tt, (tt, (tt, (tt, (tt, (tt, tt)))))) and refl and refl and omega arith
    and refl and refl and refl and (tt, (tt, tt)) and refl and omega arith and tt

limit_back : Refuted (limit 1 ∷ []) overfull_back
unfolding doubles twentieth
limit_back =
    (λ a. let e : 16 ≤ 8 = (a.line 1 (omega arith)).limit in omega (arith, e))
    and refl and only _ refl and only _ refl and once_in overfull_back refl and only _ refl
    and refl and refl and refl and (tt, (tt, (tt, (tt, (tt, (tt, tt)))))) and refl and refl and omega arith
    and refl and refl and refl and (tt, (tt, tt)) and refl and refl and tt

tally_back : Refuted (bits 1 ∷ limit 1 ∷ []) tallied_at_q
unfolding doubles twentieth
tally_back =
    (λ a. let e : 24 ≡ 16 = (a.line 1 (omega arith)).bits in omega (arith, e))
    and refl and only _ refl and only _ refl and once_in tallied_at_q refl and only _ refl
    and refl and refl and refl and (tt, (tt, (tt, (tt, (tt, (tt, tt)))))) and refl and refl and omega arith
    and refl and refl and refl and (tt, (tt, tt)) and refl and tt

passed_back : Refuted (books ∷ once ∷ starts 1 ∷ []) not_admitted
unfolding doubles twentieth
passed_back =
    (λ a. let e : 9 ≡ 8 = a.books 0 (omega arith) in omega (arith, e))
    and refl and only _ refl and only _ refl
    and refl and refl and refl and (tt, (tt, (tt, (tt, (tt, (tt, tt)))))) and refl and refl and omega arith
    and refl and refl and (tt, (tt, tt)) and refl and refl and omega arith and tt

line_back : Refuted (starts 0 ∷ leaves 0 ∷ arrival 0 ∷ spacing 0 ∷ starts 1 ∷ leaves 1 ∷ []) wrong_line
unfolding doubles twentieth
line_back =
    (λ a. let e : 3 ≡ 4 = ap (seq_at 2) (a.line 1 (omega arith)).starts in omega (arith, e))
    and refl and only _ refl and only _ refl and once_in wrong_line refl and only _ refl
    and refl and refl and omega arith
    and refl and (tt, tt) and refl and refl and omega arith and tt

-- ---- `once`: whatever the packets' numbers are, the other clauses hold

module _ (a b c d e f g h w : ℕ) where
  counted_back : Others (once ∷ []) (numbered_back a b c d e f g h w Mark.FullBack Mark.Counted 1)
  unfolding doubles twentieth
  counted_back = refl and only _ refl and only _ refl and only _ refl and refl and refl and refl and (tt, (tt, (tt, (tt, (tt, (tt, tt)))))) and refl and refl and omega arith and refl and refl and refl and (tt, (tt, tt)) and refl and refl and omega arith and tt

  lost_back_lem : Others (once ∷ []) (numbered_back a b c d e f g h w Mark.Lost Mark.Counted 1)
  unfolding doubles twentieth
  lost_back_lem = refl and only _ refl and only _ refl and only _ refl and refl and refl and refl and (tt, (tt, (tt, (tt, (tt, (tt, tt)))))) and refl and refl and omega arith and refl and refl and refl and (tt, (tt, tt)) and refl and refl and omega arith and tt

  unheard_back : Others (once ∷ []) (numbered_back a b c d e f g h w Mark.FullBack Mark.LostBack 0)
  unfolding doubles twentieth
  unheard_back = refl and only _ refl and only _ refl and only _ refl and refl and refl and refl and (tt, (tt, (tt, (tt, (tt, (tt, tt)))))) and refl and refl and omega arith and refl and refl and refl and (tt, (tt, tt)) and refl and refl and omega arith and tt

  old_back : Others (once ∷ []) (numbered_back a b c d e f g h w Mark.FullBack Mark.Old 0)
  unfolding doubles twentieth
  old_back = refl and only _ refl and only _ refl and only _ refl and refl and refl and refl and (tt, (tt, (tt, (tt, (tt, (tt, tt)))))) and refl and refl and omega arith and refl and refl and refl and (tt, (tt, tt)) and refl and refl and omega arith and tt

  ignored_back : Others (once ∷ []) (numbered_back a b c d e f g h w Mark.FullBack Mark.Ignored 0)
  unfolding doubles twentieth
  ignored_back = refl and only _ refl and only _ refl and only _ refl and refl and refl and refl and (tt, (tt, (tt, (tt, (tt, (tt, tt)))))) and refl and refl and omega arith and refl and refl and refl and (tt, (tt, tt)) and refl and refl and omega arith and tt

-- ---- 12 and 13 on the second line

arrival_refused : ((tick_of passing).number ≡ 12) × ((tick_of passing).simulation.lines ≡ crowded 1 512 ∷ (crowded 512 0 ∷ []))
unfolding ticking packed
arrival_refused = (refl, refl)

start-refused : ((tick_of starting_back).number ≡ 13) × ((tick_of starting_back).simulation.lines ≡ crowded 0 0 ∷ (crowded 1 512 ∷ []))
unfolding ticking packed
start-refused = (refl, refl)

-- ---- the bouncer

to_destination : (n : RemyNetwork) (l : ℕ) (p : Packet) → map receiver_of (left_messages n l (Left.Out p)) ≡ destination_of n l p ∷ []
to_destination n l p = by (to_bouncer n l)
  where
    by : (b : Bool) → receiver_of (cond b (bounces p) (returns p)) ∷ [] ≡ cond b bouncer (sender p.sender) ∷ []
    by true = refl
    by false = refl

ends_swapped : (n : RemyNetwork) → has_back n.back ≡ true → (p : Packet) → (source_of n 1 p ≡ destination_of n 0 p) × (destination_of n 1 p ≡ source_of n 0 p)
ends_swapped n e p = (rw e, refl)

none-answered : (ms : List Message) → answers (answers ms) ≡ []
none-answered [] = refl
none-answered (arrives l p ∷ ms) = none-answered ms
none-answered (bounces p ∷ ms) = none-answered ms
none-answered (returns p ∷ ms) = none-answered ms
none-answered (switches i on ∷ ms) = none-answered ms

-- ---- without a return line

module _ (n : RemyNetwork) (e : has_back n.back ≡ false) where
  seven-places : (h : List TickRecord) (s : Simulation) → everywhere n h s ≡ dropped_full h ++ (waiting s 0 ++ (on_line s 0 ++ (lost h ++ (counted h ++ (old h ++ ignored h)))))
  seven-places h s = rw e

  none_back : (ps : List PacketId) → if_back n ps ≡ []
  none_back ps = rw e

  four-marks : (h : List TickRecord) → leavesOf n 0 h ≡ entries (λ m. is_l m || (is_c m || (is_o m || is_i m))) h
  four-marks h = ap (λ (b : Bool). entries (λ m. is_l m || cond b (is_p m || is_q m) (comes_back m)) h) e

  one_line : (l : ℕ) → l < line_count n → l ≡ 0
  one_line zero there = refl
  one_line (suc l) there = absurd (true≢false (sym (at_second (has_back n.back) l there).1 ∙ e))

-- a line for each comment of the list
pub returned_hold : Hold returned
unfolding twentieth
returned_hold =
    both_fresh and twenty-noted and twenty-done and twenty_account
    and starts_back and leaves_back and arrival_back and spacing_back and bits_back and carried_back and limit_back
    and tally_back and passed_back and line_back
    and (not_once full_and_waits 0 9 refl, counted_back 1 2 3 4 5 6 7 9 9)
    and (not_once waits_and_moves 0 9 refl, counted_back 1 2 3 4 5 6 9 8 9)
    and (not_once (moves_and_gone Mark.Lost) 0 7 refl, lost_back_lem 1 2 3 4 7 6 7 8 9)
    and (not_once (moves_and_gone Mark.FullBack) 0 7 refl, counted_back 1 2 3 4 7 6 7 8 9)
    and (not_once waits_twice 0 9 refl, counted_back 1 2 3 9 5 6 7 8 9)
    and (not_once waits_and_returns 0 4 refl, counted_back 1 4 3 4 5 6 7 8 9)
    and (not_once (returns_and_left Mark.LostBack 0) 0 2 refl, unheard_back 2 2 3 4 5 6 7 8 9)
    and (not_once (returns_and_left Mark.Counted 1) 0 2 refl, counted_back 2 2 3 4 5 6 7 8 9)
    and (not_once (returns_and_left Mark.Old 0) 0 2 refl, old_back 2 2 3 4 5 6 7 8 9)
    and (not_once (returns_and_left Mark.Ignored 0) 0 2 refl, ignored_back 2 2 3 4 5 6 7 8 9)
    and (not_once nowhere_back 0 6 refl, counted_back 1 2 3 4 5 10 7 8 9)
    and arrival_refused.0 and arrival_refused.1 and start-refused.0 and start-refused.1
    and to_destination and ends_swapped and (λ p. refl) and none-answered
    and seven-places and none_back and four-marks and one_line
    and tt
