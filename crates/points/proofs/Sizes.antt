-- Two sizes, computed; what they show that the account refuses, each by the clause that is broken. Assumes nothing.
use mathlib.Core.Path.{◌≡◌, refl, ap, subst}
use mathlib.Core.List.{[], ◌∷◌}
use Prim.Native.Nat.{ℕ, zero, suc, ◌<◌}
use native.Mathlib.Omega.{arith}
use lib.ListN.{get_or}
use Rattle.remy.specs.declared.simulation.Simulation.{Simulation}
use Rattle.remy.specs.History.{ticks, after, history, Fresh}
use Rattle.remy.specs.Account.{Account}
use Rattle.remy.proofs.Account.{demand3}
use Rattle.remy.proofs.Opened.{doubles, ticking}
use Rattle.points.specs.Points.{Hold}
use Rattle.points.specs.Worked.{ticks_of}
use Rattle.points.specs.Refuted.{spacing, bits, carried, Refuted}
use Rattle.points.specs.Sizes.{two_sizes, mixed, eleven, eleventh, spaced_by_the_later, count_times, carries_the_others, sizes}
use Rattle.points.proofs.Claims.{◌and◌}
use Rattle.points.proofs.Refuted.{once_in}
use Rattle.points.proofs.Unread.{stop_unread, fit_unread}

-- there are two senders, 0 and 1
either : (P : ℕ → Type 0) → P 0 → P 1 → (i : ℕ) → i < 2 → P i
either P p q zero below = p
either P p q (suc zero) below = q
either P p q (suc (suc i)) below = absurd (omega arith)

mixed_fresh : Fresh two_sizes mixed
unfolding ticking
mixed_fresh = (1, refl)

eleven-noted : history (ticks 11) mixed ≡ eleven
unfolding ticking
eleven-noted = refl

eleven-done : after (ticks 11) mixed ≡ eleventh
unfolding ticking eleventh
eleven-done = refl

eleven_account : Account two_sizes eleven eleventh
eleven_account =
    subst (λ (s : Simulation). Account two_sizes eleven s) eleven-done
    (subst (λ h. Account two_sizes h (after (ticks 11) mixed)) eleven-noted (demand3 two_sizes mixed mixed_fresh (ticks 11)))

spacing_refutes : Refuted (spacing 0 ∷ []) spaced_by_the_later
unfolding doubles eleventh
spacing_refutes =
    (λ a. (a.line 0 (omega arith)).spacing.1.0)
    and refl and either _ refl refl and either _ refl refl and once_in spaced_by_the_later refl and either _ refl refl
    and refl and refl and refl and refl and refl and omega arith and tt

bits_refutes : (Refuted (bits 0 ∷ []) (count_times 16)) × (Refuted (bits 0 ∷ []) (count_times 8))
unfolding doubles eleventh
bits_refutes = (
  (λ a. let e : 16 ≡ 12 = (a.line 0 (omega arith)).bits in omega (arith, e))
      and refl and either _ refl refl and either _ refl refl and once_in (count_times 16) refl and either _ refl refl
      and refl and refl and refl and (tt, (tt, tt)) and refl and omega arith and tt,
  (λ a. let e : 8 ≡ 12 = (a.line 0 (omega arith)).bits in omega (arith, e))
      and refl and either _ refl refl and either _ refl refl and once_in (count_times 8) refl and either _ refl refl
      and refl and refl and refl and (tt, (tt, tt)) and refl and omega arith and tt,
)

carried_refutes : Refuted (carried 0 ∷ []) carries_the_others
unfolding doubles eleventh
carried_refutes =
    (λ a. let e : 8 ≡ 4 = ap (λ l. get_or l 0 0) (a.line 0 (omega arith)).carried in omega (arith, e))
    and refl and either _ refl refl and either _ refl refl and once_in carries_the_others refl and either _ refl refl
    and refl and refl and refl and (tt, (tt, tt)) and refl and omega arith and tt

-- a line for each comment of the list
pub sizes_hold : Hold sizes
unfolding ticking ticks_of eleventh
sizes_hold =
    refl
    and refl
    and refl and refl
    and refl and refl
    and mixed_fresh and eleven-noted and eleven-done and eleven_account
    and spacing_refutes and bits_refutes.0 and bits_refutes.1 and carried_refutes
    and refl and (refl, refl) and (refl, refl) and (refl, refl) and refl and (refl, refl)
    and stop_unread and fit_unread and refl
    and tt
