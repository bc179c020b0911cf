-- The worked example's build is fresh, demand 3 holds of its seven ticks, and what it counts there is computed. Assumes nothing.
use mathlib.Core.Path.{◌≡◌, refl}
use Prim.Native.Nat.{◌+◌}
use native.Mathlib.Omega.{arith}
use Rattle.remy.specs.State.{sender_at}
use Rattle.remy.specs.History.{ticks, Fresh, dropped_full, lost, dropped_back, lost_back, counted, old, ignored}
use Rattle.remy.specs.Account.{if_back, waiting, on_line, Account}
use Rattle.remy.proofs.Account.{demand3}
use Rattle.remy.proofs.Opened.{ticking}
use Rattle.points.specs.Points.{Hold}
use Rattle.points.specs.Worked.{worked}
use Rattle.points.specs.Counted.{begun, ended, recorded, many, totals}
use Rattle.points.proofs.Claims.{◌and◌}

pub worked_fresh : Fresh worked begun
unfolding ticking
worked_fresh = (1, refl)

-- demand 3 of the worked example and seven ticks
pub worked_account : Account worked recorded ended
worked_account = demand3 worked begun worked_fresh (ticks 7)

-- its clause `books`: with the numbers below, 4 ≡ 1 + 1 + 1 + 0 + 0 + 0 + 0 + 0 + 1 + 0 + 0
pub worked-books : (sender_at ended 0).packets_sent
    ≡ many (dropped_full recorded)
    + many (waiting ended 0)
    + many (on_line ended 0)
    + many (lost recorded)
    + many (if_back worked (dropped_back recorded))
    + many (if_back worked (waiting ended 1))
    + many (if_back worked (on_line ended 1))
    + many (if_back worked (lost_back recorded))
    + many (counted recorded)
    + many (old recorded)
    + many (ignored recorded)
worked-books = worked_account.books 0 (omega arith)

-- a line for each comment of the list
pub totals_hold : Hold totals
unfolding ticking
totals_hold =
    worked_fresh
    and worked_account
    and refl and refl and refl and refl and refl and refl and refl and refl
    and worked-books
    and refl
    and refl and refl and refl and refl and refl and refl
    and tt
