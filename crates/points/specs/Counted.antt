-- The account of the worked example after its seven ticks, as one list of claims: what demand 3 counts there, as numbers.
use Rattle.std.specs.Prelude.{◌≡◌, List, [], ◌∷◌, ℕ, ◌+◌}
use Rattle.remy.specs.declared.simulation.Simulation.{Simulation}
use Rattle.remy.specs.declared.simulation.TickRecord.{TickRecord}
use Rattle.remy.specs.State.{sender_at, meter_at}
use Rattle.remy.specs.Build.{build_of}
use Rattle.remy.specs.History.{ticks, after, history, Fresh, PacketId, ids, admissions, starts, leaves, dropped_full, lost, dropped_back, lost_back, counted, old, ignored}
use Rattle.remy.specs.Account.{total, of_sender, if_back, waiting, on_line, Account}
use Rattle.points.specs.Worked.{worked}

-- the worked example as it is built, after its seven ticks, and their records
abbrev pub begun : Simulation
begun = (build_of worked 1).simulation

abbrev pub ended : Simulation
ended = after (ticks 7) begun

abbrev pub recorded : List TickRecord
recorded = history (ticks 7) begun

-- how many packets of sender 0 a list has
abbrev pub many : List PacketId → ℕ
many = total (of_sender 0)

-- packet m of sender 0
abbrev pub own_id : ℕ → PacketId
own_id m = record { sender = 0; seq = m }

abbrev pub totals : List (Type 0)
totals =
    -- The build is fresh,
    Fresh worked begun
    -- so demand 3 gives the account of its seven ticks.
    ∷ Account worked recorded ended
    -- sent 4 = full 1 + waiting 1 + on the line 1 + lost 0 + counted 1 + old 0 + ignored 0
    ∷ ((sender_at ended 0).packets_sent ≡ 4)
    ∷ (many (dropped_full recorded) ≡ 1)
    ∷ (many (waiting ended 0) ≡ 1)
    ∷ (many (on_line ended 0) ≡ 1)
    ∷ (many (lost recorded) ≡ 0)
    ∷ (many (counted recorded) ≡ 1)
    ∷ (many (old recorded) ≡ 0)
    ∷ (many (ignored recorded) ≡ 0)
    -- the clause `books` of that account, at sender 0: without a return line nothing is on one
    ∷ ((sender_at ended 0).packets_sent
    ≡ many (dropped_full recorded)
    + many (waiting ended 0)
    + many (on_line ended 0)
    + many (lost recorded)
    + many (if_back worked (dropped_back recorded))
    + many (if_back worked (waiting ended 1))
    + many (if_back worked (on_line ended 1))
    + many (if_back worked (lost_back recorded))
    + many (counted recorded)
    + many (old recorded)
    + many (ignored recorded))
    -- the meter's records
    ∷ ((meter_at ended 0).records ≡ 1)
    -- in order: admitted 1, 2, 4; started 1, 2; left 1; 4 waits, 2 is on the line, 3 was dropped full
    ∷ (ids (admissions 0 recorded) ≡ own_id 1 ∷ own_id 2 ∷ own_id 4 ∷ [])
    ∷ (ids (starts worked 0 recorded) ≡ own_id 1 ∷ own_id 2 ∷ [])
    ∷ (ids (leaves worked 0 recorded) ≡ own_id 1 ∷ [])
    ∷ (waiting ended 0 ≡ own_id 4 ∷ [])
    ∷ (on_line ended 0 ≡ own_id 2 ∷ [])
    ∷ (dropped_full recorded ≡ own_id 3 ∷ [])
    ∷ []
