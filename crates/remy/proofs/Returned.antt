-- Runs with a return line (document 02, K4), computed; docs/RETURN-LINE.md tells the first tick by tick. Assumes nothing.
use Rattle.std.proofs.Common.{Option, Some, None}
use mathlib.Core.Path.{◌≡◌, refl}
use mathlib.Core.Bool.{false}
use mathlib.Core.List.{[], ◌∷◌, map}
use Prim.Native.Nat.{ℕ}
use lib.IntN.{pos, negsuc}
use lib.ListN.{replicate}
use lib.Ieee.{Float, fin}
use Rattle.quantities.specs.Doubles.{zero_f, power}
use Rattle.quantities.specs.Units.{span_of, time_of, amount_of}
use Rattle.draws.specs.Generator.{from_words}
use Rattle.sender.specs.declared.lossy.Policy.TheVariants.{Held}
use Rattle.remy.specs.declared.network.RemyNetwork.{RemyNetwork}
use Rattle.remy.specs.declared.simulation.Simulation.{Simulation}
use Rattle.remy.specs.declared.simulation.Mark.TheVariants as Mark
use Rattle.remy.specs.State.{meter_at}
use Rattle.remy.specs.Build.{build_of}
use Rattle.remy.specs.History.{ticks, after, history, PacketId}
use Rattle.remy.specs.Account.{waiting, everywhere}
use Rattle.remy.proofs.Opened.{ticking}
use Rattle.remy.proofs.Examples.{three, five, hundred, network_of, line, packet, none}

abbrev six : Float
six = fin false 3 (pos 1)

-- two senders with packets of 8 and of 4 bits, on 100, off 1, held 2; a line of delay 1, rate 8, loss 0, limit 12, and back one of delay 2, rate 4, loss 1/2, limit 8
abbrev network : RemyNetwork
network =
    network_of
    (Some (record { delay = power 1; rate = power 2; loss = fin false 1 (negsuc 0); limit = Some 8 }))
    (8 ∷ 4 ∷ replicate 14 0)
    2
    (power 0)
    (Some 12)
    hundred
    (power 0)
    (Held 2)

abbrev returned : Simulation
returned = (build_of network 1).simulation

-- packet 1:m
abbrev other : ℕ → Option (ℕ × ℕ)
other m = Some (1, m)

-- the second link is part 6
returned-history : history (ticks 14) returned
    ≡ line (power 0) 2 Mark.Enabled none none
    ∷ line (power 0) 1 Mark.Sent (packet 1) none
    ∷ line (power 0) 0 Mark.None none (packet 1)
    ∷ line (power 0) 1 Mark.Sent (packet 2) none
    ∷ line (power 0) 4 Mark.Enabled none none
    ∷ line (power 0) 3 Mark.Sent (other 1) none
    ∷ line (power 0) 3 Mark.Full (other 2) none
    ∷ line (power 1) 0 Mark.Passed (packet 1) (packet 2)
    ∷ line (power 1) 6 Mark.None none (packet 1)
    ∷ line three 0 Mark.Passed (packet 2) (other 1)
    ∷ line (power 2) 0 Mark.FullBack (other 1) none
    ∷ line (power 2) 6 Mark.LostBack (packet 1) (packet 2)
    ∷ line six 6 Mark.Counted (packet 2) none
    ∷ line six 1 Mark.Sent (packet 3) none
    ∷ []
unfolding ticking
returned-history = refl

-- the waiting bits of each line after eight ticks, and after the eleventh, in which a packet is dropped full at the second
returned_tallies : map (λ x. x.buffer_contains) (after (ticks 8) returned).lines ≡ amount_of 4 ∷ amount_of 8 ∷ []
unfolding ticking
returned_tallies = refl

returned_tallies_kept : map (λ x. x.buffer_contains) (after (ticks 11) returned).lines ≡ amount_of 0 ∷ amount_of 8 ∷ []
unfolding ticking
returned_tallies_kept = refl

-- the lines at the end: three samples were drawn on the first, and two on the second
returned-lines : (after (ticks 14) returned).lines
    ≡ record {
      earliest_transmit = time_of (fin false 7 (negsuc 0));
      buffer_contains = amount_of 8;
      waiting = record { start = 3; count = 1 };
      on_line = record { start = 3; count = 0 };
      rng = from_words 7953892005776783701 4715759149504841406 7558737548416537331 15932525744996764490;
    }
    ∷ record {
      earliest_transmit = time_of six;
      buffer_contains = amount_of 0;
      waiting = record { start = 2; count = 0 };
      on_line = record { start = 2; count = 0 };
      rng = from_words 11407366409510899297 5741370843798382767 14960308712627410757 2024526257093871687;
    }
    ∷ []
unfolding ticking
returned-lines = refl

-- 0:2 came back 5 s after it was sent; 0:1, lost on the second line, is not in the meter
returned-meter : meter_at (after (ticks 14) returned) 0
    ≡ record { total_time = span_of zero_f; current_start = Some (time_of (power 0)); total = amount_of 8; records = 1; rtt_sum = span_of five }
unfolding ticking
returned-meter = refl

-- 1:2 was dropped full, 0:3 waits, 1:1 was dropped full at the second line, 0:1 was lost on it, 0:2 was counted
abbrev id : ℕ → ℕ → PacketId
id i m = record { sender = i; seq = m }

returned-places : everywhere network (history (ticks 14) returned) (after (ticks 14) returned) ≡ id 1 2 ∷ id 0 3 ∷ id 1 1 ∷ id 0 1 ∷ id 0 2 ∷ []
unfolding ticking
returned-places = refl

-- ---- packets wait for the second line in the order in which they left the first: one sender, delay 1, no limit, held 3, and back a line of delay 8, rate 1 and no limit

behind : Simulation
behind =
    let back = Some (record { delay = power 3; rate = power 0; loss = zero_f; limit = None }) in
    after (ticks 9) (build_of (network_of back (replicate 16 8) 1 (power 0) None hundred (power 0) (Held 3)) 1).simulation

returned_order : waiting behind 1 ≡ id 0 2 ∷ id 0 3 ∷ []
unfolding ticking behind
returned_order = refl
