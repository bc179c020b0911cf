-- States made by hand, computed: the stops 9 to 13 at their limits and in their order, and that a refused tick changes nothing; and 20 of a build. Assumes nothing.
use Rattle.std.proofs.Common.{Some, None}
use mathlib.Core.Path.{◌≡◌, refl}
use mathlib.Core.Bool.{true, false}
use Prim.Native.Nat.{ℕ, ◌*◌}
use lib.IntN.{negsuc}
use lib.ListN.{replicate}
use lib.Ieee.{Float, nan, fin}
use Rattle.quantities.specs.Doubles.{zero_f, power, least}
use Rattle.quantities.specs.Units.{time_of, amount_of}
use Rattle.link.specs.declared.packet.Packet.{Packet}
use Rattle.link.specs.declared.link.Line.{Line}
use Rattle.link.specs.Ring.{places}
use Rattle.sender.specs.declared.lossy.Policy.{Policy}
use Rattle.sender.specs.declared.lossy.Policy.TheVariants.{Held}
use Rattle.sender.specs.declared.lossy.SenderState.TheVariants as State
use Rattle.remy.specs.declared.network.RemyNetwork.{RemyNetwork}
use Rattle.remy.specs.declared.simulation.Simulation.{Simulation}
use Rattle.remy.specs.declared.simulation.Ticked.{Ticked}
use Rattle.remy.specs.State.{line_at, sender_at, toggler_at, with_head, with_line, with_waiting, with_on_line, with_sender, with_toggler, with_queued}
use Rattle.remy.specs.Build.{empty_simulation, not_built, build_of}
use Rattle.remy.specs.Tick.{unmoved, tick_of}
use Rattle.remy.specs.Run.{run_of}
use Rattle.remy.specs.History.{ticks, after}
use Rattle.remy.proofs.Opened.{ticking}
use Rattle.remy.proofs.Examples.{hundred, network_of, built, worked, with_bits}

-- ---- 10: a clock of 2^40 is not above 2^40, and the double after it is

-- the worked example as it was built, but with the first toggle, and so the clock, at this time
abbrev late : Float → Simulation
late x =
    with_toggler (with_head worked (record { clock = time_of x; next = Some 2 })) 0
    (record { enabled = false; next_toggle = time_of x; rng = (toggler_at worked 0).rng })

abbrev too_late : Float
too_late = fin false 4503599627370497 (negsuc 11)

last_clock : (tick_of (late (power 40))).moved ≡ true
unfolding ticking
last_clock = refl

clock-refused : tick_of (late too_late) ≡ unmoved (late too_late) 10
unfolding ticking
clock-refused = refl

-- five ticks are done at 2^40, and the sixth is refused
run_refused : (run_of 7 (late (power 40))).number ≡ 10
unfolding ticking
run_refused = refl

-- ---- 9, then idle, then 10

-- Idle comes before 10: the empty simulation, whose clock is MAX (Empty, `empty_idle`).
unfit_idle : (tick_of (with_bits empty_simulation 1)).number ≡ 9
unfolding ticking empty_simulation
unfit_idle = refl

unfit-late : (tick_of (with_bits (late too_late) 1)).number ≡ 9
unfolding ticking
unfit-late = refl

-- ---- 11: a sender due to send has sent 2^24

-- no limit, the sender on since 1 and next, and it may send
abbrev on : Simulation
on = after (ticks 1) (built (power 0) None 3)

-- with so many sent, all of them acknowledged
abbrev with_sent : Simulation → ℕ → Simulation
with_sent s n =
    with_sender s 0
    (record {
      packets_sent = n;
      state = State.Enabled (record { started = time_of (power 0); greatest_ack = n; cwnd = 3; timer = None });
      rng = (sender_at s 0).rng;
    })

spent : Simulation
spent = with_sent on 16777216

send_refused : ((tick_of spent).number ≡ 11) × ((sender_at (tick_of spent).simulation 0).packets_sent ≡ 16777216)
unfolding ticking spent
send_refused = (refl, refl)

-- ---- 12 and 13: 512 wait, or are on the line

abbrev first : Packet
first = record { sender = 0; seq = 1; sent_time = time_of (power 0) }

-- 2,000 sent, and 0:1 in every slot, on a line due at 2
abbrev filled : Simulation → Simulation
filled s =
    with_waiting (with_on_line (with_sent s 2000) (replicate (places * 2) (record { packet = first; due = time_of (power 1) })))
    (replicate (places * 2) (record { packet = first; bits = amount_of 8 }))

-- so many packets wait for the line and so many are on it, and it is free
abbrev crowded : ℕ → ℕ → Line
crowded waiting on_line =
    record {
      earliest_transmit = time_of least;
      buffer_contains = amount_of (waiting * 8);
      waiting = record { start = 0; count = waiting };
      on_line = record { start = 0; count = on_line };
      rng = record { s0 = 1; s1 = 2; s2 = 3; s3 = 4 };
    }

-- a part is next, at this time
abbrev at : Simulation → Float → ℕ → Simulation
at s x k = with_head s (record { clock = time_of x; next = Some k })

-- a tick's number, and something of its state
abbrev seen : {A : Type 0} → (Simulation → A) → Ticked → ℕ × A
seen f t = (t.number, f t.simulation)

-- the sender is next and the link queued: 12, and the sender is as it was
sends : Simulation
sends = with_queued (with_line (filled on) 0 (crowded 512 0)) 0 (Some (time_of (power 0)))

arrival_refused : seen (λ s. (sender_at s 0).packets_sent) (tick_of sends) ≡ (12, 2000)
unfolding ticking sends
arrival_refused = refl

-- the link is next and the sender queued: 13, and the line is as it was
starts : Simulation
starts = with_queued (at (with_line (filled on) 0 (crowded 1 512)) (power 0) 0) 1 (Some (time_of (power 0)))

start-refused : seen (λ s. (line_at s 0).waiting.count) (tick_of starts) ≡ (13, 1)
unfolding ticking starts
start-refused = refl

-- ---- a network with a return line of this delay (document 02, K4); its 12 and 13 are computed in the crate points, whose check is not made for each edit here

abbrev returning : Float → Policy → RemyNetwork
returning delay policy =
    network_of (Some (record { delay = delay; rate = power 3; loss = zero_f; limit = None })) (replicate 16 8) 1 (power 0) None hundred (power 0) policy

abbrev on_back : Simulation
on_back = after (ticks 1) (build_of (returning (power 0) (Held 3)) 1).simulation

-- ---- a return line out of range: a state that holds one is unfit, and a build with one gives 20 and the empty simulation, after 7

abbrev with_network : Simulation → RemyNetwork → Simulation
with_network s n =
    record {
      network = n;
      head = s.head;
      lines = s.lines;
      waiting = s.waiting;
      on_line = s.on_line;
      senders = s.senders;
      togglers = s.togglers;
      meters = s.meters;
      queue = s.queue;
    }

unfit_back : ((tick_of (with_network on_back (returning (power 20) (Held 3)))).number ≡ 0) × ((tick_of (with_network on_back (returning nan (Held 3)))).number ≡ 9)
unfolding ticking
unfit_back = (refl, refl)

back_not_built : build_of (returning nan (Held 3)) 1 ≡ not_built 20
unfolding ticking
back_not_built = refl

policy_first : build_of (returning nan (Held 0)) 1 ≡ not_built 7
unfolding ticking
policy_first = refl
