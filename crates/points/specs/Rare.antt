-- Document 01, "Sender", and the empty simulation of "Stops": what only a state made by hand or a rare run shows, as one list of claims about the definitions
-- that a tick and a build call. Each answer is given whole.
use Rattle.std.specs.Prelude.{◌≡◌, List, [], ◌∷◌, ℕ, replicate, Option, Some, None}
use Rattle.quantities.specs.declared.time.Time.{Time}
use Rattle.draws.specs.declared.distribution.ContinuousDistribution.TheVariants.{Always}
use Rattle.draws.specs.Generator.{from_words}
use Rattle.sender.specs.declared.lossy.Policy.{Policy}
use Rattle.sender.specs.declared.lossy.Policy.TheVariants.{Held, Grown, Timed}
use Rattle.sender.specs.declared.lossy.Enabled.{Enabled}
use Rattle.sender.specs.declared.lossy.SenderState.TheVariants as State
use Rattle.sender.specs.declared.lossy.LossySender.{LossySender}
use Rattle.sender.specs.declared.lossy.Returned.{Returned}
use Rattle.sender.specs.declared.lossy.Heard.TheVariants.{Counted}
use Rattle.sender.specs.Sender.{tick_timer, tick_send, returned_of}
use Rattle.remy.specs.Build.{empty_network, empty_simulation, build_of}
use Rattle.points.specs.Points.{one}
use Rattle.points.specs.Ranges.{double}
use Rattle.points.specs.Worked.{moment_of}

-- ---- a sender that is on since 1 and has sent 9

abbrev pub at_two : Time
at_two = moment_of 0x4000000000000000

abbrev pub at_three : Time
at_three = moment_of 0x4008000000000000

-- greatest ack, window, timer
abbrev pub on_with : ℕ → ℕ → Option Time → Enabled
on_with ack window timer = record { started = one; greatest_ack = ack; cwnd = window; timer = timer }

abbrev pub on_sender : ℕ → ℕ → LossySender
on_sender ack window = record { packets_sent = 9; state = State.Enabled (on_with ack window None); rng = from_words 1 2 3 4 }

-- timed with a gap of 1
abbrev pub timed : ℕ → Policy
timed most = Timed most (double 0x3ff0000000000000)

-- a timer at 2 of timed 8, at this window; and the answer with that one
abbrev pub fired : ℕ → Enabled
fired window = tick_timer (timed 8) (on_with 7 window (Some at_two)) at_two

abbrev pub halved : ℕ → Enabled
halved window = on_with 7 window (Some at_three)

-- a packet sent at 1 comes back at a greatest ack of 7 and a window of 5; and the answer with those
abbrev pub comes_back : Policy → ℕ → Returned
comes_back policy seq = returned_of policy (on_sender 7 5) (record { sender = 0; seq = seq; sent_time = one })

abbrev pub counts : ℕ → ℕ → Returned
counts ack window = record { heard = Counted; sender = on_sender ack window }

abbrev pub rare : List (Type 0)
rare =
    -- Timed: at each timer the window halves rounded down, at least 1, and the timer is clock + gap.
    (fired 5 ≡ halved 2)
    ∷ (fired 4 ≡ halved 2)
    ∷ (fired 1 ≡ halved 1)
    -- Held 3, given at each send
    ∷ (tick_send 9 (Held 3) (on_with 7 5 None) at_two 0
    ≡ record { number = 0; packet = record { sender = 0; seq = 10; sent_time = at_two }; packets_sent = 10; enabled = on_with 7 3 None })
    -- and count.
    ∷ (comes_back (Held 3) 8 ≡ counts 8 3)
    -- Grown 1..2: a count gives min(window + 1, 2); timed grows likewise.
    ∷ (comes_back (Grown 1 2) 8 ≡ counts 8 2)
    ∷ (comes_back (timed 2) 8 ≡ counts 8 2)
    -- Greatest ack = max: a sequence below it leaves it.
    ∷ (comes_back (Grown 1 64) 6 ≡ counts 7 6)
    -- The empty simulation: delay 0, rate 1, loss 0, no limit, no return line, 1 bit, no senders, on and off always 1, held 1,
    ∷ (empty_network.line.delay ≡ double 0x0000000000000000)
    ∷ (empty_network.line.rate ≡ double 0x3ff0000000000000)
    ∷ (empty_network.line.loss ≡ double 0x0000000000000000)
    ∷ (empty_network.line.limit ≡ None)
    ∷ (empty_network.back ≡ None)
    ∷ (empty_network.bits ≡ replicate 16 1)
    ∷ (empty_network.senders ≡ 0)
    ∷ (empty_network.on ≡ Always (double 0x3ff0000000000000))
    ∷ (empty_network.off ≡ Always (double 0x3ff0000000000000))
    ∷ (empty_network.policy ≡ Held 1)
    -- seed 0, clock MAX.
    ∷ (build_of empty_network 0 ≡ record { number = 0; simulation = empty_simulation })
    ∷ (empty_simulation.head.clock ≡ moment_of 0x7fefffffffffffff)
    ∷ []
