-- The points hold: each is computed. Assumes nothing.
use Rattle.std.proofs.Common.{Some}
use mathlib.Core.Path.{◌≡◌, refl, sym, ap}
use mathlib.Core.Bool.{true, false}
use mathlib.Core.List.{[], ◌∷◌}
use Prim.Native.Nat.{ℕ, ◌+◌, ◌/◌, ◌≤◌}
use borrow.Author.Tests.{lt-leb}
use lib.Dec.{not_T}
use lib.Ieee.Bits.{is_true, is_false}
use native.Mathlib.Omega.{arith}
use lib.Ieee.{Float, round, units, odd, size, span, climb, add, mul, sub, sum, div, lt, le, eq, of_int, neg}
use Rattle.quantities.specs.declared.time.Time.{Time}
use Rattle.quantities.specs.Doubles.{zero_f, power}
use Rattle.quantities.specs.Units.{amount_of}
use Rattle.quantities.proofs.Order.{lt_irrefl}
use Rattle.quantities.proofs.Uniform.{sample-fine}
use Rattle.draws.specs.declared.generator.Rng.{Rng}
use Rattle.draws.specs.Generator.{output_of, moved_on, all_zero, replaced, from_words}
use Rattle.draws.specs.Draws.{sample_of, unit_of, uniform_of, draw_of, redraw}
use Rattle.draws.proofs.Redraw.{again}
use Rattle.meters.specs.Meter.{new_meter, start_fit, meter_fit, ready, switched_of, enabled_time, read_of}
use Rattle.link.specs.declared.packet.Packet.{Packet}
use Rattle.link.specs.declared.packet.Transit.{Transit}
use Rattle.link.specs.declared.link.Line.{Line}
use Rattle.link.specs.declared.link.Left.TheVariants as Left
use Rattle.sender.specs.declared.lossy.Policy.{Policy}
use Rattle.sender.specs.declared.lossy.Enabled.{Enabled}
use Rattle.sender.specs.declared.lossy.SenderState.TheVariants as State
use Rattle.sender.specs.declared.lossy.LossySender.{LossySender}
use Rattle.sender.specs.declared.lossy.Heard.TheVariants.{Counted}
use Rattle.link.specs.Link.{admits, admitted, receive_of, is_due, try_deliver}
use Rattle.sender.specs.Sender.{returned_of}
use Rattle.toggler.specs.Queue.{sooner, pick_of}
use Rattle.points.specs.Points.{Hold, points, outputs, halfway, smallest, one, at_one, first, silent, dropped}
use Rattle.points.proofs.Claims.{◌and◌}

drawn_zero : (draw_of smallest halfway).value ≡ zero_f
unfolding halfway all_zero replaced from_words output_of sample_of unit_of uniform_of draw_of div mul add sub neg sum of_int round units odd size span climb
drawn_zero = refl

not_positive : lt zero_f (draw_of smallest halfway).value ≡ false
unfolding lt
not_positive = ap (lt zero_f) drawn_zero

redrawn : redraw 8 smallest halfway ≡ redraw 7 smallest (moved_on halfway)
unfolding draw_of unit_of
redrawn = sym (again smallest halfway 0 (omega arith) (draw_of smallest halfway) refl not_positive)

switched-on : (switched_of new_meter true one).number ≡ 0
unfolding switched_of ready meter_fit start_fit mul of_int round units odd size span climb le
switched-on = refl

never_active : (read_of (switched_of new_meter true one).meter one).number ≡ 16
unfolding read_of enabled_time switched_of ready meter_fit start_fit mul add sub neg sum of_int round units odd size span climb le eq
never_active = refl

-- ---- the components

sample_0 : (unit_of silent.rng).value ≡ zero_f
unfolding unit_of sample_of output_of all_zero replaced from_words div of_int round units odd size span climb
sample_0 = refl

kept : (try_deliver silent one first zero_f).left ≡ Left.Out first.packet
unfolding try_deliver is_due unit_of sample_of output_of all_zero replaced from_words div of_int round units odd size span climb lt eq
kept = refl

-- an output is below 2 ^ 64, so a sample is below 1
below_one_lem : (g : Rng) → lt (unit_of g).value (power 0) ≡ true
unfolding unit_of sample_of output_of
below_one_lem g = is_true (lt (unit_of g).value (power 0)) (sample-fine (output_of g / 4096) (omega arith)).2

lost : (l : Line) (clock : Time) (front : Transit) → is_due l clock front ≡ true → (try_deliver l clock front (power 0)).left ≡ Left.Lost front.packet
unfolding try_deliver
lost l clock front due = rw (due, below_one_lem l.rng)

empty-admits : (l : Line) → l.waiting.count ≡ 0 → l.buffer_contains ≡ amount_of 0
    → receive_of (Some 8) l (amount_of 8) ≡ record { number = 0; admitted = true; line = admitted l (amount_of 8) }
unfolding receive_of admits
empty-admits l none bits = rw (none, bits)

full_drops : (l : Line) → l.buffer_contains ≡ amount_of 8 → receive_of (Some 8) l (amount_of 8) ≡ dropped l
unfolding receive_of admits
full_drops l bits = rw bits

limit_0_drops : (l : Line) (bits : ℕ) → 1 ≤ bits → receive_of (Some 0) l (amount_of bits) ≡ dropped l
unfolding receive_of admits
limit_0_drops l bits h = rw (lt-leb (l.buffer_contains.0 + bits) 0 (omega arith))

lowest : pick_of (at_one ∷ at_one ∷ []) ≡ record { time = Some one; part = 0 }
unfolding pick_of sooner lt
lowest = refl

not_before_itself : (x : Float) → lt x x ≡ false
not_before_itself x = is_false (lt x x) (not_T (lt x x) (lt_irrefl x))

counted : (policy : Policy) (s : LossySender) (e : Enabled) (p : Packet) → s.state ≡ State.Enabled e → p.sent_time ≡ e.started
    → (returned_of policy s p).heard ≡ Counted
unfolding returned_of
counted policy s e p on at = rw (on, at, not_before_itself e.started.0.0)

pub points_hold : Hold points
unfolding outputs halfway all_zero replaced from_words output_of moved_on sample_of div of_int round units odd size span climb
points_hold =
    refl and refl and refl
    and sample_0 and kept and lost
    and empty-admits and full_drops and limit_0_drops
    and lowest and counted
    and switched-on and never_active
    and refl and drawn_zero and redrawn
    and tt
