-- A tick and a run give 0 or one of 8 to 13, whatever the state is. Assumes nothing.
use Rattle.std.proofs.Common.{Option, Some, None}
use mathlib.Core.Path.{◌≡◌, refl}
use mathlib.Core.Logic.{inl, inr}
use mathlib.Core.Bool.{not, cond}
use mathlib.Core.List.{List, [], ◌∷◌}
use Prim.Native.Nat.{ℕ, zero, suc}
use native.Mathlib.Omega.{arith}
use lib.Dec.{eqb, leb}
use lib.Ieee.{lt}
use Rattle.quantities.specs.declared.time.Time.{Time}
use Rattle.quantities.specs.Doubles.{zero_f, power}
use Rattle.quantities.specs.Units.{span_of, rate_of}
use Rattle.draws.specs.declared.generator.Rng.{Rng}
use Rattle.draws.specs.declared.distribution.ContinuousDistribution.{ContinuousDistribution}
use Rattle.draws.specs.Draws.{PositiveDraw, draw_of, redraw}
use Rattle.link.specs.declared.link.Line.{Line}
use Rattle.link.specs.declared.link.Arrival.{Arrival}
use Rattle.link.specs.declared.link.Transmitted.{Transmitted}
use Rattle.sender.specs.declared.lossy.Policy.{Policy}
use Rattle.sender.specs.declared.lossy.Enabled.{Enabled}
use Rattle.sender.specs.declared.lossy.SenderState.{SenderState}
use Rattle.sender.specs.declared.lossy.SenderState.TheVariants as State
use Rattle.sender.specs.declared.lossy.Sent.{Sent}
use Rattle.toggler.specs.declared.toggler.Toggled.{Toggled}
use Rattle.link.specs.Ring.{places}
use Rattle.link.specs.Link.{is_free, admits, receive_of, try_deliver, try_transmit}
use Rattle.sender.specs.Sender.{timer_due, not_sent, sent_with, tick_send}
use Rattle.toggler.specs.Toggler.{toggle_draw, toggle_of}
use Rattle.remy.specs.declared.simulation.Simulation.{Simulation}
use Rattle.remy.specs.declared.simulation.Ticked.{Ticked}
use Rattle.remy.specs.declared.simulation.Ran.{Ran}
use Rattle.remy.specs.declared.simulation.TickRecord.{TickRecord}
use Rattle.remy.specs.State.{values_of, Role, link, bouncer, sender, toggler, nobody, role_in, line_at, sender_at, toggler_at, first_of, front_of, packet_bits}
use Rattle.remy.specs.Queue.{requeue}
use Rattle.remy.specs.Fit.{fit}
use Rattle.remy.specs.Tick.{Message, arrives, bounces, returns, switches, Acted, stopped, link_acts, sender_with, sender_acts, toggler_acts, acts_of, Outcome, moves, stops, deliver, deliver_each, answers, deliver_all, pick_again, outcome_with, outcome_of, unmoved, ticked, tick_next, tick_of}
use Rattle.remy.specs.Run.{run_of, TickNumber}
use Rattle.remy.proofs.Steps.{cond_elim}

-- ---- what a part does

-- a part that stops gives its own number
or_stopped : (s : Simulation) (k : ℕ) (a : Acted) → a.number ≡ 0 → TickNumber k → TickNumber (cond (eqb k 0) a (stopped s k)).number
or_stopped s k a z p = cond_elim (λ (x : Acted). TickNumber x.number) (eqb k 0) a (stopped s k) (λ e. inl z) (λ e. p)

transmits : (s : Simulation) (l : ℕ) (x : Line)
    → TickNumber (try_transmit x s.head.clock (first_of s l) (span_of (values_of s.network l).delay) (rate_of (values_of s.network l).rate)).number
unfolding try_transmit
transmits s l x =
    let F : Transmitted → Type 0 = λ t. TickNumber t.number in
    cond_elim F (is_free x s.head.clock) _ _ (λ e. cond_elim F (leb places x.on_line.count) _ _ (λ full. inr (omega arith, omega arith)) (λ room. inl refl)) (λ e. inl refl)

link-acts : (s : Simulation) (l : ℕ) → TickNumber (link_acts s l).number
unfolding link_acts
link-acts s l = or_stopped s _ _ refl (transmits s l (try_deliver (line_at s l) s.head.clock (front_of s l) (values_of s.network l).loss).line)

sends : (sent : ℕ) (policy : Policy) (e : Enabled) (clock : Time) (i : ℕ) → TickNumber (tick_send sent policy e clock i).number
unfolding tick_send
sends sent policy e clock i =
    cond_elim (λ (x : Sent). TickNumber x.number) (leb 16777216 sent) (not_sent sent e clock i) (sent_with sent policy e clock i) (λ spent. inr (omega arith, omega arith)) (λ room. inl refl)

sender-acts : (s : Simulation) (i : ℕ) → TickNumber (sender_acts s i).number
unfolding sender_acts
sender-acts s i = by (sender_at s i).state
  where
    by : (x : SenderState) → TickNumber (sender_with s i x).number
    by State.WaitingForEnable = inr (omega arith, omega arith)
    by (State.Enabled e) =
        cond_elim (λ (a : Acted). TickNumber a.number) (timer_due e s.head.clock) _ _ (λ due. inl refl)
        (λ due. or_stopped s _ _ refl (sends (sender_at s i).packets_sent s.network.policy e s.head.clock i))

-- a draw is positive or spent (8)
draws : (tries : ℕ) (d : ContinuousDistribution) (g : Rng) → TickNumber (redraw tries d g).number
unfolding redraw
draws zero d g = inr (omega arith, omega arith)
draws (suc tries) d g = cond_elim (λ (x : PositiveDraw). TickNumber x.number) (lt zero_f (draw_of d g).value) _ _ (λ a. inl refl) (λ a. draws tries d (draw_of d g).rng)

toggler_acts_lem : (s : Simulation) (i : ℕ) → TickNumber (toggler_acts s i).number
unfolding toggler_acts toggle_of
toggler_acts_lem s i =
    let t = toggler_at s i in
    let d = toggle_draw t s.network.on s.network.off in
    or_stopped s _ _ refl
    (cond_elim (λ (x : Toggled). TickNumber x.number) (eqb d.number 0) _ (record { number = d.number; toggler = t }) (λ a. inl refl)
    (λ a. draws 8 (cond (not t.enabled) s.network.on s.network.off) t.rng))

-- ---- what a message does

abbrev Told : Outcome → Type 0
Told (stops k) = TickNumber k
Told (moves r s) = Unit {0}

delivers : (r : TickRecord) (s : Simulation) (m : Message) → Told (deliver r s m)
unfolding deliver receive_of
delivers r s (arrives l p) =
    let limit = (values_of s.network l).limit in
    let a = receive_of limit (line_at s l) (packet_bits s.network p) in
    let F : Arrival → Type 0 = λ x. TickNumber x.number in
    cond_elim Told (eqb a.number 0) _ _ (λ z. cond_elim Told a.admitted _ _ (λ b. tt) (λ b. tt))
    (λ z. cond_elim F (admits limit (line_at s l).buffer_contains (packet_bits s.network p)) _ _
    (λ fits. cond_elim F (leb places (line_at s l).waiting.count) _ _ (λ full. inr (omega arith, omega arith)) (λ room. inl refl)) (λ over. inl refl))
delivers r s (bounces p) = tt
delivers r s (returns p) = tt
delivers r s (switches i on) = tt

delivers_each : (o : Outcome) → Told o → (ms : List Message) → Told (deliver_each o ms)
delivers_each o k [] = k
delivers_each (stops n) k (m ∷ ms) = k
delivers_each (moves r s) k (m ∷ ms) = delivers_each (deliver r s m) (delivers r s m) ms

delivers_all : (o : Outcome) → Told o → (ms : List Message) → Told (deliver_all o ms)
delivers_all o k ms = delivers_each (deliver_each o ms) (delivers_each o k ms) (answers ms)

picks : (o : Outcome) → Told o → Told (pick_again o)
picks (stops n) k = k
picks (moves r s) k = tt

acts-told : (role : Role) (a : Acted) → TickNumber a.number → Told (outcome_with role a)
acts-told role a k =
    let begun = moves a.note (requeue a.simulation role) in
    cond_elim Told (eqb a.number 0) _ _ (λ z. picks (deliver_all begun a.messages) (delivers_all begun tt a.messages)) (λ z. k)

-- ---- every tick

turn_told : (s : Simulation) (role : Role) → Told (outcome_of s role)
unfolding outcome_of acts_of
turn_told s (link l) = acts-told (link l) (link_acts s l) (link-acts s l)
turn_told s bouncer = inr (omega arith, omega arith)
turn_told s (sender i) = acts-told (sender i) (sender_acts s i) (sender-acts s i)
turn_told s (toggler i) = acts-told (toggler i) (toggler_acts s i) (toggler_acts_lem s i)
turn_told s nobody = inr (omega arith, omega arith)

ticked-told : (s : Simulation) (o : Outcome) → Told o → TickNumber (ticked s o).number
ticked-told s (stops k) p = p
ticked-told s (moves r m) p = inl refl

pub tick_number : (s : Simulation) → TickNumber (tick_of s).number
unfolding tick_of
tick_number s = cond_elim (λ (t : Ticked). TickNumber t.number) (fit s) (tick_next s s.head.next) (unmoved s 9) (λ e. with_next_lem s.head.next) (λ e. inr (omega arith, omega arith))
  where
    with_next_lem : (x : Option ℕ) → TickNumber (tick_next s x).number
    with_next_lem None = inl refl
    with_next_lem (Some j) =
        cond_elim (λ (t : Ticked). TickNumber t.number) (lt (power 40) s.head.clock.0.0) _ _ (λ late. inr (omega arith, omega arith))
        (λ early. ticked-told s (outcome_of s (role_in s.network j)) (turn_told s (role_in s.network j)))

-- ---- every run

pub run_number : (n : ℕ) (s : Simulation) → TickNumber (run_of n s).number
unfolding run_of
run_number zero s = inl refl
run_number (suc n) s =
    cond_elim (λ (r : Ran). TickNumber r.number) (tick_of s).moved _ _ (λ more. run_number n (tick_of s).simulation) (λ last. tick_number s)
