-- `builder::queue::queue_all` meets its contract: whose turn a place would be says which part is there, and each turn of the loop fills one place. Assumes nothing.
use Prim.Native.Nat.{◌<◌}
use mathlib.Core.Path.{◌≡◌, sym, ap, ◌∙◌}
use mathlib.Core.Bool.{Bool}
use mathlib.Core.List.{List}
use native.Mathlib.Omega.{arith}
use lib.ListN.{length-set}
use Rattle.std.proofs.Common.{Option}
use Rattle.quantities.specs.declared.time.Time.{Time}
use Rattle.toggler.specs.declared.tick_queue.Queued.{Queued}
use Rattle.link.specs.Ring.{places}
use Rattle.remy.specs.declared.simulation.Simulation.{Simulation}
use Rattle.remy.specs.State.{has_back, role_of, role_in, line_at, with_queue}
use Rattle.remy.specs.Queue.{own_time, next_time_of}
use Rattle.remy.specs.Build.{queued_all}
use Rattle.remy.proofs.Facts.{lines_few}
use Rattle.queueing.specs.declared.Now.{Now}
use Rattle.queueing.specs.Queueing.{now_role}
use Rattle.builder.proofs.Places.{TimeAs, time_as, one-queued, all_queued_lem}
use Rattle.builder.proofs.queue.queue_all.Goals as goal
use Rattle.builder.proofs.queue.queue_all.Goals.{After-role, In-Link, In-Sender, In-Toggler, in-Stop, in-Link, in-Sender, in-Toggler}

abbrev whole : After-role → Simulation
whole p = p.args.simulation

-- the next time of the part, which is there
time-known : (p : After-role) (w : Now) → p.role.result ≡ w → TimeAs (whole p) (next_time_of (whole p) p.loop-k.k) w
time-known p w e =
    let known : p.role.result ≡ now_role (role_in (whole p).network p.loop-k.k) = p.role.ensures ∙ ap (λ (b : Bool). now_role (role_of (whole p).network.senders b p.loop-k.k)) p.has_back-returns.ensures in
    time_as (whole p) p.loop-k.k p.role.result w known e

line-there : (p : In-Link) → p.in-Link.l < 2
line-there p =
    let r = p.before in
    omega (arith, lines_few (has_back (whole r).network.back), (time-known r _ p.in-Link.is).0)

front-there : (p : In-Link) → (line_at (whole p.before) p.in-Link.l).on_line.start < places
front-there p = let r = p.before in p.requires.1 _ (time-known r _ p.in-Link.is).0

sender-there : (p : In-Sender) → p.in-Sender.i < 16
sender-there p = let r = p.before in omega (arith, p.requires.0, (time-known r _ p.in-Sender.is).0)

toggler-there : (p : In-Toggler) → p.in-Toggler.i < 16
toggler-there p = let r = p.before in omega (arith, p.requires.0, (time-known r _ p.in-Toggler.is).0)

pub offset_bounds-simulation-l : goal.offset_bounds-simulation-l
offset_bounds-simulation-l c = omega (arith, line-there c)

pub bounds-simulation-l : goal.bounds-simulation-l
bounds-simulation-l c = line-there c

pub overflow_mul-front : goal.overflow_mul-front
overflow_mul-front c = omega (arith, line-there (goal.at.overflow_mul-front c).In-Link)

pub overflow_add-front : goal.overflow_add-front
overflow_add-front c = omega (arith, line-there (goal.at.overflow_add-front c).In-Link, front-there (goal.at.overflow_add-front c).In-Link)

pub offset_bounds-simulation-l-in-Link : goal.offset_bounds-simulation-l-in-Link
offset_bounds-simulation-l-in-Link c = omega (arith, line-there (goal.at.offset_bounds-simulation-l-in-Link c).In-Link, front-there (goal.at.offset_bounds-simulation-l-in-Link c).In-Link)

pub bounds-simulation-l-in-Link : goal.bounds-simulation-l-in-Link
bounds-simulation-l-in-Link c = omega (arith, line-there (goal.at.bounds-simulation-l-in-Link c).In-Link, front-there (goal.at.bounds-simulation-l-in-Link c).In-Link)

pub offset_bounds-simulation-i : goal.offset_bounds-simulation-i
offset_bounds-simulation-i c = omega (arith, sender-there c)

pub bounds-simulation-i : goal.bounds-simulation-i
bounds-simulation-i c = sender-there c

pub offset_bounds-simulation-i-in-Toggler : goal.offset_bounds-simulation-i-in-Toggler
offset_bounds-simulation-i-in-Toggler c = omega (arith, toggler-there c)

pub bounds-simulation-i-in-Toggler : goal.bounds-simulation-i-in-Toggler
bounds-simulation-i-in-Toggler c = toggler-there c

pub loop-k-preserved : goal.loop-k-preserved
unfolding own_time
loop-k-preserved c =
    let L = c.loop-k in
    let r = (goal.at.loop-k-preserved c).After-role in
    let own : c.match-role.time ≡ next_time_of c.args.simulation L.k =
    elim c.match-role.branch [
      | in-Stop w ↦ w.time-is ∙ sym (time-known r _ w.in-Stop.is)
      | in-Link w ↦ w.time-is ∙ w.next_tick-time.ensures ∙ sym (time-known r _ w.in-Link.is).1
      | in-Sender w ↦ w.time-is ∙ w.next_tick-time-in-Sender.ensures ∙ sym (time-known r _ w.in-Sender.is).1
      | in-Toggler w ↦ w.time-is ∙ ap (λ (q : Queued). q.time) w.toggler_slot.ensures ∙ sym (time-known r _ w.in-Toggler.is).1
    ] in (
      length-set L.queue L.k _ ∙ L.invariant.0,
      one-queued c.args.simulation L.queue L.k L.invariant.0 c.loop-k-test.true _ (ap (λ (t : Option Time). record { time = t }) own) ∙ L.invariant.1,
    )

pub returns : goal.returns
unfolding queued_all
returns c =
    let L = c.loop-k in
    let S = c.args.simulation in
    ap (λ (q : List Queued). with_queue S q) (all_queued_lem S L.queue L.k L.invariant.0 c.loop-k-test.false ∙ L.invariant.1)
