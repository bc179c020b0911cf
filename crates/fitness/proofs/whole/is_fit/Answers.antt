-- What the groups so far show, at each point where one passed; each return is what that and its own group say of `fit`. Assumes nothing.
use mathlib.Core.Path.{◌≡◌, ◌∙◌}
use mathlib.Core.Bool.{true}
use Prim.Native.Nat.{◌≤◌}
use Rattle.quantities.proofs.Tested.{passed, failed}
use Rattle.ranges.specs.Frame.{AllInRings}
use Rattle.ranges.proofs.Bounds.{Framed, frame_framed, counted_rings}
use Rattle.fitness.proofs.Groups.{frame, packets, senders, by_lines, by_counts, by_links, stops_frame, stops_packets, stops_senders, ends_queue}
use Rattle.fitness.proofs.whole.is_fit.Goals as goal
use Rattle.fitness.proofs.whole.is_fit.Goals.{After-line_count-count, After-packets_fit, After-senders_fit, Else-not-frame_fit, Else-not-packets_fit}

passed-frame : (p : Else-not-frame_fit) → frame p.args.simulation ≡ true
passed-frame p = passed p.frame_fit.ensures p.if-not-frame_fit.false

framed : (p : Else-not-frame_fit) → Framed p.args.simulation.network p.args.simulation.lines
framed p = frame_framed p.args.simulation.network p.args.simulation.head p.args.simulation.lines (passed-frame p)

-- the lines, of which there are as many as were counted
rings : (p : After-line_count-count) → (p.line_count-count.result ≤ 2) × AllInRings p.args.simulation.lines p.line_count-count.result
rings p = counted_rings p.args.simulation.network p.args.simulation.lines (framed (goal.at.After-line_count-count p).Else-not-frame_fit).rings p.line_count-count.result p.line_count-count.ensures

tested : (p : After-packets_fit) → p.packets_fit.result ≡ packets p.args.simulation
tested p = by_lines p.args.simulation p.line_count-count.result p.line_count-count.ensures p.packets_fit.result p.packets_fit.ensures

passed-packets : (p : Else-not-packets_fit) → packets p.args.simulation ≡ true
passed-packets p = passed (tested (goal.at.Else-not-packets_fit p).After-packets_fit) p.if-not-packets_fit.false

counted : (p : After-senders_fit) → p.senders_fit.result ≡ senders p.args.simulation
counted p =
    by_counts p.args.simulation p.line_count-count.result p.line_count-count.ensures (framed (goal.at.After-senders_fit p).Else-not-frame_fit).few p.under_way-found.result.counts p.under_way-found.ensures.0
    p.senders_fit.result p.senders_fit.ensures

pub returns-then-not-frame_fit : goal.returns-then-not-frame_fit
returns-then-not-frame_fit c = stops_frame c.args.simulation (failed c.frame_fit.ensures c.if-not-frame_fit.true)

pub packets_fit-requires : goal.packets_fit-requires
packets_fit-requires c =
    let f = framed (goal.at.packets_fit-requires c).Else-not-frame_fit in
    let r = rings (goal.at.packets_fit-requires c).After-line_count-count in
    (f.few, record { each = f.small }, r.0, r.1)

pub returns-then-not-packets_fit : goal.returns-then-not-packets_fit
returns-then-not-packets_fit c = stops_packets c.args.simulation (passed-frame (goal.at.returns-then-not-packets_fit c).Else-not-frame_fit) (failed (tested (goal.at.returns-then-not-packets_fit c).After-packets_fit) c.if-not-packets_fit.true)

pub under_way-found-requires : goal.under_way-found-requires
under_way-found-requires c = rings (goal.at.under_way-found-requires c).After-line_count-count

pub senders_fit-requires : goal.senders_fit-requires
senders_fit-requires c =
    let f = framed (goal.at.senders_fit-requires c).Else-not-frame_fit in
    (f.few, record { each = f.small }, c.under_way-found.ensures.0.most)

pub returns-else-senders_fit : goal.returns-else-senders_fit
returns-else-senders_fit c =
    c.if-senders_fit.false
    ∙ stops_senders c.args.simulation (passed-frame (goal.at.returns-else-senders_fit c).Else-not-frame_fit) (passed-packets (goal.at.returns-else-senders_fit c).Else-not-packets_fit) (failed (counted (goal.at.returns-else-senders_fit c).After-senders_fit) c.if-senders_fit.false)

pub queue_fit-requires : goal.queue_fit-requires
queue_fit-requires c = (framed (goal.at.queue_fit-requires c).Else-not-frame_fit).few

pub returns-then-senders_fit : goal.returns-then-senders_fit
returns-then-senders_fit c =
    let s = c.args.simulation in
    ends_queue s (passed-frame (goal.at.returns-then-senders_fit c).Else-not-frame_fit) (passed-packets (goal.at.returns-then-senders_fit c).Else-not-packets_fit) (passed (counted (goal.at.returns-then-senders_fit c).After-senders_fit) c.if-senders_fit.true) c.queue_fit.result
    (by_links s c.line_count-count.result c.line_count-count.ensures c.under_way-found.result.links c.under_way-found.ensures.1 c.has_back.result
    c.has_back.ensures c.queue_fit.result c.queue_fit.ensures)
