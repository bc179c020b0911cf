-- What the tests of network and lines show where they pass: bounds of the numbers that later tests read. And the values of a line. Assumes nothing.
use Prim.Native.Nat.{ℕ, zero, suc, ◌≤◌, ◌<◌}
use mathlib.Core.Path.{◌≡◌, refl}
use mathlib.Core.Bool.{true, not, ◌&&◌}
use mathlib.Core.List.{List}
use lib.Dec.{leb, ltb, eqb}
use lib.ListN.{get_or}
use lib.Ieee.{le}
use borrow.Author.Tests.{leb-true, ltb-true, eqb-true}
use Rattle.quantities.specs.Doubles.{zero_f}
use Rattle.draws.specs.Generator.{all_zero}
use Rattle.link.specs.declared.link.Line.{Line}
use Rattle.link.specs.Ring.{places}
use Rattle.remy.specs.declared.network.RemyNetwork.{RemyNetwork}
use Rattle.remy.specs.declared.simulation.Head.{Head}
use Rattle.remy.specs.Network.{network_stop}
use Rattle.remy.specs.State.{has_back, line_count, values_of, no_line}
use Rattle.remy.specs.Fit.{held}
use Rattle.remy.proofs.Facts.{both_l, both_r, up_to-at, lines_few}
use Rattle.remy.proofs.Networks.{fit-network, few_senders, few_bits}
use Rattle.ranges.specs.Frame.{values_at, rings_test, line_test, lines_test, clock_held, frame_test, InRings, AllInRings}

pub values_same : (n : RemyNetwork) (l : ℕ) → values_at n.line n.back l ≡ values_of n l
values_same n zero = refl
values_same n (suc l) = refl

-- what later tests rely on, which `frame_test` shows: few senders, few bits in the packets of each, and rings with starts and counts in their ranges
pub record Framed (n : RemyNetwork) (lines : List Line) : Type 0 where
  pub small : (i : ℕ) → i < n.senders → get_or n.bits i 0 ≤ 16777216
  pub few : n.senders ≤ 16
  pub rings : AllInRings lines (line_count n)

pub in_rings : (l : Line) → rings_test l ≡ true → InRings l
unfolding rings_test
in_rings l r =
    let a = leb l.waiting.count places in
    let b = leb l.on_line.count places in
    let c = ltb l.waiting.start places in
    let d = ltb l.on_line.start places in
    let abc = both_l (a && b && c) d r in
    let ab = both_l (a && b) c abc in
    record {
      wstart = ltb-true l.waiting.start places (both_r (a && b) c abc);
      wcount = leb-true l.waiting.count places (both_l a b ab);
      mstart = ltb-true l.on_line.start places (both_r (a && b && c) d r);
      mcount = leb-true l.on_line.count places (both_r a b ab);
    }

line_rings : (l : Line) → line_test l ≡ true → InRings l
unfolding line_test
line_rings l e =
    let a = rings_test l in
    let b = held l.earliest_transmit in
    in_rings l (both_l a b (both_l (a && b) (not (all_zero l.rng)) e))

lines_rings : (lines : List Line) (n : ℕ) → lines_test lines n ≡ true → AllInRings lines n
unfolding lines_test
lines_rings lines n e = record { each = λ l h. line_rings (get_or lines l no_line) (up_to-at n _ e l h) }

pub frame_framed : (n : RemyNetwork) (h : Head) (lines : List Line) → frame_test n h lines ≡ true → Framed n lines
unfolding frame_test
frame_framed n h lines e =
    let a = eqb (network_stop n) 0 in
    let b = le zero_f h.clock.0.0 in
    let c = clock_held h in
    let d = lines_test lines (line_count n) in
    let stop = eqb-true (network_stop n) 0 (both_l a b (both_l (a && b) c (both_l (a && b && c) d e))) in
    record {
      small = few_bits (fit-network n stop);
      few = few_senders (fit-network n stop);
      rings = lines_rings lines (line_count n) (both_r (a && b && c) d e);
    }

-- so many lines as there are: at most two, and their rings in their ranges
pub counted_rings : (n : RemyNetwork) (lines : List Line) → AllInRings lines (line_count n) → (count : ℕ) → count ≡ line_count n → (count ≤ 2) × AllInRings lines count
counted_rings n lines rings count e = rw e (lines_few (has_back n.back), rings)
