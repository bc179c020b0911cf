-- The values of a network's lines with their ranges, and the clauses of `fit` (the crate `remy`, specs/Fit.antt) that read the network, the head and the lines, and not the packets.
-- Definitions only.
use Rattle.std.specs.Prelude.{ℕ, zero, suc, ◌≤◌, ◌<◌, Bool, not, ◌&&◌, ◌||◌, cond, List, leb, ltb, eqb, get_or, Option}
use Rattle.std.specs.Float.Ieee.{le, eq}
use Rattle.quantities.specs.declared.time.Time.{Time}
use Rattle.quantities.specs.Doubles.{zero_f, largest, in_range}
use Rattle.draws.specs.Generator.{all_zero}
use Rattle.link.specs.declared.link.Line.{Line}
use Rattle.link.specs.declared.link.LineValues.{LineValues}
use Rattle.link.specs.Ring.{places}
use Rattle.remy.specs.declared.network.RemyNetwork.{RemyNetwork}
use Rattle.remy.specs.declared.simulation.Head.{Head}
use Rattle.remy.specs.Network.{up_to, delay_fit, rate_fit, loss_fit, limit_fit, network_stop}
use Rattle.remy.specs.State.{line_count, back_values, no_line}
use Rattle.remy.specs.Fit.{held, is_idle}

-- the values of line l, of the first line's and those of a return line
abbrev pub values_at : LineValues → Option LineValues → ℕ → LineValues
values_at first back zero = first
values_at first back (suc l) = back_values first back

-- the number of the first of the ranges 1 to 4 that a line's values are not in, or what the tests after them give
unfoldable pub values_stop : LineValues → ℕ → ℕ
values_stop v later =
    cond (delay_fit v.delay) (cond (rate_fit v.rate) (cond (loss_fit v.loss) (cond (limit_fit v.limit) later 4) 3) 2) 1

-- counts and starts of the rings
unfoldable pub rings_test : Line → Bool
rings_test l =
    leb l.waiting.count places
    && leb l.on_line.count places
    && ltb l.waiting.start places
    && ltb l.on_line.start places

-- a line: its rings, the earliest start, the words of its generator
unfoldable pub line_test : Line → Bool
line_test l = rings_test l && held l.earliest_transmit && not (all_zero l.rng)

-- the first n lines
unfoldable pub lines_test : List Line → ℕ → Bool
lines_test lines n = up_to n (λ l. line_test (get_or lines l no_line))

-- the clock is held, or MAX where the state is idle
unfoldable pub clock_held : Head → Bool
clock_held h = held h.clock || is_idle h.next && eq h.clock.0.0 largest

-- the network, the clock, the lines that there are
unfoldable pub frame_test : RemyNetwork → Head → List Line → Bool
frame_test n h lines = eqb (network_stop n) 0 && le zero_f h.clock.0.0 && clock_held h && lines_test lines (line_count n)

-- a time that is held, and not after the clock
unfoldable pub past_test : Time → Time → Bool
past_test clock t = held t && in_range zero_f clock.0.0 t.0.0

-- what `rings_test` shows of a line: the rings start at a place of theirs and have at most as many items
pub record InRings (l : Line) : Type 0 where
  pub wstart : l.waiting.start < 512
  pub wcount : l.waiting.count ≤ 512
  pub mstart : l.on_line.start < 512
  pub mcount : l.on_line.count ≤ 512

-- the same of each of the first n lines
pub record AllInRings (lines : List Line) (n : ℕ) : Type 0 where
  pub each : (l : ℕ) → l < n → InRings (get_or lines l no_line)
