-- The reaches so far, and the draws that they took.
use Rattle.std.proofs.Common.{◌≡◌, ℕ, ◌+◌, ◌-◌, ◌*◌, ◌≤◌}
use Rattle.sample_maker.specs.Draws.{state_after}
use Rattle.sample_maker.specs.Reaches.{elevation_at, reaches_of}
use Rattle.sample_maker.proofs.reaches.draw_reaches.Given as goal

abbrev pub invariant-loop-count : goal.invariant-loop-count
invariant-loop-count l = record {
  reaches : l.reaches ≡ reaches_of l.fn.number l.count;
  state : l.draws.state ≡ state_after l.fn.number (5 * l.count - 2);
  low : (k : ℕ) → elevation_at l.reaches k ≤ 100 + 24 * l.count;
}
