-- The water so far.
use Rattle.std.proofs.Common.{◌≡◌, pos, ◌+ℤ◌}
use Rattle.fixed_num.specs.Ranges.{IsBetween}
use Rattle.fixed_num.specs.Sums.{sum_below}
use Rattle.runoff.specs.Overland.{depth_after, outflow_of, substep_of}
use Rattle.runoff.proofs.overland.drain.Given as goal

abbrev pub invariant-loop-turn : goal.invariant-loop-turn
invariant-loop-turn l = record {
  left : l.water.left ≡ depth_after l.plane l.cover l.ms l.depth l.turn;
  runoff : l.water.runoff
      ≡ sum_below (λ k. outflow_of l.plane l.cover (substep_of l.ms) (depth_after l.plane l.cover l.ms l.depth k)) l.turn;
  all : l.water.left +ℤ l.water.runoff ≡ l.depth;
  range : IsBetween (pos 0) l.water.left l.depth;
}
