use Rattle.std.proofs.Common.{◌≡◌, ◌+◌, pos, ◌+ℤ◌, arith}
use Rattle.std.proofs.lemmas.Int.{ints, to_z-of_z}
use Rattle.fixed_num.specs.Ranges.{IsBetween}
use Rattle.fixed_num.specs.Sums.{sum_below}
use Rattle.fixed_num.proofs.Bounds.{within_between, fits64}
use Rattle.runoff.specs.Overland.{depth_after, left_of, outflow_of, runoff_of, substep_of, substeps}
use Rattle.runoff.proofs.OverlandLemmas.{at_end, next_left, next_runoff}
use Rattle.runoff.proofs.overland.drain.Goals as goal

pub loop-turn-preserved : goal.loop-turn-preserved
loop-turn-preserved c =
    let part = fits64 (within_between c.substep-part.ensures.range) tt in
    let p = simp (to_z-of_z, c.ranges.ms) at c.substep-part.ensures.value in
    let l = simp (to_z-of_z, part) at c.after_substep-water.ensures.left in
    let r = simp (to_z-of_z, part) at c.after_substep-water.ensures.runoff in
    let range = c.after_substep-water.ensures.range in
    let i = simp (to_z-of_z, c.ranges.ms, c.ranges.depth) at c.loop-turn.invariant in
    simp (to_z-of_z, c.ranges.ms, c.ranges.depth) (record {
      left = next_left c.args.plane.now c.args.cover.now c.args.ms c.args.depth c.loop-turn.turn p i.left l;
      runoff = next_runoff c.args.plane.now c.args.cover.now c.args.ms c.args.depth
          c.loop-turn.turn p i.left i.runoff r;
      all = omega (arith, ints, l, r, i.all);
      range = record { from = range.from; to = omega (arith, ints, range.to, i.range.to) };
    })

pub returns-clause-left : goal.returns-clause-left
unfolding left_of
returns-clause-left c =
    let i = simp (to_z-of_z, c.ranges.ms, c.ranges.depth) at c.loop-turn.invariant in
    at_end (depth_after c.args.plane.now c.args.cover.now c.args.ms c.args.depth) _
    c.loop-turn.turn substeps i.left
    (omega (arith, c.loop-turn-test.false, c.loop-turn.auto.turn-end))

pub returns-clause-runoff : goal.returns-clause-runoff
unfolding runoff_of
returns-clause-runoff c =
    let i = simp (to_z-of_z, c.ranges.ms, c.ranges.depth) at c.loop-turn.invariant in
    at_end (sum_below (λ k. outflow_of c.args.plane.now c.args.cover.now (substep_of c.args.ms)
    (depth_after c.args.plane.now c.args.cover.now c.args.ms c.args.depth k))) _
    c.loop-turn.turn substeps i.runoff
    (omega (arith, c.loop-turn-test.false, c.loop-turn.auto.turn-end))
