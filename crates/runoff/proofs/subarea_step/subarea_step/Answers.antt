use Rattle.std.proofs.Common.{FitsSigned, rules}
use Rattle.std.specs.Int.{w64}
use Rattle.std.proofs.lemmas.Int.{to_z-of_z}
use Rattle.fixed_num.proofs.Bounds.{within_add, within_sub, within_up, within_between, fits64, fits128}
use Rattle.runoff.specs.RunoffStep.{subarea_step_of}
use Rattle.runoff.proofs.OverlandLemmas.{within_depth}
use Rattle.runoff.proofs.subarea_step.subarea_step.Goals as goal

pub returns-clause-value : goal.returns-clause-value
unfolding subarea_step_of
returns-clause-value c =
    let sum = within_add (within_between c.requires.depth) (within_between c.requires.rain) in
    let rest = within_sub sum (within_depth c.requires.taken sum) in
    let area = fits64 c.requires.area tt in
    let left : FitsSigned w64 c.drain-water.result.left = search rules in
    let runoff : FitsSigned w64 c.drain-water.result.runoff = search rules in
    let l = simp (
      to_z-of_z,
      c.ranges.depth,
      c.ranges.rain,
      c.ranges.taken,
      c.ranges.ms,
      fits64 sum tt,
      fits64 rest tt,
    ) at c.drain-water.ensures.left in
    let r = simp (
      to_z-of_z,
      c.ranges.depth,
      c.ranges.rain,
      c.ranges.taken,
      c.ranges.ms,
      fits64 sum tt,
      fits64 rest tt,
    ) at c.drain-water.ensures.runoff in
    let v1 = simp (to_z-of_z, area, left) at c.volume.ensures.value in
    let v2 = simp (to_z-of_z, area, c.ranges.depth) at c.volume-2.ensures.value in
    let v3 = simp (to_z-of_z, area, c.ranges.rain) at c.volume-3.ensures.value in
    let v4 = simp (to_z-of_z, area, c.ranges.taken) at c.volume-4.ensures.value in
    let v5 = simp (to_z-of_z, area, runoff) at c.volume-5.ensures.value in
    simp (
      to_z-of_z,
      left,
      fits128 c.volume.ensures.range tt,
      fits128 c.volume-2.ensures.range tt,
      fits128 (within_sub c.volume.ensures.range c.volume-2.ensures.range) tt,
      fits128 c.volume-3.ensures.range tt,
      fits128 c.volume-4.ensures.range tt,
      fits128 c.volume-5.ensures.range tt,
    )
    (cc (l, r, v1, v2, v3, v4, v5))

pub returns-clause-volumes : goal.returns-clause-volumes
returns-clause-volumes c =
    let stored = within_sub c.volume.ensures.range c.volume-2.ensures.range in
    simp (
      to_z-of_z,
      fits128 c.volume.ensures.range tt,
      fits128 c.volume-2.ensures.range tt,
      fits128 stored tt,
      fits128 c.volume-3.ensures.range tt,
      fits128 c.volume-4.ensures.range tt,
      fits128 c.volume-5.ensures.range tt,
    )
    (record {
      rain = within_up c.volume-3.ensures.range tt;
      infil = within_up c.volume-4.ensures.range tt;
      runoff = within_up c.volume-5.ensures.range tt;
      stored = stored;
    })
