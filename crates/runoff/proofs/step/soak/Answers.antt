use Rattle.std.proofs.Common.{◌≡◌, ◌+ℤ◌, FitsSigned, rules}
use Rattle.std.specs.Int.{w64}
use Rattle.std.proofs.lemmas.Int.{to_z-of_z}
use Rattle.fixed_num.proofs.Bounds.{within_add, within_between, fits64}
use Rattle.runoff.specs.RunoffStep.{soaked_of}
use Rattle.runoff.proofs.step.soak.Goals as goal

pub returns-clause-taken : goal.returns-clause-taken
unfolding soaked_of
returns-clause-taken c =
    let depth = within_between c.requires.state.depths.pervious in
    let rain = within_between c.depth_over-rain.ensures.range in
    let taken : FitsSigned w64 c.infiltrate-taken.result = search rules in
    let i = c.infil_in.ensures.value in
    let r = simp (to_z-of_z, c.ranges.rate, c.ranges.ms) at c.depth_over-rain.ensures.value in
    let t = simp (
      to_z-of_z,
      fits64 depth tt,
      fits64 rain tt,
      fits64 (within_add depth rain) tt,
      c.ranges.ms,
    ) at c.infiltrate-taken.ensures.taken in
    simp (to_z-of_z, taken) (cc (i, r, t))

pub returns-clause-infil : goal.returns-clause-infil
returns-clause-infil c =
    let depth = within_between c.requires.state.depths.pervious in
    let rain = within_between c.depth_over-rain.ensures.range in
    let i = c.infil_in.ensures.value in
    let r = simp (to_z-of_z, c.ranges.rate, c.ranges.ms) at c.depth_over-rain.ensures.value in
    let t = simp (
      to_z-of_z,
      fits64 depth tt,
      fits64 rain tt,
      fits64 (within_add depth rain) tt,
      c.ranges.ms,
    ) at c.infiltrate-taken.ensures.after in
    cc (i, r, t)

pub returns-clause-range : goal.returns-clause-range
returns-clause-range c =
    let depth = within_between c.requires.state.depths.pervious in
    let rain = within_between c.depth_over-rain.ensures.range in
    let taken : FitsSigned w64 c.infiltrate-taken.result = search rules in
    let r = simp (to_z-of_z, c.ranges.rate, c.ranges.ms) at c.depth_over-rain.ensures.value in
    let t = simp (
      to_z-of_z,
      fits64 depth tt,
      fits64 rain tt,
      fits64 (within_add depth rain) tt,
    ) at c.infiltrate-taken.ensures.range in
    simp (to_z-of_z, taken) (rw (← r) t)

pub returns-clause-growth : goal.returns-clause-growth
returns-clause-growth c =
    let rain = within_between c.depth_over-rain.ensures.range in
    let i = c.infil_in.ensures.value in
    let slow = simp (to_z-of_z, c.ranges.rate, c.ranges.ms) at c.depth_over-rain.ensures.slow in
    let g = simp (to_z-of_z, fits64 rain tt, c.ranges.ms) at c.infiltrate-taken.ensures.growth in
    let k = rw i at g in
    k slow
