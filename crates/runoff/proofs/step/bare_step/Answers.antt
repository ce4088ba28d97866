use Rattle.std.proofs.Common.{◌≡◌, ◌+ℤ◌}
use Rattle.std.proofs.lemmas.Int.{to_z-of_z}
use Rattle.fixed_num.proofs.Bounds.{within_between, fits64}
use Rattle.runoff.specs.RunoffStep.{bare_step_of}
use Rattle.runoff.proofs.step.bare_step.Goals as goal

pub returns-clause-value : goal.returns-clause-value
unfolding bare_step_of
returns-clause-value c =
    let depth = within_between c.requires.depth in
    let rain = within_between c.depth_over-rain.ensures.range in
    let p = c.requires.plane in
    let a = c.bare.ensures.value in
    let r = simp (to_z-of_z, c.ranges.rate, c.ranges.ms) at c.depth_over-rain.ensures.value in
    let s = simp (to_z-of_z, fits64 depth tt, fits64 rain tt, c.ranges.ms) at c.subarea_step.ensures.value in
    cc (p, a, r, s)

pub returns-clause-depth : goal.returns-clause-depth
returns-clause-depth c =
    let depth = within_between c.requires.depth in
    let rain = within_between c.depth_over-rain.ensures.range in
    let r = simp (to_z-of_z, c.ranges.rate, c.ranges.ms) at c.depth_over-rain.ensures.value in
    let d = simp (to_z-of_z, fits64 depth tt, fits64 rain tt) at c.subarea_step.ensures.depth in
    rw (← r) d
