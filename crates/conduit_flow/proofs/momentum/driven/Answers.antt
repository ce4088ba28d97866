use Rattle.std.proofs.Common.{◌*◌, ◌^◌}
use Rattle.std.proofs.lemmas.Int.{to_z-of_z}
use Rattle.fixed_num.proofs.Bounds.{within_add, within_between, within_sub, within_up, fits64, fits128, fits_wider}
use Rattle.conduit_flow.specs.Momentum.{driven_of}
use Rattle.conduit_flow.proofs.RangeLemmas.{step-between}
use Rattle.conduit_flow.proofs.InertiaLemmas.{rise-within}
use Rattle.conduit_flow.proofs.momentum.driven.Goals as goal

pub local-local-requires-clause-change : goal.local-local-requires-clause-change
local-local-requires-clause-change c =
    let area = within_between c.requires.middle.area in
    let old = within_between c.requires.fixed.area in
    let change = within_sub area old in
    simp (to_z-of_z, fits64 area tt, fits64 old tt, fits64 change tt) (within_up change tt)

pub convective-convective-requires-clause-rise : goal.convective-convective-requires-clause-rise
convective-convective-requires-clause-rise c =
    let rise = rise-within c.requires.ends.area1 c.requires.ends.area2 in
    simp (to_z-of_z, fits64 (within_between c.requires.ends.area1) tt, fits64 (within_between c.requires.ends.area2) tt, fits64 rise tt) rise

pub overflow_add-result-3 : goal.overflow_add-result-3
overflow_add-result-3 c =
    let s1 = within_add c.requires.old c.local-local.ensures.range in
    let s2 = within_add s1 c.convective-convective.ensures.range in
    simp (
      to_z-of_z,
      c.ranges.old,
      fits_wider _ c.ranges.old,
      fits128 c.local-local.ensures.range tt,
      fits128 c.convective-convective.ensures.range tt,
      fits128 c.pressure-pressure.ensures.range tt,
      fits128 s1 tt,
      fits128 s2 tt,
    )
    (fits128 (within_add s2 c.pressure-pressure.ensures.range) tt)

pub returns-clause-value : goal.returns-clause-value
unfolding driven_of
returns-clause-value c =
    let area = fits64 (within_between c.requires.middle.area) tt in
    let old_area = fits64 (within_between c.requires.fixed.area) tt in
    let change = fits64 (within_sub (within_between c.requires.middle.area) (within_between c.requires.fixed.area)) tt in
    let area1 = fits64 (within_between c.requires.ends.area1) tt in
    let area2 = fits64 (within_between c.requires.ends.area2) tt in
    let rise = fits64 (rise-within c.requires.ends.area1 c.requires.ends.area2) tt in
    let surface1 = fits64 c.requires.ends.surface1 tt in
    let surface2 = fits64 c.requires.ends.surface2 tt in
    let fall = fits64 (within_sub c.requires.ends.surface1 c.requires.ends.surface2) tt in
    let length = fits64 (within_between c.requires.conduit.length) tt in
    let dt = fits64 (within_between (step-between c.requires.fixed.length)) tt in
    let inertia = fits64 (within_between c.inertia-inertia.ensures.range.range) tt in
    let i = simp (to_z-of_z, c.ranges.velocity) at c.inertia-inertia.ensures.value in
    let l = simp (to_z-of_z, inertia, c.ranges.velocity, area, old_area, change) at c.local-local.ensures.value in
    let v = simp (to_z-of_z, inertia, c.ranges.velocity, area1, area2, rise, dt, length) at c.convective-convective.ensures.value in
    let p = simp (to_z-of_z, area, surface1, surface2, fall, dt, length) at c.pressure-pressure.ensures.value in
    let s1 = within_add c.requires.old c.local-local.ensures.range in
    let s2 = within_add s1 c.convective-convective.ensures.range in
    let s3 = within_add s2 c.pressure-pressure.ensures.range in
    simp (
      to_z-of_z,
      c.ranges.old,
      fits_wider _ c.ranges.old,
      fits128 c.local-local.ensures.range tt,
      fits128 c.convective-convective.ensures.range tt,
      fits128 c.pressure-pressure.ensures.range tt,
      fits128 s1 tt,
      fits128 s2 tt,
      fits128 s3 tt,
    )
    (cc (i, l, v, p))

pub returns-clause-range : goal.returns-clause-range
returns-clause-range c =
    let s1 = within_add c.requires.old c.local-local.ensures.range in
    let s2 = within_add s1 c.convective-convective.ensures.range in
    let s3 = within_add s2 c.pressure-pressure.ensures.range in
    simp (
      to_z-of_z,
      c.ranges.old,
      fits_wider _ c.ranges.old,
      fits128 c.local-local.ensures.range tt,
      fits128 c.convective-convective.ensures.range tt,
      fits128 c.pressure-pressure.ensures.range tt,
      fits128 s1 tt,
      fits128 s2 tt,
      fits128 s3 tt,
    )
    (within_up s3 tt)
