use Rattle.std.proofs.Common.{◌≡◌, ◌*◌, ◌^◌, FitsSigned, rules}
use Rattle.std.specs.Int.{w64}
use Rattle.std.proofs.lemmas.Int.{to_z-of_z}
use Rattle.fixed_num.specs.Ranges.{IsWithin}
use Rattle.fixed_num.proofs.Bounds.{within_between, within_max, within_sub, fits64}
use Rattle.orifice_weir.specs.OrificeFlow.{orifice_head_of}
use Rattle.orifice_weir.proofs.orifice.orifice_head.Goals as goal
use Rattle.orifice_weir.proofs.orifice.orifice_head.Goals.{After-max}

most : (c : After-max) → IsWithin (4 * 10 ^ 10) c.max.result
most c =
    let low = within_between c.lower-low.ensures.range in
    let half = c.half.ensures.range in
    let m = simp (to_z-of_z, fits64 low tt, fits64 half tt) at c.max.ensures.value in
    rw m (within_max low half)

pub overflow_sub-result-2 : goal.overflow_sub-result-2
overflow_sub-result-2 c =
    let m = most (goal.at.overflow_sub-result-2 c).After-max in
    simp (
      to_z-of_z,
      fits64 c.upper-high.ensures.range tt,
      fits64 m tt,
    ) (fits64 (within_sub c.upper-high.ensures.range m) tt)

pub returns-clause-value : goal.returns-clause-value
unfolding orifice_head_of
returns-clause-value c =
    let m = most (goal.at.returns-clause-value c).After-max in
    let low = fits64 (within_between c.lower-low.ensures.range) tt in
    let half = fits64 c.half.ensures.range tt in
    let depth = fits64 c.orifice_depth.ensures.range tt in
    let sill = fits64 c.requires.orifice.sill tt in
    let u = simp (to_z-of_z, c.ranges.near, c.ranges.far, sill) at c.upper-high.ensures.value in
    let l = simp (to_z-of_z, c.ranges.near, c.ranges.far, sill) at c.lower-low.ensures.value in
    let d = simp (to_z-of_z, c.ranges.setting, c.ranges.near, c.ranges.far) at c.orifice_depth.ensures.value in
    let h = simp (to_z-of_z, depth) at c.half.ensures.value in
    let x = simp (to_z-of_z, low, half) at c.max.ensures.value in
    simp (
      to_z-of_z,
      fits64 c.upper-high.ensures.range tt,
      fits64 m tt,
      fits64 (within_sub c.upper-high.ensures.range m) tt,
      c.if-orifice.false,
    ) (cc (u, l, d, h, x))

pub returns-clause-range : goal.returns-clause-range
returns-clause-range c =
    let m = most (goal.at.returns-clause-range c).After-max in
    let r = within_sub c.upper-high.ensures.range m in
    simp (to_z-of_z, fits64 c.upper-high.ensures.range tt, fits64 m tt, fits64 r tt) r
