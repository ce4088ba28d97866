use Rattle.std.proofs.Common.{◌≡◌, ◌^◌, pos, ◌*◌, arith}
use Rattle.std.proofs.lemmas.Int.{ints, to_z-of_z}
use Rattle.fixed_num.specs.Ranges.{IsBetween, IsWithin}
use Rattle.fixed_num.proofs.Bounds.{within_between, fits64, fits128, fits_wider}
use Rattle.runoff.specs.Overland.{excess_of, outflow_of}
use Rattle.runoff.proofs.OverlandLemmas.{none_above, outflow-between, within_depth, zero_bits}
use Rattle.runoff.proofs.overland.outflow.Goals as goal
use Rattle.runoff.proofs.overland.outflow.Goals.{After-min}

pub returns-then-excess-eq0-clause-value : goal.returns-then-excess-eq0-clause-value
returns-then-excess-eq0-clause-value c =
    let depth = within_between c.requires.depth in
    let range = simp (to_z-of_z, c.ranges.depth) at c.excess-excess.ensures.range in
    let small : IsWithin (2 * 10 ^ 16) c.excess-excess.result = within_depth range depth in
    let e = simp (
      to_z-of_z,
      c.ranges.depth,
      fits64 (within_between c.requires.cover.storage) tt,
    ) at c.excess-excess.ensures.value in
    let test = zero_bits c.excess-excess.result (fits64 small tt) c.if-excess-eq0.true in
    none_above c.args.plane.now c.args.cover.now c.args.ms c.args.depth
    c.requires.plane c.requires.cover c.requires.time c.requires.depth.from (cc (e, test))

value : (c : After-min) → c.min.result ≡ outflow_of c.args.plane.now c.args.cover.now c.args.ms c.args.depth
unfolding outflow_of
value c =
    let depth = within_between c.requires.depth in
    let range = simp (to_z-of_z, c.ranges.depth) at c.excess-excess.ensures.range in
    let small : IsWithin (2 * 10 ^ 16) c.excess-excess.result = within_depth range depth in
    let excess = fits64 small tt in
    let sheet = fits64 (within_between c.sheet-sheet.ensures.range) tt in
    let speed = fits64 (within_between c.speed.ensures.range) tt in
    let rate = fits64 (within_between c.drain_rate-rate.ensures.range) tt in
    let drained = fits128 (within_between c.drained.ensures.range) tt in
    let e = simp (
      to_z-of_z,
      c.ranges.depth,
      fits64 (within_between c.requires.cover.storage) tt,
    ) at c.excess-excess.ensures.value in
    let s = simp (to_z-of_z, excess) at c.sheet-sheet.ensures.value in
    let v = simp (
      to_z-of_z,
      fits64 (within_between c.requires.plane.slope_root) tt,
      fits64 (within_between c.requires.cover.roughness) tt,
      sheet,
    ) at c.speed.ensures.value in
    let r = simp (
      to_z-of_z,
      fits64 (within_between c.requires.plane.breadth) tt,
      speed,
    ) at c.drain_rate-rate.ensures.value in
    let d = simp (to_z-of_z, rate, c.ranges.ms, sheet) at c.drained.ensures.value in
    let m = simp (to_z-of_z, excess, fits_wider _ excess, drained) at c.min.ensures.value in
    cc (e, s, v, r, d, m)

small : (c : After-min) → IsBetween (pos 0) c.min.result c.args.depth
small c =
    rw (value c) (outflow-between c.args.plane.now c.args.cover.now c.args.ms c.args.depth
    c.requires.plane c.requires.cover c.requires.time c.requires.depth.from)

low : (c : After-min) → IsWithin (2 * 10 ^ 16) c.min.result
low c = within_depth (small c) (within_between c.requires.depth)

pub overflow_cast-result : goal.overflow_cast-result
overflow_cast-result c = let f = low c in simp (to_z-of_z, fits128 f tt) (fits64 f tt)

pub returns-clause-value : goal.returns-clause-value
returns-clause-value c =
    let before = (goal.at.returns-clause-value c).After-min in
    let f = low before in
    simp (to_z-of_z, fits128 f tt, fits64 f tt) (value before)

pub returns-clause-range : goal.returns-clause-range
returns-clause-range c =
    let before = (goal.at.returns-clause-range c).After-min in
    let f = low before in
    simp (to_z-of_z, fits128 f tt, fits64 f tt) (small before)
