use Rattle.std.proofs.Common.{◌≡◌, ◌^◌, pos}
use Rattle.std.proofs.lemmas.Int.{to_z-of_z}
use Rattle.fixed_num.proofs.Bounds.{within_between, fits64, fits128}
use Rattle.orifice_weir.proofs.StillLemmas.{flows, shut, undriven, unequal, unreached, zero_bits}
use Rattle.orifice_weir.proofs.orifice.orifice_flow.Goals as goal

pub returns-then-upper-le0-clause-value : goal.returns-then-upper-le0-clause-value
returns-then-upper-le0-clause-value c =
    let u = simp (to_z-of_z, c.ranges.near, c.ranges.far, fits64 c.requires.orifice.sill tt) at c.upper.ensures.value in
    let test = simp (to_z-of_z, fits64 c.upper.ensures.range tt) at c.if-upper-le0.true in
    unreached c.args.orifice.now c.args.setting c.args.near c.args.far c.args.area (cc (u, test))

pub returns-then-opening-eq0-clause-value : goal.returns-then-opening-eq0-clause-value
returns-then-opening-eq0-clause-value c =
    let o = simp (to_z-of_z, c.ranges.setting) at c.opening.ensures.value in
    let test = zero_bits c.opening.result (fits64 (within_between c.opening.ensures.range) tt) c.if-opening-eq0.true in
    shut c.args.orifice.now c.args.setting c.args.near c.args.far c.args.area (cc (o, test))

pub returns-then-head-le0-clause-value : goal.returns-then-head-le0-clause-value
returns-then-head-le0-clause-value c =
    let h = simp (to_z-of_z, c.ranges.setting, c.ranges.near, c.ranges.far) at c.orifice_head-head.ensures.value in
    let test = simp (to_z-of_z, fits64 c.orifice_head-head.ensures.range tt) at c.if-head-le0.true in
    undriven c.args.orifice.now c.args.setting c.args.near c.args.far c.args.area (cc (h, test))

pub returns-clause-value : goal.returns-clause-value
returns-clause-value c =
    let head = fits64 c.orifice_head-head.ensures.range tt in
    let u = simp (to_z-of_z, c.ranges.near, c.ranges.far, fits64 c.requires.orifice.sill tt) at c.upper.ensures.value in
    let reached = simp (to_z-of_z, fits64 c.upper.ensures.range tt) at c.if-upper-le0.false in
    let o = simp (to_z-of_z, c.ranges.setting) at c.opening.ensures.value in
    let open_test = unequal c.opening.result c.if-opening-eq0.false in
    let h = simp (to_z-of_z, c.ranges.setting, c.ranges.near, c.ranges.far) at c.orifice_head-head.ensures.value in
    let driven = simp (to_z-of_z, head) at c.if-head-le0.false in
    let k = simp (
      to_z-of_z,
      fits64 (within_between c.requires.orifice.coefficient) tt,
      c.ranges.area,
    ) at c.contracted-counted.ensures.value in
    let j = simp (to_z-of_z, head) at c.jet.ensures.value in
    let d = simp (
      to_z-of_z,
      fits64 (within_between c.contracted-counted.ensures.range) tt,
      fits64 (within_between c.jet.ensures.range) tt,
    ) at c.discharge.ensures.value in
    let q = simp (
      to_z-of_z,
      c.ranges.near,
      c.ranges.far,
      fits128 (within_between c.discharge.ensures.range) tt,
    ) at c.directed.ensures.value in
    let f = flows c.args.orifice.now c.args.setting c.args.near c.args.far c.args.area (cc (u, reached)) (cc (
      o,
      open_test,
    )) (cc (h, driven)) in
    simp (to_z-of_z, fits128 c.directed.ensures.range tt) (cc (h, k, j, d, q, f))
