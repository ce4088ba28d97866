use Rattle.std.proofs.Common.{sym}
use Rattle.std.proofs.lemmas.Int.{to_z-of_z}
use Rattle.fixed_num.proofs.Bounds.{within_between, fits64}
use Rattle.conduit_flow.specs.ConduitShare.{wet_share_of}
use Rattle.conduit_flow.proofs.share.wet_share.Goals as goal

pub returns-clause-value : goal.returns-clause-value
unfolding wet_share_of
returns-clause-value c =
    let length = fits64 (within_between c.requires.conduit.length) tt in
    let width = fits64 (within_between c.requires.middle.width) tt in
    let barrels = fits64 (within_between c.barrels-barrels.ensures.range) tt in
    let n = c.barrels-barrels.ensures.value in
    let o = simp (to_z-of_z, fits64 c.requires.fixed.flow tt, barrels) at c.barrel_part-old_part.ensures.value in
    let l = simp (to_z-of_z, c.ranges.last, barrels) at c.barrel_part-last_part.ensures.value in
    let f = simp (to_z-of_z, fits64 c.barrel_part-old_part.ensures.range tt, fits64 c.barrel_part-last_part.ensures.range tt) at c.barrel_flow-one.ensures.value in
    let a = simp (to_z-of_z, fits64 (within_between c.requires.ends.width1) tt, width, length, barrels) at c.end_area.ensures.value in
    let b = simp (to_z-of_z, fits64 (within_between c.requires.ends.width2) tt, width, length, barrels) at c.end_area-2.ensures.value in
    let t = simp (to_z-of_z, fits64 c.barrel_flow-one.ensures.range tt, length) at c.travel_time.ensures.value in
    let whole = rw (sym n) at c.barrel_flow-one.ensures.whole in
    simp (to_z-of_z, barrels, fits64 c.barrel_flow-one.ensures.range tt, fits64 whole tt, fits64 (within_between c.end_area.ensures.range) tt, fits64 (within_between c.end_area-2.ensures.range) tt, fits64 (within_between c.travel_time.ensures.range) tt)
    (cc (n, o, l, f, a, b, t))

pub overflow_mul-result : goal.overflow_mul-result
overflow_mul-result c =
    let barrels = fits64 (within_between c.barrels-barrels.ensures.range) tt in
    let whole = rw (sym c.barrels-barrels.ensures.value) at c.barrel_flow-one.ensures.whole in
    simp (to_z-of_z, barrels, fits64 c.barrel_flow-one.ensures.range tt) (fits64 whole tt)

pub returns-clause-range : goal.returns-clause-range
returns-clause-range c =
    let barrels = fits64 (within_between c.barrels-barrels.ensures.range) tt in
    let whole = rw (sym c.barrels-barrels.ensures.value) at c.barrel_flow-one.ensures.whole in
    simp (
      to_z-of_z,
      barrels,
      fits64 c.barrel_flow-one.ensures.range tt,
      fits64 whole tt,
      fits64 (within_between c.end_area.ensures.range) tt,
      fits64 (within_between c.end_area-2.ensures.range) tt,
      fits64 (within_between c.travel_time.ensures.range) tt,
    )
    (record { flow = whole; area1 = c.end_area.ensures.range; area2 = c.end_area-2.ensures.range; time = c.travel_time.ensures.range })
