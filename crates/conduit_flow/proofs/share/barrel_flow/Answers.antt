use Rattle.std.proofs.Common.{FitsSigned, rules}
use Rattle.std.specs.Int.{w128}
use Rattle.std.proofs.lemmas.Int.{to_z-of_z}
use Rattle.fixed_num.proofs.Bounds.{within_between, fits64, fits128}
use Rattle.conduit_flow.specs.ConduitShare.{barrel_flow_of}
use Rattle.conduit_flow.proofs.share.barrel_flow.Goals as goal

pub returns-clause-value : goal.returns-clause-value
unfolding barrel_flow_of
returns-clause-value c =
    let most = fits64 (within_between c.requires.conduit.q_max) tt in
    let barrels = fits64 (within_between c.barrels.ensures.range) tt in
    let mean : FitsSigned w128 c.relaxed-relaxed.result = search rules in
    let gated : FitsSigned w128 c.gated.result = search rules in
    let supplied : FitsSigned w128 c.supplied-supplied.result = search rules in
    let d = simp (to_z-of_z, c.ranges.old, c.ranges.last) at c.momentum_flow-driven.ensures.value in
    let b = simp (to_z-of_z, fits128 c.momentum_flow-driven.ensures.range tt) at c.limited-bound.ensures.value in
    let r = simp (to_z-of_z, c.ranges.last, fits128 c.limited-bound.ensures.range tt) at c.relaxed-relaxed.ensures in
    let g = simp (to_z-of_z, mean) at c.gated.ensures.value in
    let s = simp (to_z-of_z, gated) at c.supplied-supplied.ensures.value in
    let n = c.barrels.ensures.value in
    let h = simp (to_z-of_z, most, barrels, supplied) at c.held.ensures.value in
    simp (to_z-of_z, fits64 c.held.ensures.range tt) (cc (d, b, r, g, s, n, h))

pub returns-clause-whole : goal.returns-clause-whole
returns-clause-whole c =
    let barrels = fits64 (within_between c.barrels.ensures.range) tt in
    let whole = simp (to_z-of_z, barrels) at c.held.ensures.whole in
    let n = c.barrels.ensures.value in
    let all = rw n at whole in
    simp (to_z-of_z, fits64 c.held.ensures.range tt) all
