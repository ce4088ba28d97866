use Rattle.std.proofs.lemmas.Int.{to_z-of_z}
use Rattle.fixed_num.proofs.Bounds.{within_between, fits64, fits128}
use Rattle.conduit_flow.specs.Momentum.{momentum_flow_of}
use Rattle.conduit_flow.proofs.RangeLemmas.{step-between}
use Rattle.conduit_flow.proofs.momentum.momentum_flow.Goals as goal

pub returns-clause-value : goal.returns-clause-value
unfolding momentum_flow_of
returns-clause-value c =
    let area = fits64 (within_between c.requires.middle.area) tt in
    let radius = fits64 (within_between c.requires.middle.radius) tt in
    let n6 = fits64 (within_between c.requires.conduit.n6) tt in
    let dt = fits64 (within_between (step-between c.requires.fixed.length)) tt in
    let velocity = fits64 c.velocity-velocity.ensures.range tt in
    let friction = fits128 (within_between c.friction-friction.ensures.range) tt in
    let losses = fits128 (within_between c.losses-losses.ensures.range) tt in
    let v = simp (to_z-of_z, c.ranges.last, area) at c.velocity-velocity.ensures.value in
    let d = simp (to_z-of_z, velocity, c.ranges.old) at c.driven-driven.ensures.value in
    let f = simp (to_z-of_z, n6, velocity, dt, radius) at c.friction-friction.ensures.value in
    let l = simp (to_z-of_z, velocity, c.ranges.last, dt) at c.losses-losses.ensures.value in
    let s = simp (to_z-of_z, fits128 c.driven-driven.ensures.range tt, friction, losses) at c.slowed.ensures.value in
    simp (to_z-of_z, fits128 c.slowed.ensures.range tt) (cc (v, d, f, l, s))
