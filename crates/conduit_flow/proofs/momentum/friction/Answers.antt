use Rattle.std.proofs.Common.{◌≡◌, ◌^◌, pos, unsigned_abs, to_z, ap, ◌∙◌, arith}
use Rattle.std.specs.Int.{w128}
use Rattle.std.proofs.lemmas.Int.{to_z-of_z, to_z_pos}
use Rattle.fixed_num.specs.Ranges.{IsBetween}
use Rattle.fixed_num.proofs.Bounds.{within_mul, within_number, within_between, fits128, fits_wider}
use Rattle.conduit_flow.specs.Momentum.{friction_of}
use Rattle.fixed_num.proofs.Bounds.{within_abs}
use Rattle.conduit_flow.proofs.RangeLemmas.{drag-between, friction-between}
use Rattle.conduit_flow.proofs.momentum.friction.Goals as goal
use Rattle.conduit_flow.proofs.momentum.friction.Goals.{After-unsigned_abs, After-quo}

size : (c : After-unsigned_abs) → to_z w128 c.unsigned_abs.result ≡ pos (unsigned_abs c.args.velocity)
size c =
    let e = simp (to_z-of_z, c.ranges.velocity) at c.unsigned_abs.ensures.value in
    to_z_pos w128 c.unsigned_abs.result (omega (arith, e, c.requires.velocity.within)) ∙ ap pos e

pub overflow_mul-drag-3 : goal.overflow_mul-drag-3
overflow_mul-drag-3 c =
    let n = within_between c.requires.roughness in
    let square = within_mul n n in
    let p1 = within_mul (within_number 9_814_560) square in
    let p2 = within_mul p1 (within_abs c.requires.velocity) in
    simp (to_z-of_z, size (goal.at.overflow_mul-drag-3 c).After-unsigned_abs, c.ranges.n6, fits_wider _ c.ranges.n6, fits128 square tt, fits128 p1 tt) (fits128 p2 tt)

pub overflow_mul-drag-4 : goal.overflow_mul-drag-4
overflow_mul-drag-4 c =
    let n = within_between c.requires.roughness in
    let square = within_mul n n in
    let p1 = within_mul (within_number 9_814_560) square in
    let p2 = within_mul p1 (within_abs c.requires.velocity) in
    simp (to_z-of_z, size (goal.at.overflow_mul-drag-4 c).After-unsigned_abs, c.ranges.n6, fits_wider _ c.ranges.n6, c.ranges.dt, fits_wider _ c.ranges.dt, fits128 square tt, fits128 p1 tt, fits128 p2 tt)
    (fits128 (within_between (drag-between c.requires.roughness c.requires.velocity c.requires.dt)) tt)

value : (c : After-quo) → to_z w128 c.unsigned_abs.result ≡ pos (unsigned_abs c.args.velocity) → c.quo.result ≡ friction_of c.args.n6 c.args.velocity c.args.dt c.args.radius
unfolding friction_of
value c s =
    let n = within_between c.requires.roughness in
    let square = within_mul n n in
    let p1 = within_mul (within_number 9_814_560) square in
    let p2 = within_mul p1 (within_abs c.requires.velocity) in
    let p3 = within_between (drag-between c.requires.roughness c.requires.velocity c.requires.dt) in
    let power = within_between c.radius_power.ensures.range in
    let below = within_mul (within_number 10_000_000) power in
    let p = simp (to_z-of_z, c.ranges.radius) at c.radius_power.ensures.value in
    let q = simp (to_z-of_z, s, c.ranges.n6, fits_wider _ c.ranges.n6, c.ranges.dt, fits_wider _ c.ranges.dt, fits128 square tt, fits128 p1 tt, fits128 p2 tt, fits128 p3 tt, fits128 power tt, fits128 below tt) at c.quo.ensures.value in
    cc (p, q)

small : (c : After-quo) → c.quo.result ≡ friction_of c.args.n6 c.args.velocity c.args.dt c.args.radius → IsBetween (pos 0) c.quo.result (pos (10 ^ 26))
small c v = rw v (friction-between c.requires.roughness c.requires.velocity c.requires.dt c.requires.radius)

pub returns-clause-value : goal.returns-clause-value
returns-clause-value c =
    let v = value c (size (goal.at.returns-clause-value c).After-unsigned_abs) in
    simp (to_z-of_z, fits128 (within_between (small c v)) tt) v

pub returns-clause-range : goal.returns-clause-range
returns-clause-range c =
    let v = value c (size (goal.at.returns-clause-range c).After-unsigned_abs) in
    simp (to_z-of_z, fits128 (within_between (small c v)) tt) (small c v)
