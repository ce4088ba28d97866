use Rattle.std.proofs.Common.{◌≡◌, ◌∙◌, ◌^◌, pos, ◌+ℤ◌, ◌*ℤ◌, unsigned_abs, to_z, ap, sym, arith}
use Rattle.std.specs.Int.{w128}
use Rattle.std.proofs.lemmas.Int.{to_z-of_z, to_z_pos}
use Rattle.fixed_num.specs.Ranges.{IsBetween}
use Rattle.fixed_num.specs.Rounding.{quo_of}
use Rattle.fixed_num.proofs.Bounds.{between_abs, within_abs, within_add, within_between, within_mul, within_number, fits64, fits128, fits_wider}
use Rattle.conduit_flow.specs.Momentum.{losses_of}
use Rattle.conduit_flow.proofs.InertiaLemmas.{losses-between, no_losses, toll-between}
use Rattle.conduit_flow.proofs.RangeLemmas.{step-between}
use Rattle.conduit_flow.proofs.momentum.losses.Goals as goal
use Rattle.conduit_flow.proofs.momentum.losses.Goals.{After-unsigned_abs, After-quo}

size : (c : After-unsigned_abs) → to_z w128 c.unsigned_abs.result ≡ pos (unsigned_abs c.args.velocity)
size c =
    let e = simp (to_z-of_z, c.ranges.velocity) at c.unsigned_abs.ensures.value in
    to_z_pos w128 c.unsigned_abs.result (omega (arith, e, c.requires.velocity.within)) ∙ ap pos e

pub overflow_add-entry : goal.overflow_add-entry
overflow_add-entry c =
    let entry = within_between c.requires.conduit.entry6 in
    let exit = within_between c.requires.conduit.exit6 in
    let way = within_between c.requires.conduit.avg6 in
    let speed1 = within_between c.end_speed.ensures.range in
    let speed2 = within_between c.end_speed-2.ensures.range in
    let p1 = within_mul entry speed1 in
    let p2 = within_mul exit speed2 in
    simp (
      to_z-of_z,
      fits64 entry tt,
      fits128 entry tt,
      fits64 exit tt,
      fits128 exit tt,
      fits64 speed1 tt,
      fits128 speed1 tt,
      fits64 speed2 tt,
      fits128 speed2 tt,
      fits128 p1 tt,
      fits128 p2 tt,
    )
    (fits128 (within_add p1 p2) tt)

pub overflow_add-entry-2 : goal.overflow_add-entry-2
overflow_add-entry-2 c =
    let at_size = (goal.at.overflow_add-entry-2 c).After-unsigned_abs in
    let entry = within_between c.requires.conduit.entry6 in
    let exit = within_between c.requires.conduit.exit6 in
    let way = within_between c.requires.conduit.avg6 in
    let speed1 = within_between c.end_speed.ensures.range in
    let speed2 = within_between c.end_speed-2.ensures.range in
    let p1 = within_mul entry speed1 in
    let p2 = within_mul exit speed2 in
    let p3 = within_mul way (within_abs c.requires.velocity) in
    let s1 = within_add p1 p2 in
    simp (
      to_z-of_z,
      fits64 entry tt,
      fits128 entry tt,
      fits64 exit tt,
      fits128 exit tt,
      fits64 speed1 tt,
      fits128 speed1 tt,
      fits64 speed2 tt,
      fits128 speed2 tt,
      fits128 p1 tt,
      fits128 p2 tt,
      size at_size,
      fits64 way tt,
      fits128 way tt,
      fits128 p3 tt,
      fits128 s1 tt,
    )
    (fits128 (within_add s1 p3) tt)

pub overflow_mul-entry-2 : goal.overflow_mul-entry-2
overflow_mul-entry-2 c =
    let at_size = (goal.at.overflow_mul-entry-2 c).After-unsigned_abs in
    let entry = within_between c.requires.conduit.entry6 in
    let exit = within_between c.requires.conduit.exit6 in
    let way = within_between c.requires.conduit.avg6 in
    let speed1 = within_between c.end_speed.ensures.range in
    let speed2 = within_between c.end_speed-2.ensures.range in
    let p1 = within_mul entry speed1 in
    let p2 = within_mul exit speed2 in
    let p3 = within_mul way (within_abs c.requires.velocity) in
    let s1 = within_add p1 p2 in
    let s2 = within_add s1 p3 in
    simp (
      to_z-of_z,
      fits64 entry tt,
      fits128 entry tt,
      fits64 exit tt,
      fits128 exit tt,
      fits64 speed1 tt,
      fits128 speed1 tt,
      fits64 speed2 tt,
      fits128 speed2 tt,
      fits128 p1 tt,
      fits128 p2 tt,
      size at_size,
      fits64 way tt,
      fits128 way tt,
      fits128 p3 tt,
      fits128 s1 tt,
      fits128 s2 tt,
      c.ranges.dt,
      fits_wider _ c.ranges.dt,
    )
    (fits128 (within_mul s2 (within_between (step-between c.requires.dt))) tt)

quotient : (c : After-quo) → to_z w128 c.unsigned_abs.result ≡ pos (unsigned_abs c.args.velocity)
    → c.quo.result ≡ quo_of
    ((c.args.conduit.now.entry6 *ℤ c.end_speed.result +ℤ c.args.conduit.now.exit6 *ℤ c.end_speed-2.result +ℤ c.args.conduit.now.avg6 *ℤ pos (unsigned_abs c.args.velocity)) *ℤ c.args.dt)
    (pos 2 *ℤ c.args.conduit.now.length)
quotient c size_is =
    let entry = within_between c.requires.conduit.entry6 in
    let exit = within_between c.requires.conduit.exit6 in
    let way = within_between c.requires.conduit.avg6 in
    let speed1 = within_between c.end_speed.ensures.range in
    let speed2 = within_between c.end_speed-2.ensures.range in
    let p1 = within_mul entry speed1 in
    let p2 = within_mul exit speed2 in
    let p3 = within_mul way (within_abs c.requires.velocity) in
    let s1 = within_add p1 p2 in
    let s2 = within_add s1 p3 in
    let product = within_mul s2 (within_between (step-between c.requires.dt)) in
    let length = within_between c.requires.conduit.length in
    simp (
      to_z-of_z,
      fits64 entry tt,
      fits128 entry tt,
      fits64 exit tt,
      fits128 exit tt,
      fits64 speed1 tt,
      fits128 speed1 tt,
      fits64 speed2 tt,
      fits128 speed2 tt,
      fits128 p1 tt,
      fits128 p2 tt,
      size_is,
      fits64 way tt,
      fits128 way tt,
      fits128 p3 tt,
      fits128 s1 tt,
      fits128 s2 tt,
      c.ranges.dt,
      fits_wider _ c.ranges.dt,
      fits128 product tt,
      fits64 length tt,
      fits128 length tt,
      fits128 (within_mul (within_number 2) length) tt,
    )
    at c.quo.ensures.value

small : (c : After-quo) → to_z w128 c.unsigned_abs.result ≡ pos (unsigned_abs c.args.velocity) → IsBetween (pos 0) c.quo.result (pos (10 ^ 19))
small c s =
    let k = c.requires.conduit in
    let toll = toll-between k.entry6 k.exit6 k.avg6 c.end_speed.ensures.range c.end_speed-2.ensures.range (between_abs c.requires.velocity) c.requires.dt in
    rw (quotient c s) (losses-between toll k.length)

value : (c : After-quo) → to_z w128 c.unsigned_abs.result ≡ pos (unsigned_abs c.args.velocity) → c.quo.result ≡ losses_of c.args.conduit.now c.args.ends.now c.args.velocity c.args.last c.args.dt
unfolding losses_of
value c s =
    let one = simp (to_z-of_z, c.ranges.last, fits64 (within_between c.requires.ends.area1) tt) at c.end_speed.ensures.value in
    let two = simp (to_z-of_z, c.ranges.last, fits64 (within_between c.requires.ends.area2) tt) at c.end_speed-2.ensures.value in
    let q = quotient c s in
    cc (one, two, q)

pub returns-clause-value : goal.returns-clause-value
returns-clause-value c =
    let s = size (goal.at.returns-clause-value c).After-unsigned_abs in
    simp (to_z-of_z, fits128 (within_between (small c s)) tt) (value c s)

pub returns-clause-range : goal.returns-clause-range
returns-clause-range c =
    let s = size (goal.at.returns-clause-range c).After-unsigned_abs in
    simp (to_z-of_z, fits128 (within_between (small c s)) tt) (small c s)

pub returns-then-is_lossless-clause-value : goal.returns-then-is_lossless-clause-value
returns-then-is_lossless-clause-value c =
    no_losses c.args.conduit.now c.args.ends.now c.args.velocity c.args.last c.args.dt (sym c.is_lossless.ensures ∙ c.if-is_lossless.true)
