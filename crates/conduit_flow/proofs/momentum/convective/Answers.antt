use Rattle.std.proofs.Common.{◌≡◌, ◌^◌, pos, ◌*ℤ◌, ◌∙◌}
use Rattle.std.proofs.lemmas.Int.{to_z-of_z}
use Rattle.fixed_num.specs.Ranges.{IsWithin}
use Rattle.fixed_num.specs.Rounding.{quo_of}
use Rattle.fixed_num.proofs.Bounds.{within_mul, within_number, within_between, fits64, fits128, fits_wider}
use Rattle.conduit_flow.specs.Momentum.{convective_of}
use Rattle.conduit_flow.proofs.InertiaLemmas.{convective-within, convective_by_weight, no_convective, thrust-within}
use Rattle.conduit_flow.proofs.TestLemmas.{zero_is}
use Rattle.conduit_flow.proofs.momentum.convective.Goals as goal
use Rattle.conduit_flow.proofs.momentum.convective.Goals.{After-weight-weight, After-quo}

pub overflow_mul-weight : goal.overflow_mul-weight
overflow_mul-weight c =
    let square = within_mul c.requires.velocity c.requires.velocity in
    let push = within_mul square c.requires.rise in
    let weight = within_between c.weight-weight.ensures.range in
    simp (
      to_z-of_z,
      c.ranges.velocity,
      fits_wider _ c.ranges.velocity,
      c.ranges.rise,
      fits_wider _ c.ranges.rise,
      fits64 weight tt,
      fits128 weight tt,
      fits128 square tt,
      fits128 push tt,
    )
    (fits128 (thrust-within c.weight-weight.ensures.range c.requires.velocity c.requires.rise) tt)

pub overflow_mul-push-2 : goal.overflow_mul-push-2
overflow_mul-push-2 c =
    let square = within_mul c.requires.velocity c.requires.velocity in
    simp (to_z-of_z, c.ranges.velocity, fits_wider _ c.ranges.velocity, c.ranges.rise, fits_wider _ c.ranges.rise, fits128 square tt) (fits128 (within_mul square c.requires.rise) tt)

quotient : (c : After-quo) → c.quo.result ≡ quo_of (c.weight-weight.result *ℤ (c.args.velocity *ℤ c.args.velocity *ℤ c.args.rise)) (pos 250_000_000_000_000 *ℤ c.args.length)
quotient c =
    let square = within_mul c.requires.velocity c.requires.velocity in
    let push = within_mul square c.requires.rise in
    let weight = within_between c.weight-weight.ensures.range in
    let thrust = thrust-within c.weight-weight.ensures.range c.requires.velocity c.requires.rise in
    let below = within_mul (within_number 250_000_000_000_000) (within_between c.requires.length) in
    simp (
      to_z-of_z,
      c.ranges.velocity,
      fits_wider _ c.ranges.velocity,
      c.ranges.rise,
      fits_wider _ c.ranges.rise,
      c.ranges.length,
      fits_wider _ c.ranges.length,
      fits64 weight tt,
      fits128 weight tt,
      fits128 square tt,
      fits128 push tt,
      fits128 thrust tt,
      fits128 below tt,
    )
    at c.quo.ensures.value

small : (c : After-quo) → IsWithin (10 ^ 20) c.quo.result
small c = rw (quotient c) (convective-within c.weight-weight.ensures.range c.requires.velocity c.requires.rise c.requires.length)

value : (c : After-quo) → c.quo.result ≡ convective_of c.args.inertia c.args.velocity c.args.rise c.args.dt c.args.length
value c =
    let four = simp (to_z-of_z, c.ranges.inertia, c.ranges.dt) at c.weight-weight.ensures.value in
    quotient c
    ∙ convective_by_weight c.args.inertia c.args.velocity c.args.rise c.args.dt c.args.length c.weight-weight.result c.weight-weight.ensures.range.from c.requires.length.from four

pub returns-clause-value : goal.returns-clause-value
returns-clause-value c = simp (to_z-of_z, fits128 (small c) tt) (value c)

pub returns-clause-range : goal.returns-clause-range
returns-clause-range c = simp (to_z-of_z, fits128 (small c) tt) (small c)

pub returns-then-inertia-eq0-clause-value : goal.returns-then-inertia-eq0-clause-value
returns-then-inertia-eq0-clause-value c =
    no_convective c.args.velocity c.args.rise c.args.dt c.args.length (zero_is c.args.inertia c.ranges.inertia c.if-inertia-eq0.true)
