use Rattle.std.proofs.Common.{◌≡◌, ◌^◌}
use Rattle.std.proofs.lemmas.Int.{to_z-of_z}
use Rattle.fixed_num.specs.Ranges.{IsWithin}
use Rattle.fixed_num.proofs.Bounds.{within_mul, within_number, within_between, fits128, fits_wider}
use Rattle.conduit_flow.specs.Momentum.{local_of}
use Rattle.conduit_flow.proofs.InertiaLemmas.{growth-within, local-within, no_local}
use Rattle.conduit_flow.proofs.TestLemmas.{zero_is}
use Rattle.conduit_flow.proofs.momentum.local.Goals as goal
use Rattle.conduit_flow.proofs.momentum.local.Goals.{After-quo}

value : (c : After-quo) → c.quo.result ≡ local_of c.args.inertia c.args.velocity c.args.change
unfolding local_of
value c =
    let p1 = within_mul (within_number 2) (within_between c.requires.inertia.range) in
    let p2 = within_mul p1 c.requires.velocity in
    let p3 = growth-within c.requires.inertia c.requires.velocity c.requires.change in
    simp (
      to_z-of_z,
      c.ranges.inertia,
      fits_wider _ c.ranges.inertia,
      c.ranges.velocity,
      fits_wider _ c.ranges.velocity,
      c.ranges.change,
      fits_wider _ c.ranges.change,
      fits128 p1 tt,
      fits128 p2 tt,
      fits128 p3 tt,
    )
    at c.quo.ensures.value

small : (c : After-quo) → IsWithin (10 ^ 14) c.quo.result
small c = rw (value c) (local-within c.requires.inertia c.requires.velocity c.requires.change)

pub overflow_mul-inertia-3 : goal.overflow_mul-inertia-3
overflow_mul-inertia-3 c =
    let p1 = within_mul (within_number 2) (within_between c.requires.inertia.range) in
    let p2 = within_mul p1 c.requires.velocity in
    simp (
      to_z-of_z,
      c.ranges.inertia,
      fits_wider _ c.ranges.inertia,
      c.ranges.velocity,
      fits_wider _ c.ranges.velocity,
      c.ranges.change,
      fits_wider _ c.ranges.change,
      fits128 p1 tt,
      fits128 p2 tt,
    )
    (fits128 (growth-within c.requires.inertia c.requires.velocity c.requires.change) tt)

pub returns-clause-value : goal.returns-clause-value
returns-clause-value c = simp (to_z-of_z, fits128 (small c) tt) (value c)

pub returns-clause-range : goal.returns-clause-range
returns-clause-range c = simp (to_z-of_z, fits128 (small c) tt) (small c)

pub returns-then-inertia-eq0-clause-value : goal.returns-then-inertia-eq0-clause-value
returns-then-inertia-eq0-clause-value c = no_local c.args.velocity c.args.change (zero_is c.args.inertia c.ranges.inertia c.if-inertia-eq0.true)
