use Rattle.std.proofs.Common.{◌≡◌, FitsSigned, rules}
use Rattle.std.specs.Int.{w128}
use Rattle.std.proofs.lemmas.Int.{to_z-of_z}
use Rattle.fixed_num.specs.Ranges.{IsWithin}
use Rattle.fixed_num.proofs.Bounds.{within_mul, within_number, within_between, fits64, fits128, fits_wider}
use Rattle.conduit_flow.specs.Momentum.{velocity_of}
use Rattle.conduit_flow.proofs.RangeLemmas.{velocity-within}
use Rattle.conduit_flow.proofs.momentum.velocity.Goals as goal
use Rattle.conduit_flow.proofs.momentum.velocity.Goals.{After-cut}

value : (c : After-cut) → c.cut.result ≡ velocity_of c.args.flow c.args.area
unfolding velocity_of
value c =
    let product = within_mul c.requires.flow (within_number 1_000_000) in
    let area = within_between c.requires.area in
    let q = simp (to_z-of_z, c.ranges.flow, fits_wider _ c.ranges.flow, c.ranges.area, fits_wider _ c.ranges.area, fits128 product tt) at c.quo.ensures.value in
    let quotient : FitsSigned w128 c.quo.result = search rules in
    let v = simp (to_z-of_z, quotient) at c.cut.ensures.value in
    cc (q, v)

small : (c : After-cut) → IsWithin 15_240_000 c.cut.result
small c = rw (value c) (velocity-within c.args.flow c.args.area)

pub returns-clause-value : goal.returns-clause-value
returns-clause-value c = simp (to_z-of_z, fits128 (small c) tt, fits64 (small c) tt) (value c)

pub returns-clause-range : goal.returns-clause-range
returns-clause-range c = simp (to_z-of_z, fits128 (small c) tt, fits64 (small c) tt) (small c)
