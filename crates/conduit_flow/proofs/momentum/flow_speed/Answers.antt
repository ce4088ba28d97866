use Rattle.std.proofs.Common.{◌≡◌, pos, unsigned_abs, to_z, FitsSigned, ap, ◌∙◌, arith, rules}
use Rattle.std.specs.Int.{w128}
use Rattle.std.proofs.lemmas.Int.{to_z-of_z, to_z_pos}
use Rattle.fixed_num.specs.Ranges.{IsBetween}
use Rattle.fixed_num.proofs.Bounds.{within_abs, within_between, within_mul, within_number, fits64, fits128, fits_wider}
use Rattle.conduit_flow.specs.Momentum.{flow_speed_of}
use Rattle.conduit_flow.proofs.TravelLemmas.{flow_speed-between}
use Rattle.conduit_flow.proofs.momentum.flow_speed.Goals as goal
use Rattle.conduit_flow.proofs.momentum.flow_speed.Goals.{After-unsigned_abs, After-min}

size : (c : After-unsigned_abs) → to_z w128 c.unsigned_abs.result ≡ pos (unsigned_abs c.args.flow)
size c =
    let e = simp (to_z-of_z, c.ranges.flow) at c.unsigned_abs.ensures.value in
    to_z_pos w128 c.unsigned_abs.result (omega (arith, e, c.requires.flow.within)) ∙ ap pos e

value : (c : After-min) → to_z w128 c.unsigned_abs.result ≡ pos (unsigned_abs c.args.flow) → c.min.result ≡ flow_speed_of c.args.flow c.args.area
unfolding flow_speed_of
value c s =
    let product = within_mul (within_abs c.requires.flow) (within_number 1_000_000) in
    let quotient : FitsSigned w128 c.quo-speed.result = search rules in
    let q = simp (to_z-of_z, s, c.ranges.area, fits_wider _ c.ranges.area, fits128 product tt) at c.quo-speed.ensures.value in
    let m = simp (to_z-of_z, quotient) at c.min.ensures.value in
    cc (q, m)

pub returns-clause-value : goal.returns-clause-value
returns-clause-value c =
    let v = value (goal.at.returns-clause-value c).After-min (size (goal.at.returns-clause-value c).After-unsigned_abs) in
    let r : IsBetween (pos 0) c.min.result (pos 15_240_000) = rw v (flow_speed-between c.args.flow c.args.area) in
    let w = within_between r in
    simp (to_z-of_z, fits128 w tt, fits64 w tt) v

pub returns-clause-range : goal.returns-clause-range
returns-clause-range c =
    let v = value (goal.at.returns-clause-range c).After-min (size (goal.at.returns-clause-range c).After-unsigned_abs) in
    let r : IsBetween (pos 0) c.min.result (pos 15_240_000) = rw v (flow_speed-between c.args.flow c.args.area) in
    let w = within_between r in
    simp (to_z-of_z, fits128 w tt, fits64 w tt) r
