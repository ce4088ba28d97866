use Rattle.std.proofs.Common.{◌≡◌, ◌^◌, ℤ, pos, ◌*ℤ◌, ap}
use Rattle.std.proofs.lemmas.Int.{to_z-of_z}
use Rattle.fixed_num.specs.Ranges.{IsBetween}
use Rattle.fixed_num.proofs.Bounds.{between_mul, between_up, within_mul, within_number, within_between, fits128, fits_wider}
use Rattle.fixed_num.specs.Roots.{root3_of}
use Rattle.conduit_flow.specs.Momentum.{radius_power_of}
use Rattle.conduit_flow.proofs.RangeLemmas.{root-between}
use Rattle.conduit_flow.proofs.momentum.radius_power.Goals as goal
use Rattle.conduit_flow.proofs.momentum.radius_power.Goals.{After-quick_root3}

root : (c : After-quick_root3) → c.quick_root3.result ≡ root3_of (c.args.radius *ℤ pos 1_000_000_000)
root c =
    let cube = within_mul (within_between c.requires.radius) (within_number 1_000_000_000) in
    simp (to_z-of_z, c.ranges.radius, fits_wider _ c.ranges.radius, fits128 cube tt) at c.quick_root3.ensures

small : (c : After-quick_root3) → IsBetween (pos 1) c.quick_root3.result (pos (10 ^ 8))
small c = rw (root c) (root-between c.requires.radius)

value : (c : After-quick_root3) → c.args.radius *ℤ c.quick_root3.result ≡ radius_power_of c.args.radius
unfolding radius_power_of
value c = ap (λ (z : ℤ). c.args.radius *ℤ z) (root c)

pub returns-clause-value : goal.returns-clause-value
returns-clause-value c =
    let r = within_between (small c) in
    simp (to_z-of_z, c.ranges.radius, fits_wider _ c.ranges.radius, fits128 r tt, fits128 (within_mul (within_between c.requires.radius) r) tt) (value c)

pub returns-clause-range : goal.returns-clause-range
returns-clause-range c =
    let r = within_between (small c) in
    simp (to_z-of_z, c.ranges.radius, fits_wider _ c.ranges.radius, fits128 r tt, fits128 (within_mul (within_between c.requires.radius) r) tt) (between_up (between_mul c.requires.radius (small c)) tt tt)

pub overflow_mul-result : goal.overflow_mul-result
overflow_mul-result c =
    let r = within_between (small c) in
    simp (to_z-of_z, c.ranges.radius, fits_wider _ c.ranges.radius, fits128 r tt) (fits128 (within_mul (within_between c.requires.radius) r) tt)
