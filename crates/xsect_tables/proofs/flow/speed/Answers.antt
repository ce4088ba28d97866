use Rattle.std.proofs.Common.{◌≡◌, ◌^◌, pos, ◌*ℤ◌}
use Rattle.std.proofs.lemmas.Int.{to_z-of_z}
use Rattle.fixed_num.specs.Ranges.{IsBetween}
use Rattle.fixed_num.specs.Roots.{root3_of}
use Rattle.fixed_num.proofs.Bounds.{between_number, between_mul, between_root3, within_between, within_mul, within_number, fits64, fits128, fits_wider}
use Rattle.xsect_tables.specs.NormalFlow.{speed_of}
use Rattle.xsect_tables.proofs.FlowLemmas.{speed-between}
use Rattle.xsect_tables.proofs.flow.speed.Goals as goal
use Rattle.xsect_tables.proofs.flow.speed.Goals.{After-quick_root3-power, After-quo}

power : (c : After-quick_root3-power) → c.quick_root3-power.result ≡ root3_of (c.args.radius *ℤ c.args.radius *ℤ pos 1_000_000_000)
power c =
    let square = within_mul (within_between c.requires.radius) (within_between c.requires.radius) in
    let cube = within_mul square (within_number 1_000_000_000) in
    simp (to_z-of_z, c.ranges.radius, fits_wider _ c.ranges.radius, fits128 square tt, fits128 cube tt) at c.quick_root3-power.ensures

small : (c : After-quick_root3-power) → IsBetween (pos 0) c.quick_root3-power.result (pos (10 ^ 12))
small c = rw (power c) (between_root3 (between_mul (between_mul c.requires.radius c.requires.radius) (between_number (pos 1_000_000_000))) tt)

pub overflow_mul-power : goal.overflow_mul-power
overflow_mul-power c =
    let p = within_between (small c) in
    simp (to_z-of_z, fits128 p tt, c.ranges.slope6, fits_wider _ c.ranges.slope6) (fits128 (within_mul p (within_between c.requires.slope)) tt)

value : (c : After-quo) → c.quick_root3-power.result ≡ root3_of (c.args.radius *ℤ c.args.radius *ℤ pos 1_000_000_000) → IsBetween (pos 0) c.quick_root3-power.result (pos (10 ^ 12)) → c.quo.result ≡ speed_of c.args.radius c.args.slope6 c.args.n6
unfolding speed_of
value c p s =
    let product = within_mul (within_between s) (within_between c.requires.slope) in
    let below = within_mul (within_number 10) (within_between c.requires.roughness) in
    let quotient = simp (to_z-of_z, fits128 (within_between s) tt, c.ranges.slope6, fits_wider _ c.ranges.slope6, c.ranges.n6, fits_wider _ c.ranges.n6, fits128 product tt, fits128 below tt) at c.quo.ensures.value in
    cc (p, quotient)

range : (c : After-quo) → c.quo.result ≡ speed_of c.args.radius c.args.slope6 c.args.n6 → IsBetween (pos 0) c.quo.result (pos (10 ^ 18))
range c v = rw v (speed-between c.requires.radius c.requires.slope c.requires.roughness)

pub overflow_cast-result : goal.overflow_cast-result
overflow_cast-result c =
    let v = value c (power (goal.at.overflow_cast-result c).After-quick_root3-power) (small (goal.at.overflow_cast-result c).After-quick_root3-power) in
    let r = range c v in
    simp (to_z-of_z, fits128 (within_between r) tt) (fits64 (within_between r) tt)

pub returns-clause-value : goal.returns-clause-value
returns-clause-value c =
    let v = value c (power (goal.at.returns-clause-value c).After-quick_root3-power) (small (goal.at.returns-clause-value c).After-quick_root3-power) in
    let r = range c v in
    simp (to_z-of_z, fits128 (within_between r) tt, fits64 (within_between r) tt) v

pub returns-clause-range : goal.returns-clause-range
returns-clause-range c =
    let v = value c (power (goal.at.returns-clause-range c).After-quick_root3-power) (small (goal.at.returns-clause-range c).After-quick_root3-power) in
    let r = range c v in
    simp (to_z-of_z, fits128 (within_between r) tt, fits64 (within_between r) tt) r
