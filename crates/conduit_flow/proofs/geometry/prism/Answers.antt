use Rattle.std.proofs.Common.{◌≡◌, ◌^◌, ℤ, pos, ◌*ℤ◌, ap}
use Rattle.std.proofs.lemmas.Int.{to_z-of_z}
use Rattle.fixed_num.specs.Ranges.{IsBetween}
use Rattle.fixed_num.specs.Rounding.{quo_of}
use Rattle.fixed_num.proofs.Bounds.{between_mul, between_quo_by, between_up, within_mul, within_between, fits128, fits_wider, le_number}
use Rattle.conduit_flow.specs.Geometry.{prism_of}
use Rattle.conduit_flow.proofs.geometry.prism.Goals as goal
use Rattle.conduit_flow.proofs.geometry.prism.Goals.{After-quo}

volume : (c : After-quo) → c.quo.result ≡ quo_of (c.args.area *ℤ c.args.length) (pos 1_000)
volume c =
    let product = within_mul (within_between c.requires.area) (within_between c.requires.length) in
    simp (to_z-of_z, c.ranges.area, fits_wider _ c.ranges.area, c.ranges.length, fits_wider _ c.ranges.length, fits128 product tt) at c.quo.ensures.value

small : (c : After-quo) → IsBetween (pos 0) c.quo.result (pos (10 ^ 20))
small c = rw (volume c) (between_up (between_quo_by {y = pos 1_000} 1_000 (between_mul c.requires.area c.requires.length) (le_number tt) tt) tt tt)

pub overflow_mul-result : goal.overflow_mul-result
overflow_mul-result c =
    let v = within_between (small c) in
    simp (to_z-of_z, c.ranges.barrels, fits_wider _ c.ranges.barrels, fits128 v tt) (fits128 (within_mul (within_between c.requires.barrels) v) tt)

value : (c : After-quo) → c.args.barrels *ℤ c.quo.result ≡ prism_of c.args.area c.args.length c.args.barrels
unfolding prism_of
value c = ap (λ (z : ℤ). c.args.barrels *ℤ z) (volume c)

pub returns-clause-value : goal.returns-clause-value
returns-clause-value c =
    let v = within_between (small c) in
    simp (to_z-of_z, c.ranges.barrels, fits_wider _ c.ranges.barrels, fits128 v tt, fits128 (within_mul (within_between c.requires.barrels) v) tt) (value c)

pub returns-clause-range : goal.returns-clause-range
returns-clause-range c =
    let v = within_between (small c) in
    simp (to_z-of_z, c.ranges.barrels, fits_wider _ c.ranges.barrels, fits128 v tt, fits128 (within_mul (within_between c.requires.barrels) v) tt) (between_up (between_mul c.requires.barrels (small c)) tt tt)
