use Rattle.std.proofs.Common.{◌≡◌, ◌*◌, ◌^◌, ◌*ℤ◌, pos, ◌∙◌}
use Rattle.std.proofs.lemmas.Int.{to_z-of_z}
use Rattle.fixed_num.specs.Ranges.{IsWithin}
use Rattle.fixed_num.specs.Rounding.{quo_of}
use Rattle.fixed_num.proofs.Bounds.{within_mul, within_number, within_between, within_up, fits128, fits_wider}
use Rattle.conduit_flow.specs.Momentum.{pressure_of}
use Rattle.conduit_flow.proofs.PressureLemmas.{pressure_by_part}
use Rattle.conduit_flow.proofs.RangeLemmas.{pressure-within, step-between}
use Rattle.conduit_flow.proofs.momentum.pressure.Goals as goal
use Rattle.conduit_flow.proofs.momentum.pressure.Goals.{After-quo}

pub overflow_mul-area-3 : goal.overflow_mul-area-3
overflow_mul-area-3 c =
    let p1 = within_mul (within_number 61_341) (within_between c.requires.area) in
    let p2 = within_mul p1 c.requires.fall in
    let p3 = within_mul p2 (within_between (step-between c.requires.dt)) in
    simp (to_z-of_z, c.ranges.area, fits_wider _ c.ranges.area, c.ranges.fall, fits_wider _ c.ranges.fall, c.ranges.dt, fits_wider _ c.ranges.dt, fits128 p1 tt, fits128 p2 tt)
    (fits128 p3 tt)

value : (c : After-quo) → c.quo.result ≡ pressure_of c.args.area c.args.fall c.args.dt c.args.length
value c =
    let p1 = within_mul (within_number 61_341) (within_between c.requires.area) in
    let p2 = within_mul p1 c.requires.fall in
    let p3 = within_mul p2 (within_between (step-between c.requires.dt)) in
    let below = within_mul (within_number 6_250_000) (within_between c.requires.length) in
    let quotient = simp (to_z-of_z, c.ranges.area, fits_wider _ c.ranges.area, c.ranges.fall, fits_wider _ c.ranges.fall, c.ranges.dt, fits_wider _ c.ranges.dt, c.ranges.length, fits_wider _ c.ranges.length, fits128 p1 tt, fits128 p2 tt, fits128 p3 tt, fits128 below tt) at c.quo.ensures.value in
    quotient ∙ pressure_by_part c.args.area c.args.fall c.args.dt c.args.length c.requires.area.from c.requires.dt.least c.requires.length.from

small : (c : After-quo) → IsWithin (10 ^ 23) c.quo.result
small c = rw (value c) (pressure-within c.requires.area c.requires.fall c.requires.dt c.requires.length)

pub returns-clause-value : goal.returns-clause-value
returns-clause-value c = simp (to_z-of_z, fits128 (small c) tt) (value c)

pub returns-clause-range : goal.returns-clause-range
returns-clause-range c = simp (to_z-of_z, fits128 (small c) tt) (small c)
