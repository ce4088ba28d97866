use Rattle.std.proofs.Common.{◌≡◌, ◌^◌, ◌*◌, pos, ap, ◌+ℤ◌, ◌-ℤ◌, ◌*ℤ◌, ℤ, ◌∙◌, subst, sym, arith}
use Rattle.std.proofs.lemmas.Int.{ints, to_z-of_z}
use Rattle.fixed_num.specs.Ranges.{IsBetween, IsWithin}
use Rattle.fixed_num.specs.Rounding.{quo_of}
use Rattle.fixed_num.proofs.Bounds.{within_add, within_mul, within_between, fits64, fits128, fits_wider}
use Rattle.infiltration.specs.CurveNumber.{soaked_of}
use Rattle.infiltration.proofs.CurveLemmas.{soaked_between, soaked_none}
use Rattle.infiltration.proofs.curve_number.soaked.Goals as goal
use Rattle.infiltration.proofs.curve_number.soaked.Goals.{After-quo}

pub returns-then-rain-eq0-clause-value : goal.returns-then-rain-eq0-clause-value
returns-then-rain-eq0-clause-value c =
    let none : c.args.rain ≡ pos 0 = omega (arith, ints) in
    rw none (sym (soaked_none c.args.event_room))

part : (c : After-quo) → c.quo.result ≡ quo_of (c.args.rain *ℤ c.args.rain) (c.args.rain +ℤ c.args.event_room)
part c =
    let rain = within_between c.requires.rain in
    let below = within_add rain (within_between c.requires.room) in
    simp (to_z-of_z, c.ranges.rain, fits_wider _ c.ranges.rain, c.ranges.event_room, fits_wider _ c.ranges.event_room, fits128 (within_mul rain rain) tt, fits128 below tt) at c.quo.ensures.value

value : (c : After-quo) → c.args.rain -ℤ c.quo.result ≡ soaked_of c.args.rain c.args.event_room
unfolding soaked_of
value c = ap (λ (z : ℤ). c.args.rain -ℤ z) (part c)

small : (c : After-quo) → IsBetween (pos 0) c.quo.result (pos (3 * 10 ^ 16))
small c =
    let soaked = soaked_between c.args.rain c.args.event_room c.requires.rain.from c.requires.room.from in
    record { from = omega (arith, ints, value c, soaked.to); to = omega (arith, ints, value c, soaked.from, c.requires.rain.to) }

between : (c : After-quo) → IsBetween (pos 0) (c.args.rain -ℤ c.quo.result) c.args.rain
between c = rw (value c) (soaked_between c.args.rain c.args.event_room c.requires.rain.from c.requires.room.from)

within : (c : After-quo) → IsWithin (3 * 10 ^ 16) (c.args.rain -ℤ c.quo.result)
within c = let b = between c in record { within = omega (arith, ints, b.from, b.to, c.requires.rain.to) }

pub overflow_cast-result : goal.overflow_cast-result
overflow_cast-result c = let f = within_between (small c) in simp (to_z-of_z, fits128 f tt) (fits64 f tt)

pub overflow_sub-result : goal.overflow_sub-result
overflow_sub-result c =
    let f = within_between (small c) in
    simp (to_z-of_z, c.ranges.rain, fits128 f tt, fits64 f tt) (fits64 (within c) tt)

pub returns-clause-value : goal.returns-clause-value
returns-clause-value c =
    let f = within_between (small c) in
    simp (to_z-of_z, c.ranges.rain, fits128 f tt, fits64 f tt, fits64 (within c) tt) (value c)

pub returns-clause-range : goal.returns-clause-range
returns-clause-range c =
    let f = within_between (small c) in
    simp (to_z-of_z, c.ranges.rain, fits128 f tt, fits64 f tt, fits64 (within c) tt) (between c)
