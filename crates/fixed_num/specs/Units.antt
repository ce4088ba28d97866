-- The units in which values are stored.
use Rattle.std.specs.Prelude.{◌^◌, ◌<◌, ◌≤◌}
use Rattle.fixed_num.specs.declared.unit.Unit.{Unit as Scale}

-- The scale of a unit is positive, and small enough that no product of a value and it leaves 128 bits.
-- Each unit of this project's profile is one.
pub record IsUnit (unit : Scale) : Type 0 where
  pub num_positive : 0 < unit.num
  pub num_at_most : unit.num ≤ 10 ^ 11
  pub den_positive : 0 < unit.den
  pub den_at_most : unit.den ≤ 10 ^ 8
