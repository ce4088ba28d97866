-- The area of a storage at a depth, by its shape (User's Manual, section [STORAGE]; the half powers and the
-- rounding are
-- this project's profile). Depths are µm, areas mm²; values, coefficients and powers are millionths of the
-- user's units.
use Rattle.std.specs.Prelude.{◌≡◌, ℕ, zero, suc, ◌*◌, ◌/◌, ◌%◌, ◌^◌, ◌≤◌, ◌==◌, if◌then◌else◌, List, ℤ, pos, ◌+ℤ◌, ◌*ℤ◌}
use Rattle.fixed_num.specs.Ranges.{cut_of}
use Rattle.fixed_num.specs.Roots.{root2_of}
use Rattle.fixed_num.specs.Rounding.{quo_of}
use Rattle.fixed_num.specs.Units.{IsUnit}
use Rattle.fixed_num.specs.declared.unit.Unit.{Unit as Scale}
use Rattle.net_types.specs.Records.{curve_at}
use Rattle.net_types.specs.declared.network.StoreShape.{StoreShape}
use Rattle.net_types.specs.declared.network.StoreShape.TheVariants.{Tabular, Functional}
use Rattle.net_types.specs.declared.tables.Curve.{Curve}
use Rattle.rising_pairs.specs.Readings.{held_value}
use Rattle.storage_shapes.specs.declared.shapes.StoreUnits.{StoreUnits}

-- a depth in millionths of its user's unit
unfoldable pub user_depth_of : Scale → (depth : ℤ) → ℤ
user_depth_of unit depth = quo_of (depth *ℤ pos unit.den *ℤ pos 1_000_000) (pos unit.num)

-- the product of two numbers of millionths
unfoldable pub product_of : (p x : ℤ) → ℤ
product_of p x = quo_of (p *ℤ x) (pos 1_000_000)

-- a depth to a whole power, step by step
abbrev pub whole_power_of : (x : ℤ) → ℕ → ℤ
whole_power_of x zero = pos 1_000_000
whole_power_of x (suc k) = product_of (whole_power_of x k) x

-- the root of a depth
unfoldable pub root6_of : (x : ℤ) → ℤ
root6_of x = root2_of (x *ℤ pos 1_000_000)

-- a depth to a power in halves, whose half step comes last
unfoldable pub power_of : (x : ℤ) → (halves : ℕ) → ℤ
power_of x halves =
    if halves % 2 == 1 then product_of (whole_power_of x (halves / 2)) (root6_of x) else whole_power_of x (halves / 2)

-- the value of a functional storage: a coefficient times the power, and a constant
unfoldable pub functional_of : (a1 : ℤ) → (halves : ℕ) → (a0 x : ℤ) → ℤ
functional_of a1 halves a0 x = quo_of (a1 *ℤ power_of x halves) (pos 1_000_000) +ℤ a0

-- the value of a storage at a depth of the user: the curve's, whose ends hold, or the function's
unfoldable pub shape_value_of : List Curve → StoreShape → (x : ℤ) → ℤ
shape_value_of curves (Tabular curve) x = held_value (curve_at curves curve).points x
shape_value_of curves (Functional a1 halves a0) x = functional_of a1 halves a0 x

-- a value as an area, brought into 0 to 10^13
unfoldable pub area_of_value : Scale → (value : ℤ) → ℤ
area_of_value unit value =
    cut_of (quo_of (value *ℤ pos unit.num) (pos unit.den *ℤ pos 1_000_000)) (pos 0) (pos 10_000_000_000_000)

-- the area at a depth
unfoldable pub shape_area_of : List Curve → StoreUnits → StoreShape → (depth : ℤ) → ℤ
shape_area_of curves units shape depth =
    area_of_value units.area (shape_value_of curves shape (user_depth_of units.depth depth))

-- units of depth and area: a depth's unit is whole and at least a tenth of a metre
pub record AreStoreUnits (units : StoreUnits) : Type 0 where
  pub depth : IsUnit units.depth
  pub area : IsUnit units.area
  pub depth_whole : units.depth.den ≡ 1
  pub depth_least : 100_000 ≤ units.depth.num
