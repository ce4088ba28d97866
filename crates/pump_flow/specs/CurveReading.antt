-- What the curve of a pump is read as (Reference Manual volume II, chapter 6; that pump curves of the first
-- two kinds are
-- steps is this project's profile). Values are millionths of the user's units.
use Rattle.std.specs.Prelude.{ℕ, ◌-◌, nat_lt, if◌then◌else◌, List, length, ℤ, pos, ◌*ℤ◌}
use Rattle.std.specs.Int.{int_max}
use Rattle.fixed_num.specs.Rounding.{quo_of}
use Rattle.fixed_num.specs.declared.unit.Unit.{Unit as Scale}
use Rattle.net_types.specs.Records.{pair_at}
use Rattle.net_types.specs.declared.tables.CurveKind.{CurveKind}
use Rattle.net_types.specs.declared.tables.CurveKind.TheVariants.{Storage, Pump1, Pump2, Pump3, Pump4, Tidal}
use Rattle.rising_pairs.specs.FirstAbove.{first_above}
use Rattle.rising_pairs.specs.Readings.{held_value}
use Rattle.pump_flow.specs.declared.flow.PumpInlet.{PumpInlet}
use Rattle.pump_flow.specs.declared.flow.PumpUnits.{PumpUnits}

-- a stored value in millionths of its user's unit
unfoldable pub user_value_of : Scale → (value : ℤ) → ℤ
user_value_of unit value = quo_of (value *ℤ pos unit.den *ℤ pos 1_000_000) (pos unit.num)

-- a curve of steps: the value of the first point that lies beyond, and of the last one beyond all points
unfoldable pub step_value_of : List (ℤ × ℤ) → (key : ℤ) → ℤ
step_value_of points key =
    let above = first_above points key in
    if nat_lt above (length points) then (pair_at points above).1 else (pair_at points (length points - 1)).1

-- a curve by its kind: steps over the volume or the depth of the first node; or lines over the lift, which is
-- not below 0, or
-- over that depth. A curve of another kind drives nothing
unfoldable pub curve_value_of : CurveKind → List (ℤ × ℤ) → PumpUnits → PumpInlet → ℤ
curve_value_of Storage points units inlet = pos 0
curve_value_of Pump1 points units inlet = step_value_of points (user_value_of units.volume inlet.volume)
curve_value_of Pump2 points units inlet = step_value_of points (user_value_of units.depth inlet.depth)
curve_value_of Pump3 points units inlet = held_value points (user_value_of units.depth (int_max inlet.lift (pos 0)))
curve_value_of Pump4 points units inlet = held_value points (user_value_of units.depth inlet.depth)
curve_value_of Tidal points units inlet = pos 0
