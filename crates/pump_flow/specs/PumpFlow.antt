-- The flow of a pump (Reference Manual volume II, chapter 6; the rounding is this project's profile).
use Rattle.std.specs.Prelude.{◌≡◌, ℕ, ◌*◌, ◌^◌, ◌≤◌, List, ℤ, pos, ◌*ℤ◌}
use Rattle.std.specs.Int.{int_max}
use Rattle.fixed_num.specs.Ranges.{IsFall, IsWithin}
use Rattle.fixed_num.specs.Rounding.{quo_of}
use Rattle.fixed_num.specs.Units.{IsUnit}
use Rattle.fixed_num.specs.declared.unit.Unit.{Unit as Scale}
use Rattle.net_types.specs.declared.tables.Curve.{Curve}
use Rattle.pump_flow.specs.CurveReading.{curve_value_of}
use Rattle.pump_flow.specs.declared.flow.PumpInlet.{PumpInlet}
use Rattle.pump_flow.specs.declared.flow.PumpUnits.{PumpUnits}

-- a value of a curve as a flow, which is not below 0 (cm³/s)
unfoldable pub curve_flow_of : Scale → (value : ℤ) → ℤ
curve_flow_of unit value = int_max (quo_of (value *ℤ pos unit.num) (pos unit.den *ℤ pos 1_000_000)) (pos 0)

-- a part of a flow, by the setting in millionths
unfoldable pub set_flow_of : (flow setting : ℤ) → ℤ
set_flow_of flow setting = quo_of (flow *ℤ setting) (pos 1_000_000)

-- the flow of a pump with this curve
unfoldable pub pump_flow_of : Curve → PumpUnits → (setting : ℤ) → PumpInlet → ℤ
pump_flow_of curve units setting inlet =
    set_flow_of (curve_flow_of units.flow (curve_value_of curve.kind curve.points units inlet)) setting

-- units of volume, depth and flow; a thousandth is the finest part of a volume's unit, and a depth's unit is whole
pub record ArePumpUnits (units : PumpUnits) : Type 0 where
  pub volume : IsUnit units.volume
  pub depth : IsUnit units.depth
  pub flow : IsUnit units.flow
  pub volume_part : units.volume.den ≤ 1_000
  pub depth_whole : units.depth.den ≡ 1

-- what stands at the inlet: a volume within 10^28, a depth and a lift
pub record IsPumpInlet (inlet : PumpInlet) : Type 0 where
  pub volume : IsWithin (10 ^ 28) inlet.volume
  pub depth : IsFall inlet.depth
  pub lift : IsFall inlet.lift
