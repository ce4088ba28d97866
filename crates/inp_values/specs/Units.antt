-- The units of an input, each with the range of its stored values (this project's profile).
use Rattle.std.specs.Prelude.{ℕ, ◌^◌, Bool, true, false, if◌then◌else◌, ℤ, pos, neg_ℤ}
use Rattle.net_types.specs.declared.options.FlowUnits.{FlowUnits}
use Rattle.net_types.specs.declared.options.FlowUnits.TheVariants.{Cfs, Gpm, Mgd, Cms, Lps, Mld}
use Rattle.fixed_num.specs.declared.unit.Unit.{Unit as Scale}
use Rattle.inp_values.specs.declared.quantities.Quantity.{Quantity}
use Rattle.inp_values.specs.declared.quantities.Quantity.TheVariants.{ConduitLength, Elevation, Depth, Width}
use Rattle.inp_values.specs.declared.quantities.Quantity.TheVariants.{SmallDepth, Rate, LandArea, NodeArea, Volume}
use Rattle.inp_values.specs.declared.quantities.Quantity.TheVariants.{Flow, Roughness, Percent, Coefficient, Raw}
use Rattle.inp_values.specs.declared.quantities.Quantity.TheVariants.{Days}

-- CFS, GPM and MGD bring US units for all quantities
abbrev pub is_us : FlowUnits → Bool
is_us Cfs = true
is_us Gpm = true
is_us Mgd = true
is_us Cms = false
is_us Lps = false
is_us Mld = false

-- a unit and the least and the greatest of its stored values
abbrev pub scale : ℕ → ℕ → ℤ → ℤ → Scale
scale num den least most = record { num = num; den = den; least = least; most = most }

-- one unit for US units and one for metric ones
abbrev pub by_system : FlowUnits → (us metric : ℕ) → ℕ
by_system units us metric = if is_us units then us else metric

-- a cubic foot is 28,316,846,592 mm³ and a gallon 3,785,411,784 nl; flows are stored in cm³/s
abbrev pub flow_num : FlowUnits → ℕ
flow_num Cfs = 28_316_846_592
flow_num Gpm = 3_785_411_784
flow_num Mgd = 3_785_411_784
flow_num Cms = 1_000_000
flow_num Lps = 1_000
flow_num Mld = 1_000_000_000

abbrev pub flow_den : FlowUnits → ℕ
flow_den Cfs = 1_000_000
flow_den Gpm = 60_000_000
flow_den Mgd = 86_400
flow_den Cms = 1
flow_den Lps = 1
flow_den Mld = 86_400

-- the table of all quantities; a volume has no limit of its own, and this project gives it one that fits 64 bits
unfoldable pub unit_for : FlowUnits → Quantity → Scale
unit_for units ConduitLength = scale (by_system units 304_800 1_000_000) 1 (pos 10_000) (pos (10 ^ 11))
unit_for units Elevation = scale (by_system units 304_800 1_000_000) 1 (neg_ℤ (pos (10 ^ 10))) (pos (10 ^ 10))
unit_for units Depth = scale (by_system units 304_800 1_000_000) 1 (pos 0) (pos (10 ^ 9))
unit_for units Width = scale (by_system units 304_800 1_000_000) 1 (pos 0) (pos (10 ^ 10))
unit_for units SmallDepth = scale (by_system units 25_400_000 1_000_000) 1 (pos 0) (pos (10 ^ 10))
unit_for units Rate = scale (by_system units 25_400_000 1_000_000) 1 (pos 0) (pos (10 ^ 10))
unit_for units LandArea =
    scale (by_system units 40_468_564_224 (10 ^ 10)) (by_system units 10 1) (pos (10 ^ 6)) (pos (10 ^ 16))
unit_for units NodeArea = scale (by_system units 9_290_304 (10 ^ 6)) (by_system units 100 1) (pos 0) (pos (10 ^ 13))
unit_for units Volume =
    scale (by_system units 28_316_846_592 (10 ^ 9)) (by_system units 1_000 1) (neg_ℤ (pos (10 ^ 18))) (pos (10 ^ 18))
unit_for units Flow = scale (flow_num units) (flow_den units) (neg_ℤ (pos (10 ^ 12))) (pos (10 ^ 12))
unit_for units Roughness = scale 1_000_000 1 (pos 1_000) (pos (10 ^ 6))
unit_for units Percent = scale 10_000 1 (pos 0) (pos (10 ^ 6))
unit_for units Coefficient = scale 1_000_000 1 (pos 0) (pos (10 ^ 8))
unit_for units Raw = scale 1_000_000 1 (neg_ℤ (pos (10 ^ 15))) (pos (10 ^ 15))
unit_for units Days = scale 86_400_000 1 (pos 0) (pos (10 ^ 11))
