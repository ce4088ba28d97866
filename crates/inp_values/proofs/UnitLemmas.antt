-- Each unit of the table is one of those whose products fit.
use Rattle.std.proofs.Common.{ℕ, ◌^◌, ◌<◌, ◌≤◌, arith, ℤ}
use Rattle.net_types.specs.declared.options.FlowUnits.{FlowUnits}
use Rattle.net_types.specs.declared.options.FlowUnits.TheVariants.{Cfs, Gpm, Mgd, Cms, Lps, Mld}
use Rattle.fixed_num.specs.Units.{IsUnit}
use Rattle.inp_values.specs.declared.quantities.Quantity.{Quantity}
use Rattle.inp_values.specs.declared.quantities.Quantity.TheVariants.{ConduitLength, Elevation, Depth, Width, SmallDepth, Rate, LandArea, NodeArea, Volume, Flow, Roughness, Percent, Coefficient, Raw, Days}
use Rattle.inp_values.specs.Units.{scale, unit_for, by_system, flow_num, flow_den}

small : (num den : ℕ) (least most : ℤ) → 0 < num → num ≤ 10 ^ 11 → 0 < den → den ≤ 10 ^ 8 → IsUnit (scale num den least most)
small num den least most a b c d = record { num_positive = a; num_at_most = b; den_positive = c; den_at_most = d }

either : (units : FlowUnits) (us metric most : ℕ) → 0 < us → us ≤ most → 0 < metric → metric ≤ most → (0 < by_system units us metric) × (by_system units us metric ≤ most)
either Cfs us metric most a b c d = (a, b)
either Gpm us metric most a b c d = (a, b)
either Mgd us metric most a b c d = (a, b)
either Cms us metric most a b c d = (c, d)
either Lps us metric most a b c d = (c, d)
either Mld us metric most a b c d = (c, d)

flow_num_small : (units : FlowUnits) → (0 < flow_num units) × (flow_num units ≤ 10 ^ 11)
flow_num_small Cfs = (omega arith, omega arith)
flow_num_small Gpm = (omega arith, omega arith)
flow_num_small Mgd = (omega arith, omega arith)
flow_num_small Cms = (omega arith, omega arith)
flow_num_small Lps = (omega arith, omega arith)
flow_num_small Mld = (omega arith, omega arith)

flow_den_small : (units : FlowUnits) → (0 < flow_den units) × (flow_den units ≤ 10 ^ 8)
flow_den_small Cfs = (omega arith, omega arith)
flow_den_small Gpm = (omega arith, omega arith)
flow_den_small Mgd = (omega arith, omega arith)
flow_den_small Cms = (omega arith, omega arith)
flow_den_small Lps = (omega arith, omega arith)
flow_den_small Mld = (omega arith, omega arith)

of_system : (units : FlowUnits) (us metric us_den metric_den : ℕ) (least most : ℤ) → (0 < us) × (us ≤ 10 ^ 11) × (0 < metric) × (metric ≤ 10 ^ 11) → (0 < us_den) × (us_den ≤ 10 ^ 8) × (0 < metric_den) × (metric_den ≤ 10 ^ 8) → IsUnit (scale (by_system units us metric) (by_system units us_den metric_den) least most)
of_system units us metric us_den metric_den least most n d =
    let num = either units us metric (10 ^ 11) n.0 n.1 n.2 n.3 in
    let den = either units us_den metric_den (10 ^ 8) d.0 d.1 d.2 d.3 in
    small (by_system units us metric) (by_system units us_den metric_den) least most num.0 num.1 den.0 den.1

of_length : (units : FlowUnits) (us metric : ℕ) (least most : ℤ) → (0 < us) × (us ≤ 10 ^ 11) × (0 < metric) × (metric ≤ 10 ^ 11) → IsUnit (scale (by_system units us metric) 1 least most)
of_length units us metric least most n =
    let num = either units us metric (10 ^ 11) n.0 n.1 n.2 n.3 in
    small (by_system units us metric) 1 least most num.0 num.1 (omega arith) (omega arith)

-- for every quantity
pub units_are_units : (units : FlowUnits) (quantity : Quantity) → IsUnit (unit_for units quantity)
unfolding unit_for
units_are_units units ConduitLength = of_length units _ _ _ _ (omega arith, omega arith, omega arith, omega arith)
units_are_units units Elevation = of_length units _ _ _ _ (omega arith, omega arith, omega arith, omega arith)
units_are_units units Depth = of_length units _ _ _ _ (omega arith, omega arith, omega arith, omega arith)
units_are_units units Width = of_length units _ _ _ _ (omega arith, omega arith, omega arith, omega arith)
units_are_units units SmallDepth = of_length units _ _ _ _ (omega arith, omega arith, omega arith, omega arith)
units_are_units units Rate = of_length units _ _ _ _ (omega arith, omega arith, omega arith, omega arith)
units_are_units units LandArea = of_system units _ _ _ _ _ _ (omega arith, omega arith, omega arith, omega arith) (omega arith, omega arith, omega arith, omega arith)
units_are_units units NodeArea = of_system units _ _ _ _ _ _ (omega arith, omega arith, omega arith, omega arith) (omega arith, omega arith, omega arith, omega arith)
units_are_units units Volume = of_system units _ _ _ _ _ _ (omega arith, omega arith, omega arith, omega arith) (omega arith, omega arith, omega arith, omega arith)
units_are_units units Flow = small _ _ _ _ (flow_num_small units).0 (flow_num_small units).1 (flow_den_small units).0 (flow_den_small units).1
units_are_units units Roughness = small _ _ _ _ (omega arith) (omega arith) (omega arith) (omega arith)
units_are_units units Percent = small _ _ _ _ (omega arith) (omega arith) (omega arith) (omega arith)
units_are_units units Coefficient = small _ _ _ _ (omega arith) (omega arith) (omega arith) (omega arith)
units_are_units units Raw = small _ _ _ _ (omega arith) (omega arith) (omega arith) (omega arith)
units_are_units units Days = small _ _ _ _ (omega arith) (omega arith) (omega arith) (omega arith)
