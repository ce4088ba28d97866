-- The sections of floods, outfalls and subcatchments in the report of a run (this project's profile). Volumes are mm³.
use Rattle.std.specs.Prelude.{ℕ, if◌then◌else◌, List, [], ◌∷◌, ◌++◌, codes, ℤ, pos, int_lt, ◌-ℤ◌}
use Rattle.std.specs.Fmt.{signed_decimal}
use Rattle.std.specs.List.{flat_map, zip}
use Rattle.fixed_num.specs.declared.unit.Unit.{Unit as Scale}
use Rattle.fixed_num.specs.Decimal.{decimal_text}
use Rattle.inp_values.specs.declared.quantities.Quantity.TheVariants.{Flow}
use Rattle.inp_values.specs.Units.{unit_for}
use Rattle.net_types.specs.Records.{node_at}
use Rattle.net_types.specs.declared.hydrology.Sub.{Sub}
use Rattle.net_types.specs.declared.network.Node.{Node}
use Rattle.net_types.specs.declared.options.FlowUnits.{FlowUnits}
use Rattle.runoff.specs.declared.states.SubStep.{SubStep}
use Rattle.summaries.specs.declared.node_summary.NodeSummary.{NodeSummary}
use Rattle.summaries.specs.declared.outfall_summary.OutfallSummary.{OutfallSummary}
use Rattle.summaries.specs.declared.sub_summary.SubSummary.{SubSummary}
use Rattle.report_writer.specs.Texts.{joined}

-- ---- floods
-- a name and a volume
unfoldable pub volume_line : (name : List ℕ) → (volume : ℤ) → List ℕ
volume_line name volume = joined (name ∷ codes " " ∷ signed_decimal volume ∷ codes "\n" ∷ [])

-- a node has a line where it was flooded: its name and the volume
unfoldable pub flood_line : Node × NodeSummary → List ℕ
flood_line pair = if int_lt (pos 0) pair.1.flooded then volume_line pair.0.name pair.1.flooded else []

unfoldable pub flood_section : List Node → List NodeSummary → List ℕ
flood_section nodes summaries = codes "\nNode Flooding Summary (mm3)\n" ++ flat_map flood_line (zip nodes summaries)

-- ---- outfalls
-- a name, a volume, and a flow with six places in the user's unit
unfoldable pub load_line : Scale → (name : List ℕ) → (volume flow : ℤ) → List ℕ
load_line unit name volume flow = joined (
    name ∷ codes " " ∷ signed_decimal volume ∷ codes " " ∷ decimal_text flow unit 6 ∷ codes "\n" ∷ [])

-- the line of an outfall: its name, the volume that left there, and its greatest net inflow
abbrev pub outfall_line : Scale → List Node → OutfallSummary → List ℕ
outfall_line unit nodes outfall = load_line unit (node_at nodes outfall.node).name outfall.volume outfall.max_flow

unfoldable pub outfall_section : FlowUnits → List Node → List OutfallSummary → List ℕ
outfall_section units nodes outfalls =
    codes "\nOutfall Loading Summary\n" ++ flat_map (outfall_line (unit_for units Flow) nodes) outfalls

-- ---- subcatchments
-- the line of a subcatchment: its name, the volumes of rain, infiltration and runoff, and its greatest flow
unfoldable pub sub_line : Scale → Sub × SubSummary → List ℕ
sub_line unit pair = joined (
    pair.0.name ∷ codes " " ∷ signed_decimal pair.1.rain ∷ codes " " ∷ signed_decimal pair.1.infil
    ∷ codes " " ∷ signed_decimal pair.1.runoff ∷ codes " " ∷ decimal_text pair.1.peak unit 6 ∷ codes "\n" ∷ [])

-- a line for each subcatchment that has a summary beside it
unfoldable pub sub_section : FlowUnits → List Sub → List SubSummary → List ℕ
sub_section units subs summaries =
    codes "\nSubcatchment Runoff Summary (mm3)\n" ++ flat_map (sub_line (unit_for units Flow)) (zip subs summaries)

-- the volumes of all subcatchments over the run; the error is the rain that is in none of the others
unfoldable pub runoff_section : SubStep → List ℕ
runoff_section total = joined (
    codes "\nRunoff Quantity Continuity (mm3)\nRain " ∷ signed_decimal total.rain
    ∷ codes "\nInfiltration " ∷ signed_decimal total.infil
    ∷ codes "\nRunoff " ∷ signed_decimal total.runoff
    ∷ codes "\nStorage Change " ∷ signed_decimal total.stored
    ∷ codes "\nError " ∷ signed_decimal (total.rain -ℤ total.infil -ℤ total.runoff -ℤ total.stored) ∷ codes "\n" ∷ [])
