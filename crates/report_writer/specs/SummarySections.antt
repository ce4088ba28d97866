-- The sections of nodes and links in the report of a run (this project's profile).
use Rattle.std.specs.Prelude.{ℕ, List, [], ◌∷◌, ◌++◌, codes, ℤ}
use Rattle.std.specs.Fmt.{signed_decimal}
use Rattle.std.specs.List.{flat_map, zip}
use Rattle.fixed_num.specs.declared.unit.Unit.{Unit as Scale}
use Rattle.fixed_num.specs.Decimal.{decimal_text}
use Rattle.inp_values.specs.declared.quantities.Quantity.TheVariants.{Elevation, Flow}
use Rattle.inp_values.specs.Units.{unit_for}
use Rattle.net_types.specs.declared.network.Link.{Link}
use Rattle.net_types.specs.declared.network.Node.{Node}
use Rattle.net_types.specs.declared.options.FlowUnits.{FlowUnits}
use Rattle.summaries.specs.declared.link_summary.LinkSummary.{LinkSummary}
use Rattle.summaries.specs.declared.node_summary.NodeSummary.{NodeSummary}
use Rattle.report_writer.specs.Texts.{joined}

-- the line of a node or a link: its name, its greatest value, the moment at which that was first met (ms since the
-- start), and its last value, with six places in the user's unit
unfoldable pub peak_line : Scale → (name : List ℕ) → (most at last : ℤ) → List ℕ
peak_line unit name most at last = joined (
    name ∷ codes " " ∷ decimal_text most unit 6
    ∷ codes " " ∷ signed_decimal at
    ∷ codes " " ∷ decimal_text last unit 6 ∷ codes "\n" ∷ [])

-- the line of a node: its depth and its head
abbrev pub node_line : Scale → Node × NodeSummary → List ℕ
node_line unit pair = peak_line unit pair.0.name pair.1.max_depth pair.1.at pair.1.last_head

-- the line of a link: its flow
abbrev pub link_line : Scale → Link × LinkSummary → List ℕ
link_line unit pair = peak_line unit pair.0.name pair.1.max_flow pair.1.at pair.1.last_flow

-- a line for each node that has a summary beside it
unfoldable pub node_section : FlowUnits → List Node → List NodeSummary → List ℕ
node_section units nodes summaries =
    codes "\nNode Depth Summary\n" ++ flat_map (node_line (unit_for units Elevation)) (zip nodes summaries)

-- a line for each link that has a summary beside it
unfoldable pub link_section : FlowUnits → List Link → List LinkSummary → List ℕ
link_section units links summaries =
    codes "\nLink Flow Summary\n" ++ flat_map (link_line (unit_for units Flow)) (zip links summaries)
