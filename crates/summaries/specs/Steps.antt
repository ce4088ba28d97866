-- Summaries with one state more: the words of the loops over nodes and links.
use Rattle.std.specs.Prelude.{ℕ, Bool, if◌then◌else◌, List, slice_index_or, ℤ, pos, ◌+ℤ◌}
use Rattle.summaries.specs.Peaks.{Peak, raised}
use Rattle.summaries.specs.declared.node_summary.NodeSummary.{NodeSummary}
use Rattle.summaries.specs.declared.link_summary.LinkSummary.{LinkSummary}

-- summaries of which all figures are 0, which stand for no state, and for a node or link that is not there
abbrev pub no_node_summary : NodeSummary
no_node_summary = record { max_depth = pos 0; at = pos 0; last_head = pos 0; flooded = pos 0 }

abbrev pub no_link_summary : LinkSummary
no_link_summary = record { max_flow = pos 0; at = pos 0; last_flow = pos 0 }

-- the summaries of a list by their numbers
abbrev pub node_summary_at : List NodeSummary → ℕ → NodeSummary
node_summary_at nodes n = slice_index_or nodes n no_node_summary

abbrev pub link_summary_at : List LinkSummary → ℕ → LinkSummary
link_summary_at links l = slice_index_or links l no_link_summary

-- a node's summary of a peak of depth, a last head and a flooded volume; a link's of a peak of flow and a last flow
abbrev pub node_with : Peak → (head flooded : ℤ) → NodeSummary
node_with peak head flooded = record { max_depth = peak.value; at = peak.at; last_head = head; flooded = flooded }

abbrev pub link_with : Peak → (flow : ℤ) → LinkSummary
link_with peak flow = record { max_flow = peak.value; at = peak.at; last_flow = flow }

-- a node's summary with a state of this depth and head, which so much flooded; the first state is all that it has
abbrev pub with_node : (first : Bool) → NodeSummary → (depth head flood moment : ℤ) → NodeSummary
with_node first s depth head flood moment =
    if first then node_with (record { value = depth; at = moment }) head flood
    else node_with (raised (record { value = s.max_depth; at = s.at }) depth moment) head (s.flooded +ℤ flood)

-- a link's summary with a state of this size of flow and this flow
abbrev pub with_link : (first : Bool) → LinkSummary → (size flow moment : ℤ) → LinkSummary
with_link first s size flow moment =
    if first then link_with (record { value = size; at = moment }) flow
    else link_with (raised (record { value = s.max_flow; at = s.at }) size moment) flow
