-- The summaries of a run (this project's profile).
use Rattle.std.specs.Prelude.{◌≡◌, ℕ, ◌+◌, ◌*◌, ◌^◌, List, map, length, replicate, ℤ, pos, ◌-ℤ◌}
use Rattle.std.specs.Int.RustNames.{unsigned_abs}
use Rattle.fixed_num.specs.Lists.{number, list_of}
use Rattle.fixed_num.specs.Ranges.{IsBetween, IsElevation}
use Rattle.fixed_num.specs.Sums.{sum_below}
use Rattle.net_types.specs.declared.network.Node.{Node}
use Rattle.net_types.specs.declared.project.Project.{Project}
use Rattle.trial_model.specs.declared.nets.Nets.{Nets}
use Rattle.summaries.specs.Peaks.{peak_of}
use Rattle.summaries.specs.Steps.{node_summary_at, node_with, link_with, no_node_summary, no_link_summary}
use Rattle.summaries.specs.declared.node_summary.NodeSummary.{NodeSummary}
use Rattle.summaries.specs.declared.link_summary.LinkSummary.{LinkSummary}

-- the inverts of the nodes (µm), the summaries of nodes and links, and how many states they are made of
pub record Figures : Type 0 where
  pub inverts : List ℤ
  pub nodes : List NodeSummary
  pub links : List LinkSummary
  pub states : ℕ

-- the inverts of nodes
abbrev pub inverts_of : List Node → List ℤ
inverts_of nodes = map (λ node. node.invert) nodes

abbrev pub HasGoodInvert : Node → Type 0
HasGoodInvert node = IsElevation node.invert

-- the figures of no state of a project
abbrev pub new_figures : Project → Figures
new_figures project = record {
  inverts = inverts_of project.nodes;
  nodes = replicate (length project.nodes) no_node_summary;
  links = replicate (length project.links) no_link_summary;
  states = 0;
}

-- a summary for each node; inverts in their range; floods of at most 10^28 mm³ a state
pub record AreFigures (figures : Figures) : Type 0 where
  pub nodes : length figures.nodes ≡ length figures.inverts
  pub inverts : (n : ℕ) → IsElevation (number figures.inverts n)
  pub flooded : (n : ℕ) → IsBetween (pos 0) (node_summary_at figures.nodes n).flooded (pos (10 ^ 28 * figures.states))

-- a node's summary of the states 0 to `last` of a run: its greatest depth and when it was first met, its last head, and
-- the sum of what flooded it
unfoldable pub node_summary : (run : ℕ → Nets) (flooded : ℕ → List ℤ) (moments : ℕ → ℤ) (last : ℕ) (invert : ℤ)
    → ℕ → NodeSummary
node_summary run flooded moments last invert n =
    node_with
    (peak_of (λ k. number (run k).heads n -ℤ invert) moments last)
    (number (run last).heads n)
    (sum_below (λ k. number (flooded k) n) (last + 1))

-- a link's summary: its greatest flow in either direction and when it was first met, and its last flow
unfoldable pub link_summary : (run : ℕ → Nets) (moments : ℕ → ℤ) (last : ℕ) → ℕ → LinkSummary
link_summary run moments last l =
    link_with (peak_of (λ k. pos (unsigned_abs (number (run k).flows l))) moments last) (number (run last).flows l)

-- the figures, where they are made of a state, are the summaries of the first states of a run, which has these states,
-- floods and moments
pub record AreSummaries (run : ℕ → Nets) (flooded : ℕ → List ℤ) (moments : ℕ → ℤ) (figures : Figures) : Type 0 where
  pub nodes : (last : ℕ) → figures.states ≡ last + 1
      → figures.nodes
      ≡ list_of (λ n. node_summary run flooded moments last (number figures.inverts n) n) (length figures.inverts)
  pub links : (last : ℕ) → figures.states ≡ last + 1
      → figures.links ≡ list_of (link_summary run moments last) (length figures.links)
