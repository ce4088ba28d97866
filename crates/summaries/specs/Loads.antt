-- What left at outfalls over a run (this project's profile).
use Rattle.std.specs.Prelude.{◌≡◌, ℕ, zero, suc, ◌+◌, ◌*◌, ◌^◌, ◌<◌, ◌≤◌, Bool, true, false, if◌then◌else◌}
use Rattle.std.specs.Prelude.{List, [], ◌∷◌, map, length, slice_index_or, ℤ, pos, ◌+ℤ◌, ◌-ℤ◌, ◌*ℤ◌, ◌≤ℤ◌, int_div}
use Rattle.std.specs.Int.{int_max}
use Rattle.fixed_num.specs.Lists.{number}
use Rattle.fixed_num.specs.Ranges.{IsBetween, IsFlow, IsWithin}
use Rattle.fixed_num.specs.Sums.{sum_below}
use Rattle.net_types.specs.declared.network.Node.{Node}
use Rattle.net_types.specs.declared.network.NodeKind.{NodeKind}
use Rattle.net_types.specs.declared.network.NodeKind.TheVariants.{Junction, Outfall, Storage}
use Rattle.net_types.specs.declared.project.Project.{Project}
use Rattle.phase_law.specs.declared.values.NodeFixed.{NodeFixed}
use Rattle.trial_model.specs.declared.nets.Nets.{Nets}
use Rattle.trial_model.specs.Fits.{node_fixed_at}
use Rattle.summaries.specs.declared.outfall_summary.OutfallSummary.{OutfallSummary}

-- ---- one node in one state
-- its net inflow: its lateral inflow, and what links bring and take (cm³/s)
unfoldable pub net_by : NodeFixed → (inflow outflow : ℤ) → ℤ
net_by fixed inflow outflow = fixed.lateral +ℤ inflow -ℤ outflow

-- what came in over the step of so many ms that led to the state: half its length by the net inflows at its two ends
-- (mm³)
unfoldable pub volume_by : NodeFixed → (net ms : ℤ) → ℤ
volume_by fixed net ms = int_div ms (pos 2) *ℤ (fixed.net_old +ℤ net)

-- the same in a state, by the number of the node
abbrev pub net_in : Nets → ℕ → ℤ
net_in nets n = net_by (node_fixed_at nets.nodes n) (number nets.inflows n) (number nets.outflows n)

abbrev pub volume_in : Nets → (ms : ℤ) → ℕ → ℤ
volume_in nets ms n = volume_by (node_fixed_at nets.nodes n) (net_in nets n) ms

-- ---- an outfall over a run
-- the greatest of f 0, .., f last
abbrev pub most_of : (ℕ → ℤ) → (last : ℕ) → ℤ
most_of f zero = f 0
most_of f (suc n) = int_max (most_of f n) (f (suc n))

-- the summary of an outfall over the states 0 to `last` of a run, to which steps of these lengths led: the volume that
-- came in and so left the network, and the greatest net inflow of all states
unfoldable pub load_of : (run : ℕ → Nets) (lengths : ℕ → ℤ) (last : ℕ) → (node : ℕ) → OutfallSummary
load_of run lengths last node = record {
  node = node;
  volume = sum_below (λ k. volume_in (run k) (lengths k) node) (last + 1);
  max_flow = most_of (λ k. net_in (run k) node) last;
}

-- whether a node is an outfall
abbrev pub is_outfall_kind : NodeKind → Bool
is_outfall_kind (Outfall stage gated) = true
is_outfall_kind (Junction surcharge pond) = false
is_outfall_kind (Storage shape) = false

abbrev pub is_outfall_node : Node → Bool
is_outfall_node node = is_outfall_kind node.kind

-- the numbers of the outfalls among nodes, the first of which has this number
abbrev pub outfalls_from : (first : ℕ) → List Node → List ℕ
outfalls_from first [] = []
outfalls_from first (node ∷ nodes) =
    let later = outfalls_from (first + 1) nodes in
    if is_outfall_node node then first ∷ later else later

-- ---- what is kept over a run
pub record Loads : Type 0 where
  pub outfalls : List OutfallSummary
  pub states : ℕ

-- the summary of an outfall in no state
abbrev pub no_load : ℕ → OutfallSummary
no_load node = record { node = node; volume = pos 0; max_flow = pos 0 }

-- the summaries of no state of a project
abbrev pub no_loads : Project → Loads
no_loads project = record { outfalls = map no_load (outfalls_from 0 project.nodes); states = 0 }

-- the numbers of the nodes that summaries are of
abbrev pub outfall_nodes : List OutfallSummary → List ℕ
outfall_nodes outfalls = map (λ (outfall : OutfallSummary). outfall.node) outfalls

-- the summary of a number
abbrev pub load_at : List OutfallSummary → ℕ → OutfallSummary
load_at outfalls k = slice_index_or outfalls k (no_load 0)

-- the summaries, where they are made of a state, are those of the first states of a run
pub record AreLoads (run : ℕ → Nets) (lengths : ℕ → ℤ) (loads : Loads) : Type 0 where
  pub each : (last : ℕ) → loads.states ≡ last + 1 → (k : ℕ) → k < length loads.outfalls
      → load_at loads.outfalls k ≡ load_of run lengths last (load_at loads.outfalls k).node

-- each volume is of at most 10^24 mm³ a state, and each summary is one of a node
pub record AreLoadsOf (nodes : ℕ) (loads : Loads) : Type 0 where
  pub volumes : (k : ℕ) → IsWithin (10 ^ 24 * loads.states) (load_at loads.outfalls k).volume
  pub nodes_of : (k : ℕ) → k < length loads.outfalls → (load_at loads.outfalls k).node < nodes

-- the numbers of a state from which loads are made: one for each node, old net inflows within 3·10^16, inflows and
-- outflows of links up to 2·10^16 cm³/s
pub record HasNets (nodes : ℕ) (nets : Nets) : Type 0 where
  pub fixed : length nets.nodes ≡ nodes
  pub inflows : length nets.inflows ≡ nodes
  pub outflows : length nets.outflows ≡ nodes
  pub lateral_in : (n : ℕ) → IsFlow (node_fixed_at nets.nodes n).lateral
  pub net_old_in : (n : ℕ) → IsWithin (3 * 10 ^ 16) (node_fixed_at nets.nodes n).net_old
  pub inflow_in : (n : ℕ) → IsBetween (pos 0) (number nets.inflows n) (pos (2 * 10 ^ 16))
  pub outflow_in : (n : ℕ) → IsBetween (pos 0) (number nets.outflows n) (pos (2 * 10 ^ 16))

-- ---- one state more
-- the summary with a state of this net inflow, and this volume; the first state is all that it has
abbrev pub with_load : (first : Bool) → OutfallSummary → (net volume : ℤ) → OutfallSummary
with_load first s net volume =
    if first then record { node = s.node; volume = volume; max_flow = net }
    else record { node = s.node; volume = s.volume +ℤ volume; max_flow = int_max s.max_flow net }
