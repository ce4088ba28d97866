-- When a state fits a law (this project's profile).
use Rattle.std.specs.Prelude.{◌≡◌, ℕ, ◌<◌, ℤ, List, length, slice_index_or}
use Rattle.fixed_num.specs.Lists.{number}
use Rattle.fixed_num.specs.Ranges.{IsFlow, IsTravelTime}
use Rattle.phase_law.specs.Law.{Law}
use Rattle.phase_law.specs.Ranges.{HeadInRange, LinkFixedInRange, NodeFixedInRange, SumsInRange}
use Rattle.phase_law.specs.declared.values.LinkFixed.{LinkFixed}
use Rattle.phase_law.specs.declared.values.NodeFixed.{NodeFixed}
use Rattle.trial_model.specs.declared.nets.Nets.{Nets}
use Rattle.trial_model.specs.Start.{no_link, no_node}

-- what stays the same for a link and for a node, by their numbers
abbrev pub link_fixed_at : List LinkFixed → ℕ → LinkFixed
link_fixed_at links k = slice_index_or links k no_link

abbrev pub node_fixed_at : List NodeFixed → ℕ → NodeFixed
node_fixed_at nodes k = slice_index_or nodes k no_node

-- heads, one for each node, within the head limit
pub record HeadsFit (law : Law) (heads : List ℤ) : Type 0 where
  pub count : length heads ≡ law.nodes
  pub each : (n : ℕ) → n < law.nodes → HeadInRange law (number heads n)

-- flows, one for each link, in range
pub record FlowsFit (law : Law) (flows : List ℤ) : Type 0 where
  pub count : length flows ≡ law.links
  pub each : (l : ℕ) → l < law.links → IsFlow (number flows l)

-- inflows, outflows and areas, one for each node, in range
pub record SumsFit (law : Law) (inflows outflows areas : List ℤ) : Type 0 where
  pub inflow_count : length inflows ≡ law.nodes
  pub outflow_count : length outflows ≡ law.nodes
  pub area_count : length areas ≡ law.nodes
  pub each : (n : ℕ) → n < law.nodes → SumsInRange (number inflows n) (number outflows n) (number areas n)

-- what stays the same for the links and for the nodes over a step, in range
pub record LinksFit (law : Law) (links : List LinkFixed) : Type 0 where
  pub count : length links ≡ law.links
  pub each : (l : ℕ) → l < law.links → LinkFixedInRange (link_fixed_at links l)

pub record NodesFit (law : Law) (nodes : List NodeFixed) : Type 0 where
  pub count : length nodes ≡ law.nodes
  pub each : (n : ℕ) → n < law.nodes → NodeFixedInRange law (node_fixed_at nodes n)

-- the lengths of a state's lists are the law's counts, and its numbers lie in the law's ranges
pub record Fits (law : Law) (nets : Nets) : Type 0 where
  pub heads : HeadsFit law nets.heads
  pub flows : FlowsFit law nets.flows
  pub sums : SumsFit law nets.inflows nets.outflows nets.areas
  pub read_heads : HeadsFit law nets.read_heads
  pub links : LinksFit law nets.links
  pub nodes : NodesFit law nets.nodes
  pub least : IsTravelTime nets.least
