-- What holds of the meaning of every law (this project's profile).
use Rattle.std.specs.Prelude.{◌≡◌, ℕ, ◌^◌, ◌<◌, ◌≤◌, ℤ, Bool}
use Rattle.fixed_num.specs.Ranges.{IsFlow}
use Rattle.fixed_num.specs.declared.constants.TheConstants.{RECORD_LIMIT}
use Rattle.phase_law.specs.Law.{Law}
use Rattle.phase_law.specs.Ranges.{HeadInRange, LinkFixedInRange, NodeFixedInRange, SumsInRange, ShareInRange}
use Rattle.phase_law.specs.declared.values.LinkFixed.{LinkFixed}
use Rattle.phase_law.specs.declared.values.NodeFixed.{NodeFixed}

-- the two ends of a link are different nodes of the network
pub record AreEnds (nodes : ℕ) (ends : ℕ × ℕ) : Type 0 where
  pub first : ends.0 < nodes
  pub second : ends.1 < nodes
  pub differ : ¬ (ends.0 ≡ ends.1)

-- few nodes and links, a head limit of 1 to 10^15, good ends, and answers in range wherever it is asked in range
pub record IsLaw (law : Law) : Type 0 where
  pub few_nodes : law.nodes ≤ RECORD_LIMIT
  pub few_links : law.links ≤ RECORD_LIMIT
  pub limit_least : 1 ≤ law.limit
  pub limit_most : law.limit ≤ 10 ^ 15
  pub ends_in : (link : ℕ) → link < law.links → AreEnds law.nodes (law.ends link)
  pub share_in : (link : ℕ) (fixed : LinkFixed) (first : Bool) (near far last : ℤ) → link < law.links
      → LinkFixedInRange fixed → HeadInRange law near → HeadInRange law far → IsFlow last
      → ShareInRange (law.share link fixed first near far last)
  pub next_in : (node : ℕ) (fixed : NodeFixed) (first : Bool) (inflow outflow area last : ℤ) → node < law.nodes
      → NodeFixedInRange law fixed → SumsInRange inflow outflow area → HeadInRange law last
      → HeadInRange law (law.next node fixed first inflow outflow area last).head
