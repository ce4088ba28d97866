-- Hydraulics that are good to route with, and what follows for their law.
use Rattle.std.specs.Prelude.{ℕ, ◌<◌, ◌≤◌, length}
use Rattle.std.specs.List.{All}
use Rattle.fixed_num.specs.declared.constants.TheConstants.{RECORD_LIMIT}
use Rattle.net_types.specs.Ranges.{CurveInRange}
use Rattle.node_update.specs.NodeLaws.{IsNodeLaw}
use Rattle.phase_law.specs.Laws.{AreEnds}
use Rattle.xsect_tables.specs.SectionTable.{SectionTable}
use Rattle.link_eval.specs.Hydraulics.{Hydraulics, LinkLaw, node_law_at, link_law_at}
use Rattle.link_eval.specs.LinkLaws.{IsLinkRule, NamesOneOf}

-- a link between two different nodes of so many, whose rule is in its ranges and whose curve is one of so many
pub record IsGoodLink (nodes curves : ℕ) (link : LinkLaw SectionTable) : Type 0 where
  pub ends : AreEnds nodes (link.first, link.second)
  pub rule : IsLinkRule link.rule
  pub curve : NamesOneOf curves link.rule

-- few nodes and links, each in its ranges, and curves in theirs
pub record IsGood (h : Hydraulics) : Type 0 where
  pub few_nodes : length h.nodes ≤ RECORD_LIMIT
  pub few_links : length h.links ≤ RECORD_LIMIT
  pub nodes : (n : ℕ) → n < length h.nodes → IsNodeLaw (node_law_at h n)
  pub links : (l : ℕ) → l < length h.links → IsGoodLink (length h.nodes) (length h.curves) (link_law_at h l)
  pub curves : All CurveInRange h.curves
