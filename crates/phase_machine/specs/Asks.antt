-- When what a seat has loaded for its item may be asked of the law.
use Rattle.std.specs.Prelude.{◌<◌, ◌≤◌, length}
use Rattle.fixed_num.specs.Lists.{number}
use Rattle.fixed_num.specs.Ranges.{IsFlow}
use Rattle.phase_law.specs.Law.{Law}
use Rattle.phase_law.specs.Ranges.{HeadInRange, LinkFixedInRange, NodeFixedInRange, SumsInRange}
use Rattle.phase_machine.specs.declared.work.Work.{Work}
use Rattle.phase_machine.specs.Items.{link_loads, node_loads}

-- a link's share
pub record AsksLink (law : Law) (w : Work) : Type 0 where
  pub link : w.item < law.links
  pub loads : 8 ≤ length w.loaded
  pub fixed : LinkFixedInRange (link_loads w)
  pub near : HeadInRange law (number w.loaded 5)
  pub far : HeadInRange law (number w.loaded 6)
  pub last : IsFlow (number w.loaded 7)

-- a node's next head
pub record AsksNode (law : Law) (w : Work) : Type 0 where
  pub node : w.item < law.nodes
  pub loads : 10 ≤ length w.loaded
  pub fixed : NodeFixedInRange law (node_loads w)
  pub sums : SumsInRange (number w.loaded 7) (number w.loaded 8) (number w.loaded 9)
  pub last : HeadInRange law (number w.loaded 6)
