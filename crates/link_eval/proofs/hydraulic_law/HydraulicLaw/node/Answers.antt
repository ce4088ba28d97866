use Rattle.std.proofs.Common.{sym, subst}
use Rattle.node_update.specs.NodeLaws.{IsNodeLaw}
use Rattle.link_eval.specs.Hydraulics.{no_node_law, node_law_at}
use Rattle.link_eval.proofs.ListLemmas.{read_at}
use Rattle.link_eval.proofs.hydraulic_law.HydraulicLaw.node.Goals as goal

pub returns-clause-value : goal.returns-clause-value
unfolding node_law_at
returns-clause-value c =
    read_at c.args.self.now.hydraulics.nodes c.as_slice.result.now c.args.node c.index-as_slice-node.result no_node_law c.as_slice.ensures c.requires c.index-as_slice-node.is

pub returns-clause-range : goal.returns-clause-range
returns-clause-range c =
    subst IsNodeLaw (sym (returns-clause-value c)) (c.args.self.now.good.nodes c.args.node c.requires)
