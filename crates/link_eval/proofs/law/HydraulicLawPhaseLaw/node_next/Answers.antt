use Rattle.std.proofs.Common.{◌∙◌, ap}
use Rattle.std.proofs.lemmas.Int.{to_z-of_z}
use Rattle.node_update.specs.NodeUpdate.{next_of}
use Rattle.node_update.specs.declared.node_law.NodeLaw.{NodeLaw}
use Rattle.link_eval.specs.Hydraulics.{law_of}
use Rattle.link_eval.specs.LawGood.{head_in, fixed_in}
use Rattle.link_eval.proofs.law.HydraulicLawPhaseLaw.node_next.Goals as goal

pub node-requires : goal.node-requires
unfolding law_of
node-requires c = c.requires.node

pub next-requires-clause-law : goal.next-requires-clause-law
next-requires-clause-law c = c.node.ensures.range

pub next-requires-clause-fixed : goal.next-requires-clause-fixed
next-requires-clause-fixed c = fixed_in c.args.self.now.hydraulics c.requires.fixed

pub next-requires-clause-last : goal.next-requires-clause-last
next-requires-clause-last c = simp (to_z-of_z, c.ranges.last) (head_in c.args.self.now.hydraulics c.requires.last)

pub returns : goal.returns
unfolding law_of
returns c =
    let value = simp (to_z-of_z, c.ranges.inflow, c.ranges.outflow, c.ranges.area, c.ranges.last) at c.next.ensures.value in
    value ∙ ap (λ (l : NodeLaw). next_of l c.args.fixed.now c.args.first c.args.inflow c.args.outflow c.args.area c.args.last) c.node.ensures.value
