use Rattle.std.proofs.lemmas.Int.{to_z-of_z}
use Rattle.continuity.specs.Parts.{node_part}
use Rattle.continuity.proofs.TotalLemmas.{summed_none, summed_more}
use Rattle.continuity.proofs.node_part.all_nodes.Goals as goal

pub loop-node-init : goal.loop-node-init
loop-node-init c = simp (to_z-of_z, c.ranges.ms, c.no_account-total.ensures) (summed_none (node_part c.args.law.now.hydraulics c.args.before.now c.args.after.now c.args.ms))

pub loop-node-preserved : goal.loop-node-preserved
loop-node-preserved c =
    summed_more c.loop-node.invariant c.part_of-part.result c.plus-total.result c.part_of-part.ensures.value c.part_of-part.ensures.range c.plus-total.ensures
