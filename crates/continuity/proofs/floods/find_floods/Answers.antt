use Rattle.std.proofs.Common.{◌<◌, ◌∙◌, length, arith}
use Rattle.std.proofs.lemmas.Int.{to_z-of_z}
use Rattle.fixed_num.proofs.Bounds.{within_between, fits128}
use Rattle.continuity.proofs.NodeLemmas.{floods_more, floods_made, floods_in}
use Rattle.continuity.proofs.floods.find_floods.Goals as goal
use Rattle.continuity.proofs.floods.find_floods.Goals.{After-loop-node}

pub loop-node-preserved : goal.loop-node-preserved
loop-node-preserved c =
    let inside : c.loop-node.node < length c.loop-node.floods = omega (arith, c.loop-node.auto.floods, c.requires.floods, c.nodes-node-end.ensures, c.loop-node-test.true) in
    simp (to_z-of_z, fits128 (within_between c.flood_at.ensures.range) tt) (floods_more c.loop-node.invariant c.flood_at.result inside c.flood_at.ensures.value)

pub returns-clause-floods : goal.returns-clause-floods
returns-clause-floods c =
    floods_made
    (record { made = λ k below. c.loop-node.invariant.made k (omega (arith, below, c.nodes-node-end.ensures, c.loop-node-test.false)) })
    (c.loop-node.auto.floods ∙ c.requires.floods)

pub returns-clause-range : goal.returns-clause-range
returns-clause-range c n =
    rw (returns-clause-floods c) (floods_in c.args.law.now.hydraulics c.args.law.now.good c.args.after.now c.requires.after n)
