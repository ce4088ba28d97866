use Rattle.std.proofs.Common.{ℕ, ◌<◌, ◌*◌, ◌^◌, subst}
use Rattle.std.proofs.lemmas.Int.{to_z-of_z}
use Rattle.fixed_num.specs.Ranges.{IsWithin}
use Rattle.fixed_num.proofs.Bounds.{fits128}
use Rattle.fixed_num.specs.Lists.{number}
use Rattle.continuity.specs.Parts.{node_part}
use Rattle.continuity.proofs.LawLemmas.{nodes_is}
use Rattle.continuity.proofs.NodeLemmas.{flood_is, flood_in, floods_length}
use Rattle.continuity.proofs.node_part.part_of.Goals as goal
use Rattle.continuity.proofs.node_part.part_of.Goals.{After-change_at}

flood : (c : After-change_at) → IsWithin (95 * 10 ^ 21) (number c.args.floods.now c.args.node)
flood c =
    rw (c.requires.floods, flood_is c.args.law.now.hydraulics c.args.after.now c.args.node c.requires.node)
    (flood_in c.args.law.now.hydraulics c.args.law.now.good c.args.node c.requires.node c.requires.after c.requires.step c.requires.tops)

pub bounds-floods-node : goal.bounds-floods-node
bounds-floods-node c = rw (c.requires.floods, floods_length c.args.law.now.hydraulics c.args.after.now) c.requires.node

pub node-requires : goal.node-requires
node-requires c = subst (λ (k : ℕ). c.args.node < k) (nodes_is c.args.law.now.hydraulics) c.requires.node

pub step_part-requires : goal.step_part-requires
step_part-requires c =
    let flooded = flood (goal.at.step_part-requires c).After-change_at in
    simp (to_z-of_z, fits128 c.lateral_inflow.ensures.range tt, fits128 c.gain_at.ensures.range tt, fits128 flooded tt, fits128 c.change_at.ensures.range tt)
    (record { step = record { inflow = c.lateral_inflow.ensures.range; gain = c.gain_at.ensures.range; flood = flooded; change = c.change_at.ensures.range } })

pub returns-clause-value : goal.returns-clause-value
unfolding node_part
returns-clause-value c =
    let flooded = flood (goal.at.returns-clause-value c).After-change_at in
    let lateral = simp (to_z-of_z, c.ranges.ms, c.as_slice.ensures, c.as_slice-2.ensures) at c.lateral_inflow.ensures.value in
    let part = simp (to_z-of_z, fits128 c.lateral_inflow.ensures.range tt, fits128 c.gain_at.ensures.range tt, fits128 flooded tt, fits128 c.change_at.ensures.range tt) at c.step_part.ensures.value in
    let is = flood_is c.args.law.now.hydraulics c.args.after.now c.args.node c.requires.node in
    simp (lateral, c.gain_at.ensures.value, c.requires.floods, is, c.change_at.ensures.value, c.node.ensures.value, c.is_outfall.ensures) at part
