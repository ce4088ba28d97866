use Rattle.std.proofs.Common.{ℕ, ◌<◌, subst}
use Rattle.std.proofs.lemmas.Int.{to_z-of_z}
use Rattle.fixed_num.proofs.Bounds.{fits64}
use Rattle.link_eval.specs.LawGood.{fixed_in, head_in}
use Rattle.continuity.proofs.LawLemmas.{nodes_is}
use Rattle.continuity.proofs.floods.flood_at.Goals as goal

pub node-requires : goal.node-requires
node-requires c = subst (λ (k : ℕ). c.args.node < k) (nodes_is c.args.law.now.hydraulics) c.requires.node

pub flood-requires-clause-fixed : goal.flood-requires-clause-fixed
flood-requires-clause-fixed c = rw c.as_slice.ensures (fixed_in c.args.law.now.hydraulics (c.requires.after.nodes.each c.args.node c.requires.node))

pub flood-requires-clause-last : goal.flood-requires-clause-last
flood-requires-clause-last c =
    let w = head_in c.args.law.now.hydraulics (c.requires.after.read_heads.each c.args.node c.requires.node) in
    rw c.as_slice-5.ensures (simp (to_z-of_z, fits64 w tt) w)
