use Rattle.std.proofs.Common.{ℕ, ◌<◌, subst}
use Rattle.std.proofs.lemmas.Int.{to_z-of_z}
use Rattle.fixed_num.proofs.Bounds.{fits64}
use Rattle.link_eval.specs.LawGood.{head_in}
use Rattle.continuity.proofs.LawLemmas.{nodes_is}
use Rattle.continuity.proofs.node_part.change_at.Goals as goal

pub node-at-requires : goal.node-at-requires
node-at-requires c = subst (λ (k : ℕ). c.args.node < k) (nodes_is c.args.law.now.hydraulics) c.requires.node

pub volume-requires-clause-head : goal.volume-requires-clause-head
volume-requires-clause-head c =
    let w = head_in c.args.law.now.hydraulics (c.requires.after.each c.args.node c.requires.node) in
    rw c.as_slice-new.ensures (simp (to_z-of_z, fits64 w tt) w)

pub volume-requires-2-clause-head : goal.volume-requires-2-clause-head
volume-requires-2-clause-head c =
    let w = head_in c.args.law.now.hydraulics (c.requires.before.each c.args.node c.requires.node) in
    rw c.as_slice-old.ensures (simp (to_z-of_z, fits64 w tt) w)
