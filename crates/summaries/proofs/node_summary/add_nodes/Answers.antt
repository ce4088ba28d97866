use Rattle.std.proofs.Common.{arith}
use Rattle.std.proofs.lemmas.Int.{to_z-of_z}
use Rattle.fixed_num.proofs.Bounds.{within_between, fits64, fits128}
use Rattle.summaries.proofs.RowLemmas.{rewritten_more}
use Rattle.summaries.proofs.node_summary.add_nodes.Goals as goal

pub loop-n-preserved : goal.loop-n-preserved
loop-n-preserved c =
    let n = c.loop-n.n in
    let head = fits64 (c.requires.heads_in n) tt in
    let invert = fits64 (c.requires.inverts_in n) tt in
    let flood = fits128 (within_between (c.requires.floods_in n)) tt in
    let made = simp (to_z-of_z, head, invert, flood) at c.with_state.ensures in
    let old = c.loop-n.invariant.left n (omega arith) in
    rewritten_more c.loop-n.invariant _ (omega (arith, c.loop-n.invariant.count)) (rw old at made)
