use Rattle.std.proofs.Common.{arith}
use Rattle.std.proofs.lemmas.Int.{to_z-of_z}
use Rattle.fixed_num.proofs.Bounds.{fits64}
use Rattle.summaries.proofs.RowLemmas.{rewritten_more}
use Rattle.summaries.proofs.link_summary.add_links.Goals as goal

pub loop-l-preserved : goal.loop-l-preserved
loop-l-preserved c =
    let l = c.loop-l.l in
    let flow = fits64 (c.requires.flows_in l) tt in
    let made = simp (to_z-of_z, flow) at c.with_state.ensures in
    let old = c.loop-l.invariant.left l (omega arith) in
    rewritten_more c.loop-l.invariant _ (omega (arith, c.loop-l.invariant.count)) (rw old at made)
