use Rattle.std.proofs.Common.{rules, arith, FitsSigned}
use Rattle.std.specs.Int.{w64}
use Rattle.std.proofs.lemmas.Int.{to_z-of_z}
use Rattle.summaries.specs.Runoffs.{flow_at}
use Rattle.summaries.proofs.RowLemmas.{rewritten_more}
use Rattle.summaries.proofs.sub_summary.add_steps.Goals as goal

pub loop-k-preserved : goal.loop-k-preserved
loop-k-preserved c =
    let k = c.loop-k.k in
    let flow : FitsSigned w64 (flow_at c.args.states.now k) = search rules in
    let made = simp (to_z-of_z, flow) at c.with_more.ensures in
    let old = c.loop-k.invariant.left k (omega arith) in
    rewritten_more c.loop-k.invariant _ (omega (arith, c.loop-k.invariant.count)) (rw old at made)
