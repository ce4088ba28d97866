use Rattle.std.proofs.Common.{◌∙◌, sym}
use Rattle.summaries.proofs.LoadLemmas.{outfalls_more}
use Rattle.summaries.proofs.outfall_summary.new_outfalls.Goals as goal

pub loop-n-preserved : goal.loop-n-preserved
loop-n-preserved c =
    let more = outfalls_more c.args.nodes.now c.loop-n.n c.index-nodes-n.result c.loop-n-test.true in
    let joined = rw (← c.index-nodes-n.is, ← c.loop-n.invariant) at more in
    c.in_ok-add_outfall.ensures ∙ sym joined
