use Rattle.fault_ports.proofs.OutputLemmas.{put_more}
use Rattle.fault_ports.proofs.output.put_all.Goals as goal

pub loop-at-preserved : goal.loop-at-preserved
loop-at-preserved g c =
    put_more _ _ _ _ _ _ c.args.bytes.now c.loop-at.at c.in_ok-at.field-0 c.loop-at.invariant
    c.in_ok-at.ensures.within c.in_ok-at.ensures.bytes c.in_ok-at.ensures.cause.kept
