use Rattle.fault_ports.proofs.OutputLemmas.{prefix_at}
use Rattle.hotstart.specs.HotBytes.{sub_bytes}
use Rattle.hotstart.proofs.write.put_subs.Goals as goal

pub returns-in-Err-clause-bytes : goal.returns-in-Err-clause-bytes
returns-in-Err-clause-bytes g c = prefix_at sub_bytes _ _ _ c.args.subs.now c.loop-sub.sub-index _ c.loop-sub-test.true c.loop-sub.invariant.front c.in-Err.ensures.bytes
