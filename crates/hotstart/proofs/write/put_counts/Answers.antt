use Rattle.fault_ports.proofs.OutputLemmas.{prefix_at}
use Rattle.hotstart.specs.HotBytes.{count_bytes}
use Rattle.hotstart.proofs.write.put_counts.Goals as goal

pub returns-in-Err-clause-bytes : goal.returns-in-Err-clause-bytes
returns-in-Err-clause-bytes g c = prefix_at count_bytes _ _ _ c.args.counts.now c.loop-count.count-index _ c.loop-count-test.true c.loop-count.invariant.front c.in-Err.ensures.bytes
