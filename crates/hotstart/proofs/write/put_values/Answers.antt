use Rattle.fault_ports.proofs.OutputLemmas.{prefix_at}
use Rattle.hotstart.specs.HotBytes.{value_bytes}
use Rattle.hotstart.proofs.write.put_values.Goals as goal

pub returns-in-Err-clause-bytes : goal.returns-in-Err-clause-bytes
returns-in-Err-clause-bytes g c = prefix_at value_bytes _ _ _ c.args.values.now c.loop-value.value-index _ c.loop-value-test.true c.loop-value.invariant.front c.in-Err.ensures.bytes
