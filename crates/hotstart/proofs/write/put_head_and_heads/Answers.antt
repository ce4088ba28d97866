use Rattle.fault_ports.proofs.OutputLemmas.{puts_after, prefix_stays}
use Rattle.hotstart.proofs.write.put_head_and_heads.Goals as goal

pub returns-in-Ok-clause-bytes : goal.returns-in-Ok-clause-bytes
returns-in-Ok-clause-bytes g c = puts_after _ _ _ _ _ c.put_values.result c.in-Ok.ensures.bytes (rw c.as_slice.ensures at c.put_values.ensures.bytes)

pub returns-in-Err-clause-bytes : goal.returns-in-Err-clause-bytes
returns-in-Err-clause-bytes g c = prefix_stays _ _ _ _ c.in-Err.ensures.bytes
