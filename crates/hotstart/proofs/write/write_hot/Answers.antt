use Rattle.fault_ports.proofs.OutputLemmas.{puts_after, prefix_stays}
use Rattle.hotstart.specs.HotBytes.{hot_bytes}
use Rattle.hotstart.proofs.write.write_hot.Goals as goal

pub returns-in-Ok-clause-bytes : goal.returns-in-Ok-clause-bytes
unfolding hot_bytes
returns-in-Ok-clause-bytes g c = puts_after _ _ _ _ _ c.put_runoff.result c.in-Ok.ensures.bytes c.put_runoff.ensures.bytes

pub returns-in-Err-clause-bytes : goal.returns-in-Err-clause-bytes
unfolding hot_bytes
returns-in-Err-clause-bytes g c = prefix_stays _ _ _ _ c.in-Err.ensures.bytes
