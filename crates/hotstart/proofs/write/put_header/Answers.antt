use Rattle.fault_ports.proofs.OutputLemmas.{puts_after, prefix_stays}
use Rattle.hotstart.proofs.write.put_header.Goals as goal

pub returns-in-Ok-clause-bytes : goal.returns-in-Ok-clause-bytes
returns-in-Ok-clause-bytes g c = puts_after _ _ _ _ _ c.put_counts.result c.in-Ok.ensures.bytes
    (rw (c.as_slice.ensures, c.as_slice-2.ensures, c.as_slice-3.ensures, c.kind_number.ensures) at c.put_counts.ensures.bytes)

pub returns-in-Err-clause-bytes : goal.returns-in-Err-clause-bytes
returns-in-Err-clause-bytes g c = prefix_stays _ _ _ _ c.in-Err.ensures.bytes
