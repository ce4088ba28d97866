use Rattle.fault_ports.proofs.OutputLemmas.{prefix_at}
use Rattle.fault_ports.proofs.output.put_parts.Goals as goal

pub returns-in-Err-clause-bytes : goal.returns-in-Err-clause-bytes
returns-in-Err-clause-bytes g c = prefix_at (λ part. part.now) _ _ _ c.args.parts.now c.loop-part.part-index _ c.loop-part-test.true c.loop-part.invariant.front c.in-Err.ensures.bytes
