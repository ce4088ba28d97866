-- The parts so far were appended, and the count of faults is as it was.
use Rattle.fault_ports.proofs.OutputLemmas.{PutItems}
use Rattle.fault_ports.proofs.output.put_parts.Given as goal

abbrev pub invariant-loop-part : goal.invariant-loop-part
invariant-loop-part g l = PutItems (g.W.Sink.held l.initial.to) (g.W.Sink.held l.to) (g.W.Sink.faults l.initial.to) (g.W.Sink.faults l.to) (λ part. part.now) l.parts l.part-index
