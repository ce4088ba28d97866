-- The items so far were put, and no fault came.
use Rattle.fault_ports.proofs.OutputLemmas.{PutItems}
use Rattle.hotstart.specs.HotBytes.{value_bytes}
use Rattle.hotstart.proofs.write.put_values.Given as goal

abbrev pub invariant-loop-value : goal.invariant-loop-value
invariant-loop-value g l = PutItems (g.K.Sink.held l.initial.to) (g.K.Sink.held l.to) (g.K.Sink.faults l.initial.to) (g.K.Sink.faults l.to) value_bytes l.values l.value-index
