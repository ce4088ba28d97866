-- The items so far were put, and no fault came.
use Rattle.fault_ports.proofs.OutputLemmas.{PutItems}
use Rattle.hotstart.specs.HotBytes.{count_bytes}
use Rattle.hotstart.proofs.write.put_counts.Given as goal

abbrev pub invariant-loop-count : goal.invariant-loop-count
invariant-loop-count g l = PutItems (g.K.Sink.held l.initial.to) (g.K.Sink.held l.to) (g.K.Sink.faults l.initial.to) (g.K.Sink.faults l.to) count_bytes l.counts l.count-index
