-- The items so far were put, and no fault came.
use Rattle.fault_ports.proofs.OutputLemmas.{PutItems}
use Rattle.hotstart.specs.HotBytes.{sub_bytes}
use Rattle.hotstart.proofs.write.put_subs.Given as goal

abbrev pub invariant-loop-sub : goal.invariant-loop-sub
invariant-loop-sub g l = PutItems (g.K.Sink.held l.initial.to) (g.K.Sink.held l.to) (g.K.Sink.faults l.initial.to) (g.K.Sink.faults l.to) sub_bytes l.subs l.sub-index
