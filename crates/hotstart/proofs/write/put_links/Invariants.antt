-- The links so far were put, and no fault came.
use Rattle.std.proofs.Common.{zip}
use Rattle.fault_ports.proofs.OutputLemmas.{PutItems}
use Rattle.hotstart.specs.HotBytes.{link_bytes}
use Rattle.hotstart.proofs.write.put_links.Given as goal

abbrev pub invariant-loop-link : goal.invariant-loop-link
invariant-loop-link g l = PutItems (g.K.Sink.held l.initial.to) (g.K.Sink.held l.to) (g.K.Sink.faults l.initial.to) (g.K.Sink.faults l.to) link_bytes (zip l.flows l.settings) l.link
