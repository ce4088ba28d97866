-- Up to `at` all bytes were appended, and the count of faults is as it was.
use Rattle.std.proofs.Common.{◌-◌, length}
use Rattle.fault_ports.proofs.OutputLemmas.{Put}
use Rattle.fault_ports.proofs.output.put_all.Given as goal

abbrev pub invariant-loop-at : goal.invariant-loop-at
invariant-loop-at g l = Put (g.W.Sink.held l.initial.to) (g.W.Sink.held l.to) (g.W.Sink.faults l.initial.to) (g.W.Sink.faults l.to) l.bytes l.at

abbrev pub decreases-loop-at : goal.decreases-loop-at
decreases-loop-at g l = length l.bytes - l.at
