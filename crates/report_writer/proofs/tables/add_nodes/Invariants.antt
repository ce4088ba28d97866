-- The lines so far were added.
use Rattle.std.proofs.Common.{take}
use Rattle.std.specs.List.{flat_map, zip}
use Rattle.report_port.specs.Adding.{Adds}
use Rattle.report_writer.specs.SummarySections.{node_line}
use Rattle.report_writer.proofs.tables.add_nodes.Given as goal

abbrev pub invariant-loop-n : goal.invariant-loop-n
invariant-loop-n g l = Adds l.initial.report l.report (flat_map (node_line l.unit) (take l.n (zip l.nodes l.summaries)))
