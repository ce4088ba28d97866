-- The lines so far were added.
use Rattle.std.proofs.Common.{take}
use Rattle.std.specs.List.{flat_map, zip}
use Rattle.report_port.specs.Adding.{Adds}
use Rattle.report_writer.specs.SummarySections.{link_line}
use Rattle.report_writer.proofs.tables.add_links.Given as goal

abbrev pub invariant-loop-n : goal.invariant-loop-n
invariant-loop-n g l = Adds l.initial.report l.report (flat_map (link_line l.unit) (take l.n (zip l.links l.summaries)))
