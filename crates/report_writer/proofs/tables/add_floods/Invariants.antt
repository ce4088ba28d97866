-- The lines so far were added.
use Rattle.std.proofs.Common.{take}
use Rattle.std.specs.List.{flat_map, zip}
use Rattle.report_port.specs.Adding.{Adds}
use Rattle.report_writer.specs.LoadSections.{flood_line}
use Rattle.report_writer.proofs.tables.add_floods.Given as goal

abbrev pub invariant-loop-n : goal.invariant-loop-n
invariant-loop-n g l = Adds l.initial.report l.report (flat_map flood_line (take l.n (zip l.nodes l.summaries)))
