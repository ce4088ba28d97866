-- The lines so far were added.
use Rattle.std.proofs.Common.{take}
use Rattle.std.specs.List.{flat_map}
use Rattle.report_port.specs.Adding.{Adds}
use Rattle.report_writer.specs.LoadSections.{outfall_line}
use Rattle.report_writer.proofs.tables.add_outfalls.Given as goal

abbrev pub invariant-loop-outfall : goal.invariant-loop-outfall
invariant-loop-outfall g l = Adds l.initial.report l.report (flat_map (outfall_line l.unit l.nodes) (take l.outfall-index l.outfalls))
