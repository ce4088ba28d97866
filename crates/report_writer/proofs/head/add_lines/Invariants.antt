-- The lines so far were added.
use Rattle.std.proofs.Common.{take}
use Rattle.report_port.specs.Adding.{Adds}
use Rattle.report_writer.specs.Texts.{lines_of}
use Rattle.report_writer.proofs.head.add_lines.Given as goal

abbrev pub invariant-loop-text : goal.invariant-loop-text
invariant-loop-text g l = Adds l.initial.report l.report (lines_of (take l.text-index l.texts))
