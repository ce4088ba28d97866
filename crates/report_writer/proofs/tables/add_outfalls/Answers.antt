-- The heading, and then the lines.
use Rattle.std.proofs.Common.{arith}
use Rattle.report_port.proofs.Chain.{◌⨾◌}
use Rattle.report_writer.specs.LoadSections.{outfall_line, outfall_section}
use Rattle.report_writer.proofs.Lines.{items_end}
use Rattle.report_writer.proofs.tables.add_outfalls.Goals as goal

pub returns : goal.returns
unfolding outfall_section
returns g c =
    let lines = items_end (outfall_line c.unit_of-unit.result c.as_slice-nodes.result.now) _ c.loop-outfall.outfall-index (omega arith) c.loop-outfall.invariant in
    c.add.ensures ⨾ (simp (c.unit_of-unit.ensures.value, c.as_slice-nodes.ensures) at lines)
