-- Each turn adds the line of one pair.
use Rattle.std.proofs.Common.{arith}
use Rattle.report_port.proofs.Chain.{◌⨾◌}
use Rattle.report_writer.specs.LoadSections.{flood_line, flood_section}
use Rattle.report_writer.proofs.Lines.{line_more, lines_end}
use Rattle.report_writer.proofs.tables.add_floods.Goals as goal

pub loop-n-preserved : goal.loop-n-preserved
loop-n-preserved g c =
    line_more flood_line _ _ c.loop-n.n c.index-nodes-n.result _ (omega arith) (omega arith) c.index-nodes-n.is c.loop-n.invariant c.add_flood.ensures

pub returns : goal.returns
unfolding flood_section
returns g c =
    let lines = lines_end flood_line _ _ c.loop-n.n (omega arith) c.loop-n.invariant in
    c.add.ensures ⨾ (simp c.as_slice-nodes.ensures at lines)
