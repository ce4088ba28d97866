-- Each turn adds the line of one pair.
use Rattle.std.proofs.Common.{arith}
use Rattle.report_port.proofs.Chain.{◌⨾◌}
use Rattle.report_writer.specs.SummarySections.{node_line, node_section}
use Rattle.report_writer.proofs.Lines.{line_more, lines_end}
use Rattle.report_writer.proofs.tables.add_nodes.Goals as goal

pub loop-n-preserved : goal.loop-n-preserved
loop-n-preserved g c =
    line_more (node_line c.unit_of-unit.result) _ _ c.loop-n.n c.index-nodes-n.result _ (omega arith) (omega arith) c.index-nodes-n.is c.loop-n.invariant c.add_peak.ensures

pub returns : goal.returns
unfolding node_section
returns g c =
    let lines = lines_end (node_line c.unit_of-unit.result) _ _ c.loop-n.n (omega arith) c.loop-n.invariant in
    c.add.ensures ⨾ (simp (c.unit_of-unit.ensures.value, c.as_slice-nodes.ensures) at lines)
