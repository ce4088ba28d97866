-- Each turn adds the line of one pair.
use Rattle.std.proofs.Common.{arith}
use Rattle.report_port.proofs.Chain.{◌⨾◌}
use Rattle.report_writer.specs.SummarySections.{link_line, link_section}
use Rattle.report_writer.proofs.Lines.{line_more, lines_end}
use Rattle.report_writer.proofs.tables.add_links.Goals as goal

pub loop-n-preserved : goal.loop-n-preserved
loop-n-preserved g c =
    line_more (link_line c.unit_of-unit.result) _ _ c.loop-n.n c.index-links-n.result _ (omega arith) (omega arith) c.index-links-n.is c.loop-n.invariant c.add_peak.ensures

pub returns : goal.returns
unfolding link_section
returns g c =
    let lines = lines_end (link_line c.unit_of-unit.result) _ _ c.loop-n.n (omega arith) c.loop-n.invariant in
    c.add.ensures ⨾ (simp (c.unit_of-unit.ensures.value, c.as_slice-links.ensures) at lines)
