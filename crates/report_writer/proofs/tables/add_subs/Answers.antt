-- Each turn adds the line of one pair.
use Rattle.std.proofs.Common.{arith}
use Rattle.report_port.proofs.Chain.{◌⨾◌}
use Rattle.report_writer.specs.LoadSections.{sub_line, sub_section}
use Rattle.report_writer.proofs.Lines.{line_more, lines_end}
use Rattle.report_writer.proofs.tables.add_subs.Goals as goal

pub loop-n-preserved : goal.loop-n-preserved
loop-n-preserved g c =
    line_more (sub_line c.unit_of-unit.result) _ _ c.loop-n.n c.index-subs-n.result _ (omega arith) (omega arith) c.index-subs-n.is c.loop-n.invariant c.add_sub.ensures

pub returns : goal.returns
unfolding sub_section
returns g c =
    let lines = lines_end (sub_line c.unit_of-unit.result) _ _ c.loop-n.n (omega arith) c.loop-n.invariant in
    c.add.ensures ⨾ (simp (c.unit_of-unit.ensures.value, c.as_slice-subs.ensures) at lines)
