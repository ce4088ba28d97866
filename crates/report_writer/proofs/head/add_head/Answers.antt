-- The parts are added in their order.
use Rattle.report_port.proofs.Chain.{◌⨾◌, no_more}
use Rattle.report_writer.specs.ReportSections.{options_section, report_line}
use Rattle.report_writer.specs.RunReport.{head_of}
use Rattle.report_writer.proofs.head.add_head.Goals as goal

pub returns : goal.returns
unfolding head_of options_section report_line
returns g c = c.add.ensures ⨾ c.add_lines.ensures ⨾ c.add_lines-2.ensures ⨾ c.add_times.ensures ⨾ c.add_variable.ensures ⨾ (c.add-2.ensures ⨾ c.add_number.ensures ⨾ c.add-3.ensures ⨾ no_more)
