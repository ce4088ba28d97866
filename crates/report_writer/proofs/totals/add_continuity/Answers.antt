-- The parts are added in their order.
use Rattle.report_port.proofs.Chain.{◌⨾◌, no_more}
use Rattle.report_writer.specs.ReportSections.{continuity_section}
use Rattle.report_writer.proofs.totals.add_continuity.Goals as goal

pub returns : goal.returns
unfolding continuity_section
returns g c = c.add.ensures ⨾ c.add_number.ensures ⨾ c.add-2.ensures ⨾ c.add_number-2.ensures ⨾ c.add-3.ensures ⨾ c.add_number-3.ensures ⨾ c.add-4.ensures ⨾ c.add_number-4.ensures ⨾ c.add-5.ensures ⨾ c.add_number-5.ensures ⨾ c.add-6.ensures ⨾ no_more
