-- The parts are added in their order.
use Rattle.report_port.proofs.Chain.{◌⨾◌, no_more}
use Rattle.report_writer.specs.ReportSections.{times_lines}
use Rattle.report_writer.proofs.head.add_times.Goals as goal

pub returns : goal.returns
unfolding times_lines
returns g c = c.add.ensures ⨾ c.add_units.ensures ⨾ c.add-2.ensures ⨾ c.add_date.ensures ⨾ c.add-3.ensures ⨾ c.add_time.ensures ⨾ c.add-4.ensures ⨾ c.add_date-2.ensures ⨾ c.add-5.ensures ⨾ c.add_time-2.ensures ⨾ c.add-6.ensures ⨾ c.add_number.ensures ⨾ c.add-7.ensures ⨾ no_more
