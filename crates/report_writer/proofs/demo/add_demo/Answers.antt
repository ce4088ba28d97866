-- The parts are added in their order.
use Rattle.report_port.proofs.Chain.{◌⨾◌, no_more}
use Rattle.report_writer.specs.DemoReport.{demo_report}
use Rattle.report_writer.proofs.demo.add_demo.Goals as goal

pub returns : goal.returns
unfolding demo_report
returns g c = (c.add.ensures ⨾ c.add_number.ensures ⨾ c.add-2.ensures ⨾ no_more) ⨾ c.add_continuity.ensures ⨾ c.add_counts.ensures
