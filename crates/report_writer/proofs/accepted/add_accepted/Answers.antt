-- The parts are added in their order.
use Rattle.report_port.proofs.Chain.{◌⨾◌, no_more}
use Rattle.report_writer.specs.AcceptedReport.{accepted_report}
use Rattle.report_writer.proofs.accepted.add_accepted.Goals as goal

pub returns : goal.returns
unfolding accepted_report
returns g c = c.add.ensures ⨾ (simp c.as_slice.ensures at c.add_number.ensures) ⨾ c.add-2.ensures ⨾ (simp c.as_slice-2.ensures at c.add_number-2.ensures) ⨾ c.add-3.ensures ⨾ (simp c.as_slice-3.ensures at c.add_number-3.ensures) ⨾ c.add-4.ensures ⨾ no_more
