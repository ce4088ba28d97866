-- The parts are added in their order.
use Rattle.report_port.proofs.Chain.{◌⨾◌}
use Rattle.report_writer.specs.FaultReports.{line_fault_line}
use Rattle.report_writer.proofs.faults.add_line_fault.Goals as goal

pub returns : goal.returns
unfolding line_fault_line
returns g c = (c.add.ensures ⨾ c.add_number.ensures) ⨾ (c.add-2.ensures ⨾ c.add_number-2.ensures) ⨾ (simp c.as_slice.ensures at c.add_fault_tail.ensures)
