-- The parts are added in their order.
use Rattle.report_port.proofs.Chain.{◌⨾◌}
use Rattle.report_writer.specs.FaultReports.{project_fault_line}
use Rattle.report_writer.proofs.faults.add_project_fault.Goals as goal

pub returns : goal.returns
unfolding project_fault_line
returns g c = (c.add.ensures ⨾ c.add_number.ensures) ⨾ (simp c.as_slice.ensures at c.add_fault_tail.ensures)
