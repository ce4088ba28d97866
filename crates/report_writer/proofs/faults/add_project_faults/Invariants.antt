-- The lines so far were added.
use Rattle.std.proofs.Common.{take}
use Rattle.std.specs.List.{flat_map}
use Rattle.report_port.specs.Adding.{Adds}
use Rattle.report_writer.specs.FaultReports.{project_fault_line}
use Rattle.report_writer.proofs.faults.add_project_faults.Given as goal

abbrev pub invariant-loop-fault : goal.invariant-loop-fault
invariant-loop-fault g l = Adds l.initial.report l.report (flat_map project_fault_line (take l.fault-index l.faults))
