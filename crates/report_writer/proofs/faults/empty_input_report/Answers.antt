-- The report computes.
use Rattle.std.proofs.Common.{refl}
use Rattle.std.specs.Fmt.{digits}
use Rattle.report_writer.specs.FaultReports.{project_faults_report, project_fault_line}
use Rattle.report_writer.proofs.faults.empty_input_report.Goals as goal

pub returns : goal.returns
unfolding project_faults_report project_fault_line digits
returns c = refl
