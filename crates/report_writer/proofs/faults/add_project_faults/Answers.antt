-- The heading, and then the lines.
use Rattle.std.proofs.Common.{◌≤◌, ap, arith, length}
use Rattle.report_port.proofs.Chain.{◌⨾◌}
use Rattle.report_writer.specs.FaultReports.{project_fault_line, project_faults_report}
use Rattle.report_writer.proofs.Lines.{items_end}
use Rattle.report_writer.proofs.faults.add_project_faults.Goals as goal

pub returns : goal.returns
unfolding project_faults_report
returns g c =
    let all : length c.args.faults.now ≤ c.loop-fault.fault-index = omega (arith, ap length c.as_slice-fault-items.ensures) in
    c.add.ensures ⨾ items_end project_fault_line c.args.faults.now c.loop-fault.fault-index all c.loop-fault.invariant
