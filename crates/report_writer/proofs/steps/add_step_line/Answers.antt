-- The parts are added in their order.
use Rattle.fixed_num.proofs.Bounds.{within_add, fits128}
use Rattle.report_port.proofs.Chain.{◌⨾◌, no_more}
use Rattle.report_writer.specs.StepLines.{step_line}
use Rattle.std.proofs.Common.{rules, to_z-of_z, FitsSigned}
use Rattle.std.specs.Int.{w128}
use Rattle.report_writer.proofs.steps.add_step_line.Goals as goal

pub returns : goal.returns
unfolding step_line
returns g c =
    let outfall : FitsSigned w128 c.args.account.now.outfall = search rules in
    let flooding : FitsSigned w128 c.args.account.now.flooding = search rules in
    let losses = fits128 (within_add c.requires.outfall c.requires.flooding) tt in
    let sum = simp (to_z-of_z, outfall, flooding, losses) at c.add_number-3.ensures in
    c.add_number.ensures ⨾ c.add.ensures ⨾ c.add_number-2.ensures ⨾ c.add-2.ensures ⨾ sum ⨾ c.add-3.ensures ⨾ c.add_number-4.ensures ⨾ c.add-4.ensures ⨾ c.add_number-5.ensures
    ⨾ c.add-5.ensures ⨾ no_more
