-- The parts are added in their order.
use Rattle.std.proofs.Common.{rules, to_z-of_z, FitsSigned}
use Rattle.std.specs.Int.{w128}
use Rattle.fixed_num.proofs.Bounds.{within_sub, fits128}
use Rattle.report_port.proofs.Chain.{◌⨾◌, no_more}
use Rattle.report_writer.specs.LoadSections.{runoff_section}
use Rattle.report_writer.proofs.totals.add_runoff.Goals as goal

pub returns : goal.returns
unfolding runoff_section
returns g c =
    let v = c.requires in
    let rain : FitsSigned w128 c.args.total.now.rain = search rules in
    let infil : FitsSigned w128 c.args.total.now.infil = search rules in
    let runoff : FitsSigned w128 c.args.total.now.runoff = search rules in
    let stored : FitsSigned w128 c.args.total.now.stored = search rules in
    let one = within_sub v.rain v.infil in
    let two = within_sub one v.runoff in
    let three = within_sub two v.stored in
    let missing = simp (to_z-of_z, rain, infil, runoff, stored, fits128 one tt, fits128 two tt, fits128 three tt) at c.add_number-5.ensures in
    c.add.ensures ⨾ c.add_number.ensures ⨾ c.add-2.ensures ⨾ c.add_number-2.ensures ⨾ c.add-3.ensures ⨾ c.add_number-3.ensures ⨾ c.add-4.ensures ⨾ c.add_number-4.ensures
    ⨾ c.add-5.ensures ⨾ missing ⨾ c.add-6.ensures ⨾ no_more

pub overflow_sub-missing-3 : goal.overflow_sub-missing-3
overflow_sub-missing-3 g c =
    let v = c.requires in
    let rain : FitsSigned w128 c.args.total.now.rain = search rules in
    let infil : FitsSigned w128 c.args.total.now.infil = search rules in
    let runoff : FitsSigned w128 c.args.total.now.runoff = search rules in
    let stored : FitsSigned w128 c.args.total.now.stored = search rules in
    let one = within_sub v.rain v.infil in
    let two = within_sub one v.runoff in
    let three = within_sub two v.stored in
    simp (to_z-of_z, rain, infil, runoff, stored, fits128 one tt, fits128 two tt) (fits128 three tt)
