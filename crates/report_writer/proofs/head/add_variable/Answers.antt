-- A run with steps of one length has no such line.
use Rattle.std.proofs.Common.{◌∙◌, sym}
use Rattle.report_port.proofs.Chain.{◌⨾◌, no_more}
use Rattle.report_writer.proofs.SectionLemmas.{constant_line, variable_is}
use Rattle.report_writer.proofs.head.add_variable.Goals as goal

pub returns-then-is_constant : goal.returns-then-is_constant
returns-then-is_constant g c = rw (constant_line c.args.options.now (sym c.is_constant.ensures ∙ c.if-is_constant.true)) no_more

pub returns : goal.returns
returns g c =
    let line = c.add.ensures ⨾ (simp c.unit_of-unit.ensures.value at c.add_value.ensures) ⨾ c.add-2.ensures ⨾ no_more in
    rw (variable_is c.args.options.now (sym c.is_constant.ensures ∙ c.if-is_constant.false)) line
