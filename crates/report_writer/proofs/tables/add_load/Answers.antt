-- The parts are added in their order.
use Rattle.report_port.proofs.Chain.{◌⨾◌, no_more}
use Rattle.report_writer.specs.LoadSections.{load_line}
use Rattle.report_writer.proofs.tables.add_load.Goals as goal

pub returns : goal.returns
unfolding load_line
returns g c = (simp c.as_slice.ensures at c.add.ensures) ⨾ c.add-2.ensures ⨾ c.add_number.ensures ⨾ c.add-3.ensures ⨾ c.add_value.ensures ⨾ c.add-4.ensures ⨾ no_more
