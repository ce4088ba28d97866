-- A node that was flooded has its line, and another has none.
use Rattle.std.proofs.Common.{◌∙◌, sym}
use Rattle.report_port.proofs.Chain.{◌⨾◌, no_more}
use Rattle.report_writer.specs.LoadSections.{flood_line, volume_line}
use Rattle.report_writer.proofs.tables.add_flood.Goals as goal

pub returns-then-not-is_flooded : goal.returns-then-not-is_flooded
unfolding flood_line
returns-then-not-is_flooded g c = rw (sym c.is_flooded.ensures ∙ c.if-not-is_flooded.true) no_more

pub returns : goal.returns
unfolding flood_line volume_line
returns g c =
    let line = (simp c.as_slice.ensures at c.add.ensures) ⨾ c.add-2.ensures ⨾ c.add_number.ensures ⨾ c.add-3.ensures ⨾ no_more in
    rw (sym c.is_flooded.ensures ∙ c.if-not-is_flooded.false) line
