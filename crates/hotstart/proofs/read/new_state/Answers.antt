use Rattle.std.proofs.Common.{rules, FitsSigned}
use Rattle.std.specs.Int.{w64}
use Rattle.std.proofs.lemmas.Int.{to_z-of_z}
use Rattle.hotstart.proofs.ReadLemmas.{new_state_is}
use Rattle.hotstart.proofs.read.new_state.Goals as goal

pub returns : goal.returns
returns c =
    let fits : FitsSigned w64 c.value_at.result = search rules in
    simp (to_z-of_z, fits)
    (new_state_is c.args.project.now c.args.file.now c.args.shape.now c.in_ok-column.field-0 c.in_ok-column-2.field-0 c.in_ok-column-3.field-0 c.value_at.result c.in_ok-sub_column.field-0
    c.requires.shape c.in_ok-column.ensures c.in_ok-column-2.ensures c.in_ok-column-3.ensures c.value_at.ensures c.in_ok-sub_column.ensures)
