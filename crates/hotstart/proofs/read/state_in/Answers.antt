use Rattle.std.proofs.Common.{◌∙◌, sym}
use Rattle.hotstart.proofs.ColumnLemmas.{old_length, new_length, long_enough}
use Rattle.hotstart.proofs.read.state_in.Goals as goal

pub is_old-requires : goal.is_old-requires
is_old-requires c = long_enough c.args.shape.now c.args.file.now c.requires.good

pub old_state-requires-clause-whole : goal.old_state-requires-clause-whole
old_state-requires-clause-whole c = old_length c.args.shape.now c.args.file.now c.requires.good (sym c.is_old.ensures ∙ c.if-is_old.true)

pub new_state-requires-clause-whole : goal.new_state-requires-clause-whole
new_state-requires-clause-whole c = new_length c.args.shape.now c.args.file.now c.requires.good (sym c.is_old.ensures ∙ c.if-is_old.false)
