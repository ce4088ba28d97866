use Rattle.hotstart.specs.Layout.{layout_of, rest_of}
use Rattle.hotstart.proofs.CheckLemmas.{passes_then, fault_stays}
use Rattle.hotstart.proofs.checks.check_fields.Goals as goal

pub returns-in-Ok : goal.returns-in-Ok
unfolding layout_of
returns-in-Ok c = passes_then _ _ _ _ _ c.check_rest.result c.in-Ok.ensures c.check_rest.ensures

pub returns-in-Err : goal.returns-in-Err
unfolding layout_of
returns-in-Err c = fault_stays c.in-Err.ensures (rest_of c.args.shape.now c.args.file.now)
