use Rattle.link_eval.proofs.ListLemmas.{copy_step}
use Rattle.link_eval.proofs.curves.copy_curves.Goals as goal

pub loop-curve-preserved : goal.loop-curve-preserved
loop-curve-preserved c =
    copy_step c.args.curves.now c.loop-curve.curve-index c.curve-item.result c.loop-curve.copy c.push.new.self c.in_ok-copy_curve.field-0
    c.loop-curve-test.true c.curve-item.is c.loop-curve.invariant c.in_ok-copy_curve.ensures c.in_ok-push.ensures.ok
