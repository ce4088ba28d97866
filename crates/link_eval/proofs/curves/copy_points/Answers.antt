use Rattle.std.proofs.Common.{refl}
use Rattle.std.proofs.lemmas.List.{get_or_default}
use Rattle.net_types.specs.Records.{pair_at}
use Rattle.link_eval.proofs.ListLemmas.{copy_step}
use Rattle.link_eval.proofs.curves.copy_points.Goals as goal

pub loop-i-preserved : goal.loop-i-preserved
loop-i-preserved c =
    let xs = c.args.points.now in
    let i = c.loop-i.i in
    copy_step xs i (pair_at xs i) c.loop-i.copy c.push.new.self (pair_at xs i)
    c.loop-i-test.true (get_or_default xs i _ _ c.loop-i-test.true) c.loop-i.invariant refl c.in_ok-push.ensures.ok
