use Rattle.std.proofs.Common.{◌≡◌, ◌∙◌, ◌<◌, length, ap, arith}
use Rattle.std.proofs.lemmas.Int.{to_z-of_z}
use Rattle.trial_model.specs.Fits.{node_fixed_at}
use Rattle.run_engine.proofs.FillLemmas.{filled_all, filled_more}
use Rattle.run_engine.proofs.PreparedLemmas.{same_start}
use Rattle.run_engine.proofs.prepare.prepare_nodes.Goals as goal

pub loop-n-preserved : goal.loop-n-preserved
loop-n-preserved c =
    let n = c.loop-n.n in
    let kept = simp (to_z-of_z, c.ranges.dt, c.ranges.finish) at c.loop-n.invariant in
    let made = simp (to_z-of_z, c.ranges.dt, c.ranges.finish) at c.node_start.ensures in
    let room : n < length c.loop-n.nodes = omega (arith, kept.count, c.requires.nodes.many, c.loop-n-test.true, ap length c.as_slice.ensures) in
    let last : node_fixed_at c.loop-n.nodes n ≡ node_fixed_at c.args.nodes.now n = kept.left n (omega arith) in
    simp (to_z-of_z, c.ranges.dt, c.ranges.finish) (filled_more kept _ room (made ∙ same_start c.args.start.now c.args.heads.now c.args.inflows.now c.args.outflows.now _ _ c.args.finish c.args.dt n last))

pub returns : goal.returns
returns c =
    let kept = simp (to_z-of_z, c.ranges.dt, c.ranges.finish) at c.loop-n.invariant in
    filled_all kept _ c.requires.nodes.many (omega (arith, c.loop-n-test.false, ap length c.as_slice.ensures))
