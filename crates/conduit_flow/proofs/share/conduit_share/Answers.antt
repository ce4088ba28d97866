use Rattle.std.proofs.Common.{FitsSigned, rules}
use Rattle.std.specs.Int.{w64}
use Rattle.std.proofs.lemmas.Int.{to_z-of_z}
use Rattle.conduit_flow.specs.ConduitShare.{share_of}
use Rattle.conduit_flow.proofs.TestLemmas.{unequal}
use Rattle.conduit_flow.proofs.share.conduit_share.Goals as goal

pub returns-clause-value : goal.returns-clause-value
unfolding share_of
returns-clause-value c =
    let deep : FitsSigned w64 c.mean_depth.result = search rules in
    let d = simp (to_z-of_z, c.ranges.near, c.ranges.far) at c.mean_depth.ensures.value in
    let e = simp (to_z-of_z, c.ranges.near, c.ranges.far) at c.ends_at-ends.ensures.value in
    let m = simp (to_z-of_z, deep) at c.middle_at-middle.ensures.value in
    let o = simp (to_z-of_z, c.ranges.last) at c.open_share.ensures.value in
    rw (unequal c.args.fixed.now.setting c.if-fixed-eq0.false) (cc (d, e, m, o))
