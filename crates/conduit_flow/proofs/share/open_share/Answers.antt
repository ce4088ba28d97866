use Rattle.std.proofs.lemmas.Int.{to_z-of_z}
use Rattle.conduit_flow.specs.ConduitShare.{open_share_of}
use Rattle.conduit_flow.proofs.TestLemmas.{unequal, not_dry}
use Rattle.conduit_flow.proofs.share.open_share.Goals as goal

pub returns-clause-value : goal.returns-clause-value
unfolding open_share_of
returns-clause-value c =
    let a = unequal c.args.middle.now.area c.if-middle-eq0.false in
    let r = unequal c.args.middle.now.radius c.if-middle-eq0-2.false in
    let w = simp (to_z-of_z, c.ranges.last) at c.wet_share.ensures.value in
    rw (not_dry c.args.middle.now a r) w
