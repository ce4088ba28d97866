use Rattle.std.proofs.Common.{refl}
use Rattle.std.proofs.lemmas.Int.{to_z-of_z}
use Rattle.fixed_num.proofs.Bounds.{within_add, within_sub, within_between, fits64}
use Rattle.node_update.specs.NodeUpdate.{net_of}
use Rattle.node_update.proofs.GainLemmas.{flow_within}
use Rattle.node_update.proofs.gain.net.Goals as goal

pub returns-clause-value : goal.returns-clause-value
unfolding net_of
returns-clause-value c =
    let lateral = flow_within c.requires.fixed.lateral in
    let sum = within_add lateral (within_between c.requires.inflow) in
    let net = within_sub sum (within_between c.requires.outflow) in
    simp (to_z-of_z, fits64 lateral tt, c.ranges.inflow, c.ranges.outflow, fits64 sum tt, fits64 net tt) refl
