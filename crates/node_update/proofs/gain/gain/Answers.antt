use Rattle.std.proofs.Common.{◌≡◌, ◌^◌, ap, pos, ◌+ℤ◌, ◌*ℤ◌}
use Rattle.std.specs.Prelude.{int_div}
use Rattle.std.proofs.lemmas.Int.{to_z-of_z}
use Rattle.fixed_num.specs.Ranges.{IsWithin}
use Rattle.fixed_num.proofs.Bounds.{within_add, fits64, fits128}
use Rattle.node_update.specs.NodeUpdate.{net_of, gain_of}
use Rattle.node_update.proofs.GainLemmas.{length_within, half_within, gain_within}
use Rattle.node_update.proofs.gain.gain.Goals as goal
use Rattle.node_update.proofs.gain.gain.Goals.{After-net}

net_is : (c : After-net) → c.net.result ≡ net_of c.args.fixed.now c.args.inflow c.args.outflow
net_is c = simp (to_z-of_z, c.ranges.inflow, c.ranges.outflow) at c.net.ensures.value

product : (c : After-net) → IsWithin (10 ^ 24) (int_div c.args.fixed.now.dt (pos 2) *ℤ (c.args.fixed.now.net_old +ℤ c.net.result))
unfolding gain_of
product c = rw (net_is c) (gain_within c.requires.fixed c.requires.inflow c.requires.outflow)

pub overflow_mul-result : goal.overflow_mul-result
overflow_mul-result c =
    let dt = length_within c.requires.fixed.length in
    let half = half_within c.requires.fixed.length in
    let old = c.requires.fixed.net in
    let net = c.net.ensures.range in
    let nets = within_add old net in
    simp (to_z-of_z, fits64 dt tt, fits64 half tt, fits128 half tt, fits64 old tt, fits64 net tt, fits64 nets tt, fits128 nets tt) (fits128 (product (goal.at.overflow_mul-result c).After-net) tt)

pub returns-clause-value : goal.returns-clause-value
unfolding gain_of
returns-clause-value c =
    let dt = length_within c.requires.fixed.length in
    let half = half_within c.requires.fixed.length in
    let old = c.requires.fixed.net in
    let net = c.net.ensures.range in
    let nets = within_add old net in
    simp (to_z-of_z, fits64 dt tt, fits64 half tt, fits128 half tt, fits64 old tt, fits64 net tt, fits64 nets tt, fits128 nets tt, fits128 (product (goal.at.returns-clause-value c).After-net) tt)
    (ap (λ n. int_div c.args.fixed.now.dt (pos 2) *ℤ (c.args.fixed.now.net_old +ℤ n)) (net_is (goal.at.returns-clause-value c).After-net))

pub returns-clause-range : goal.returns-clause-range
returns-clause-range c =
    let dt = length_within c.requires.fixed.length in
    let half = half_within c.requires.fixed.length in
    let old = c.requires.fixed.net in
    let net = c.net.ensures.range in
    let nets = within_add old net in
    let all = product (goal.at.returns-clause-range c).After-net in
    simp (to_z-of_z, fits64 dt tt, fits64 half tt, fits128 half tt, fits64 old tt, fits64 net tt, fits64 nets tt, fits128 nets tt, fits128 all tt) all
