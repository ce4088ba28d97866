use Rattle.std.proofs.Common.{◌≡◌, ◌*◌, ◌^◌, pos}
use Rattle.std.proofs.lemmas.Int.{to_z-of_z}
use Rattle.fixed_num.specs.Ranges.{IsWaterDepth}
use Rattle.fixed_num.proofs.Bounds.{between_add, between_up, within_between, fits64}
use Rattle.conduit_flow.specs.Geometry.{mean_depth_of}
use Rattle.conduit_flow.proofs.RangeLemmas.{mean-between}
use Rattle.conduit_flow.proofs.geometry.mean_depth.Goals as goal
use Rattle.conduit_flow.proofs.geometry.mean_depth.Goals.{After-quick_quo}

pub quick_quo-requires-clause-a : goal.quick_quo-requires-clause-a
quick_quo-requires-clause-a c =
    let a = c.depth-depth1.ensures.range in
    let b = c.depth-depth2.ensures.range in
    let sum = between_add a b in
    simp (to_z-of_z, fits64 (within_between a) tt, fits64 (within_between b) tt, fits64 (within_between sum) tt) (between_up sum tt tt)

value : (c : After-quick_quo) → c.quick_quo.result ≡ mean_depth_of c.args.conduit.now c.args.near c.args.far
unfolding mean_depth_of
value c =
    let a = c.depth-depth1.ensures.range in
    let b = c.depth-depth2.ensures.range in
    let d1 = simp (to_z-of_z, c.ranges.near, fits64 c.requires.conduit.z1 tt) at c.depth-depth1.ensures.value in
    let d2 = simp (to_z-of_z, c.ranges.far, fits64 c.requires.conduit.z2 tt) at c.depth-depth2.ensures.value in
    let q = simp (to_z-of_z, fits64 (within_between a) tt, fits64 (within_between b) tt, fits64 (within_between (between_add a b)) tt) at c.quick_quo.ensures.value in
    cc (d1, d2, q)

between : (c : After-quick_quo) → IsWaterDepth c.quick_quo.result
between c =
    let a = c.depth-depth1.ensures.range in
    let b = c.depth-depth2.ensures.range in
    let q = simp (to_z-of_z, fits64 (within_between a) tt, fits64 (within_between b) tt, fits64 (within_between (between_add a b)) tt) at c.quick_quo.ensures.value in
    rw q (mean-between c.depth-depth1.ensures.range c.depth-depth2.ensures.range)

pub returns-clause-value : goal.returns-clause-value
returns-clause-value c = simp (to_z-of_z, fits64 (within_between (between c)) tt) (value c)

pub returns-clause-range : goal.returns-clause-range
returns-clause-range c = simp (to_z-of_z, fits64 (within_between (between c)) tt) (between c)
