use Rattle.std.proofs.Common.{◌≡◌, ◌*◌, ◌^◌, ℤ, pos, ◌-ℤ◌, arith}
use Rattle.std.specs.Int.{int_max}
use Rattle.std.proofs.lemmas.Int.{ints, clamps, to_z-of_z}
use Rattle.fixed_num.specs.Ranges.{IsBetween}
use Rattle.fixed_num.specs.Rounding.{quo_of}
use Rattle.fixed_num.proofs.Bounds.{between_quo_by, between_up, within_between, within_sub, fits64, fits128}
use Rattle.node_update.specs.NodeUpdate.{barrel_flow_of}
use Rattle.node_update.proofs.node_law.OutfallConduit.barrel_flow.Goals as goal
use Rattle.node_update.proofs.node_law.OutfallConduit.barrel_flow.Goals.{After-quo}

brought : {i o : ℤ} → IsBetween (pos 0) i (pos (2 * 10 ^ 16)) → IsBetween (pos 0) o (pos (2 * 10 ^ 16)) → IsBetween (pos 0) (int_max (i -ℤ o) (pos 0)) (pos (2 * 10 ^ 16))
brought p q = record { from = omega (arith, ints, clamps); to = omega (arith, ints, clamps, p.to, q.from) }

most : (c : After-quo) → c.max.result ≡ int_max (c.args.inflow -ℤ c.args.outflow) (pos 0)
most c =
    let net = within_sub (within_between c.requires.inflow) (within_between c.requires.outflow) in
    simp (to_z-of_z, c.ranges.inflow, c.ranges.outflow, fits64 net tt) at c.max.ensures.value

small_most : (c : After-quo) → IsBetween (pos 0) c.max.result (pos (2 * 10 ^ 16))
small_most c = rw (most c) (brought c.requires.inflow c.requires.outflow)

share : (c : After-quo) → c.quo.result ≡ quo_of c.max.result c.barrels-barrels.result
share c =
    let m = within_between (small_most c) in
    let b = within_between c.barrels-barrels.ensures.range in
    simp (to_z-of_z, fits64 m tt, fits128 m tt, fits64 b tt, fits128 b tt) at c.quo.ensures.value

small : (c : After-quo) → IsBetween (pos 0) c.quo.result (pos (2 * 10 ^ 16))
small c = rw (share c) (between_up (between_quo_by 1 (small_most c) c.barrels-barrels.ensures.range.from tt) tt tt)

value : (c : After-quo) → c.quo.result ≡ barrel_flow_of c.args.self.now c.args.inflow c.args.outflow
unfolding barrel_flow_of
value c = cc (share c, most c, c.barrels-barrels.ensures.value)

pub overflow_cast-result : goal.overflow_cast-result
overflow_cast-result c =
    let f = within_between (small (goal.at.overflow_cast-result c).After-quo) in
    simp (to_z-of_z, fits128 f tt) (fits64 f tt)

pub returns : goal.returns
returns c =
    let d = (goal.at.returns c).After-quo in
    let f = within_between (small d) in
    simp (to_z-of_z, fits128 f tt, fits64 f tt) (value d)
