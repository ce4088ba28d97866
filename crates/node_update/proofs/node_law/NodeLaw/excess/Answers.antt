use Rattle.std.proofs.Common.{◌≡◌, ◌*◌, ◌^◌, ◌+◌, pos, ◌-ℤ◌, ◌*ℤ◌}
use Rattle.std.proofs.lemmas.Int.{to_z-of_z}
use Rattle.fixed_num.specs.Ranges.{IsWithin}
use Rattle.fixed_num.specs.Rounding.{quo_of}
use Rattle.fixed_num.proofs.Bounds.{within_mul, within_sub, within_between, within_quo, fits64, fits128}
use Rattle.node_update.specs.NodeUpdate.{excess_of}
use Rattle.node_update.proofs.GainLemmas.{top_within, excess_within}
use Rattle.node_update.proofs.node_law.NodeLaw.excess.Goals as goal
use Rattle.node_update.proofs.node_law.NodeLaw.excess.Goals.{After-quo}

pub overflow_mul-room : goal.overflow_mul-room
overflow_mul-room c =
    let surface = within_between c.surface.ensures.range in
    let top = top_within c.requires.law in
    let head = c.requires.fixed.head in
    let above = within_sub top head in
    simp (to_z-of_z, fits64 surface tt, fits128 surface tt, fits64 top tt, fits64 head tt, fits64 above tt, fits128 above tt) (fits128 (within_mul surface above) tt)

filled : (c : After-quo) → c.quo.result ≡ quo_of (c.surface.result *ℤ (c.args.self.now.top -ℤ c.args.fixed.now.h_old)) (pos 1_000)
filled c =
    let surface = within_between c.surface.ensures.range in
    let top = top_within c.requires.law in
    let head = c.requires.fixed.head in
    let above = within_sub top head in
    simp (to_z-of_z, fits64 surface tt, fits128 surface tt, fits64 top tt, fits64 head tt, fits64 above tt, fits128 above tt, fits128 (within_mul surface above) tt) at c.quo.ensures.value

filled_within : (c : After-quo) → IsWithin (2 * 10 ^ 17 * (2 * 10 ^ 10 + 2 * 10 ^ 10)) c.quo.result
filled_within c = rw (filled c) (within_quo (pos 1_000) (within_mul (within_between c.surface.ensures.range) (within_sub (top_within c.requires.law) c.requires.fixed.head)))

value : (c : After-quo) → c.gain.result -ℤ c.quo.result ≡ excess_of c.args.self.now c.args.fixed.now c.args.inflow c.args.outflow c.args.area c.args.last
unfolding excess_of
value c =
    let gain = simp (to_z-of_z, c.ranges.inflow, c.ranges.outflow) at c.gain.ensures.value in
    let surface = simp (to_z-of_z, c.ranges.area, c.ranges.last) at c.surface.ensures.value in
    let f = filled c in
    cc (gain, surface, f)

range : (c : After-quo) → IsWithin (10 ^ 25) (c.gain.result -ℤ c.quo.result)
range c = rw (value c) (excess_within c.args.last c.requires.law c.requires.fixed c.requires.sums)

pub overflow_sub-result : goal.overflow_sub-result
overflow_sub-result c =
    let d = (goal.at.overflow_sub-result c).After-quo in
    simp (to_z-of_z, fits128 c.gain.ensures.range tt, fits128 (filled_within d) tt) (fits128 (range d) tt)

pub returns-clause-value : goal.returns-clause-value
returns-clause-value c =
    let d = (goal.at.returns-clause-value c).After-quo in
    simp (to_z-of_z, fits128 c.gain.ensures.range tt, fits128 (filled_within d) tt, fits128 (range d) tt) (value d)

pub returns-clause-range : goal.returns-clause-range
returns-clause-range c =
    let d = (goal.at.returns-clause-range c).After-quo in
    simp (to_z-of_z, fits128 c.gain.ensures.range tt, fits128 (filled_within d) tt, fits128 (range d) tt) (range d)
