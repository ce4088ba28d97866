use Rattle.std.proofs.Common.{◌≡◌, ◌*◌, ◌^◌, pos, ◌+ℤ◌, ◌*ℤ◌}
use Rattle.std.proofs.lemmas.Int.{to_z-of_z}
use Rattle.fixed_num.specs.Ranges.{IsWithin}
use Rattle.fixed_num.specs.Rounding.{quo_of}
use Rattle.fixed_num.proofs.Bounds.{within_mul, within_number, within_between, within_quo, fits64, fits128}
use Rattle.node_update.specs.NodeUpdate.{raised_of}
use Rattle.node_update.proofs.GainLemmas.{raised_within}
use Rattle.node_update.proofs.node_law.NodeLaw.raised.Goals as goal
use Rattle.node_update.proofs.node_law.NodeLaw.raised.Goals.{After-quo-rise}

rise : (c : After-quo-rise) → c.quo-rise.result ≡ quo_of (c.gain.result *ℤ pos 1_000) c.surface.result
rise c =
    let gain = c.gain.ensures.range in
    let surface = within_between c.surface.ensures.range in
    let product = within_mul gain (within_number 1_000) in
    simp (to_z-of_z, fits128 gain tt, fits64 surface tt, fits128 surface tt, fits128 product tt) at c.quo-rise.ensures.value

rise_within : (c : After-quo-rise) → IsWithin (10 ^ 24 * 1_000) c.quo-rise.result
rise_within c = rw (rise c) (within_quo c.surface.result (within_mul c.gain.ensures.range (within_number 1_000)))

value : (c : After-quo-rise) → c.args.fixed.now.h_old +ℤ c.quo-rise.result ≡ raised_of c.args.self.now c.args.fixed.now c.args.inflow c.args.outflow c.args.area c.args.last
unfolding raised_of
value c =
    let gain = simp (to_z-of_z, c.ranges.inflow, c.ranges.outflow) at c.gain.ensures.value in
    let surface = simp (to_z-of_z, c.ranges.area, c.ranges.last) at c.surface.ensures.value in
    let r = rise c in
    cc (gain, surface, r)

range : (c : After-quo-rise) → IsWithin (10 ^ 28) (c.args.fixed.now.h_old +ℤ c.quo-rise.result)
range c = rw (value c) (raised_within c.args.last c.requires.law c.requires.fixed c.requires.sums)

pub overflow_add-result : goal.overflow_add-result
overflow_add-result c =
    let d = (goal.at.overflow_add-result c).After-quo-rise in
    let head = c.requires.fixed.head in
    simp (to_z-of_z, fits64 head tt, fits128 head tt, fits128 (rise_within d) tt) (fits128 (range d) tt)

pub returns-clause-value : goal.returns-clause-value
returns-clause-value c =
    let d = (goal.at.returns-clause-value c).After-quo-rise in
    let head = c.requires.fixed.head in
    simp (to_z-of_z, fits64 head tt, fits128 head tt, fits128 (rise_within d) tt, fits128 (range d) tt) (value d)

pub returns-clause-range : goal.returns-clause-range
returns-clause-range c =
    let d = (goal.at.returns-clause-range c).After-quo-rise in
    let head = c.requires.fixed.head in
    simp (to_z-of_z, fits64 head tt, fits128 head tt, fits128 (rise_within d) tt, fits128 (range d) tt) (range d)
