use Rattle.std.proofs.Common.{◌≡◌, pos, ◌*ℤ◌, int_div, sym, subst}
use Rattle.std.proofs.lemmas.Int.{to_z-of_z}
use Rattle.fixed_num.specs.Ranges.{IsBetween}
use Rattle.fixed_num.proofs.Bounds.{within_between, fits64}
use Rattle.conduit_flow.proofs.InertiaLemmas.{product-between, weight-between, weight_is}
use Rattle.conduit_flow.proofs.momentum.weight.Goals as goal

pub returns-clause-value : goal.returns-clause-value
returns-clause-value c =
    let product = fits64 (within_between (product-between c.requires.inertia c.requires.dt)) tt in
    let value = weight_is c.args.inertia c.args.dt c.requires.inertia c.requires.dt in
    let weight = fits64 (within_between (weight-between {weight = int_div (c.args.inertia *ℤ c.args.dt) (pos 4)} c.requires.inertia c.requires.dt value)) tt in
    simp (to_z-of_z, c.ranges.inertia, c.ranges.dt, product, weight) value

pub returns-clause-range : goal.returns-clause-range
returns-clause-range c =
    let product = fits64 (within_between (product-between c.requires.inertia c.requires.dt)) tt in
    let value = weight_is c.args.inertia c.args.dt c.requires.inertia c.requires.dt in
    let range = weight-between {weight = int_div (c.args.inertia *ℤ c.args.dt) (pos 4)} c.requires.inertia c.requires.dt value in
    simp (to_z-of_z, c.ranges.inertia, c.ranges.dt, product, fits64 (within_between range) tt) range
