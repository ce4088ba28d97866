use Rattle.std.proofs.Common.{◌≡◌, ◌*◌, ◌^◌, pos, ◌*ℤ◌}
use Rattle.std.proofs.lemmas.Int.{to_z-of_z}
use Rattle.fixed_num.specs.Ranges.{IsBetween}
use Rattle.fixed_num.specs.Rounding.{quo_of}
use Rattle.fixed_num.proofs.Bounds.{within_between, within_mul, fits64, fits128, fits_wider}
use Rattle.orifice_weir.specs.Submergence.{submerged_of}
use Rattle.orifice_weir.proofs.SubmergenceLemmas.{part-between}
use Rattle.orifice_weir.proofs.submergence.submerged.Goals as goal
use Rattle.orifice_weir.proofs.submergence.submerged.Goals.{After-quo}

value : (c : After-quo) → c.quo.result ≡ quo_of (c.args.flow *ℤ c.free_part.result) (pos 1_000_000_000)
value c =
    let flow = within_between c.requires.flow in
    let part = within_between c.free_part.ensures.range in
    let p = within_mul flow part in
    simp (to_z-of_z, fits128 flow tt, fits64 part tt, fits128 part tt, fits128 p tt) at c.quo.ensures.value

small : (c : After-quo) → IsBetween (pos 0) c.quo.result (pos (10 ^ 30))
small c = rw (value c) (part-between c.requires.flow c.free_part.ensures.range)

pub returns-then-low-gt0-clause-value : goal.returns-then-low-gt0-clause-value
unfolding submerged_of
returns-then-low-gt0-clause-value c =
    let before = (goal.at.returns-then-low-gt0-clause-value c).After-quo in
    let f = fits128 (within_between (small before)) tt in
    let v = value before in
    let test = simp (to_z-of_z, c.ranges.low) at c.if-low-gt0.true in
    let e = simp (to_z-of_z, c.ranges.low, c.ranges.high) at c.free_part.ensures.value in
    simp (to_z-of_z, f, test) (cc (e, v))

pub returns-then-low-gt0-clause-range : goal.returns-then-low-gt0-clause-range
returns-then-low-gt0-clause-range c =
    let before = (goal.at.returns-then-low-gt0-clause-range c).After-quo in
    simp (to_z-of_z, fits128 (within_between (small before)) tt) (small before)
