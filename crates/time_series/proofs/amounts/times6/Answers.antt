use Rattle.std.proofs.Common.{rules, ◌≡◌, ◌^◌, ◌*◌, FitsSigned, pos}
use Rattle.std.specs.Int.{w128}
use Rattle.std.proofs.lemmas.Int.{to_z-of_z}
use Rattle.fixed_num.specs.Ranges.{IsWithin}
use Rattle.fixed_num.proofs.Bounds.{fits128, within_mul}
use Rattle.time_series.specs.Inflows.{times6}
use Rattle.time_series.proofs.amounts.times6.Goals as goal

pub overflow_mul-amount : goal.overflow_mul-amount
overflow_mul-amount c =
    let a = c.requires.amount in
    let f = c.requires.factor in
    simp (to_z-of_z, fits128 a tt, c.ranges.factor6, fits128 f tt) (fits128 (within_mul a f) tt)

pub returns : goal.returns
unfolding times6
returns c =
    let fits : FitsSigned w128 c.quo.result = search rules in
    let a = c.requires.amount in
    let f = c.requires.factor in
    let is = simp (to_z-of_z, fits128 a tt, c.ranges.factor6, fits128 f tt, fits128 (within_mul a f) tt) at
    c.quo.ensures.value in
    simp (to_z-of_z, fits) is
