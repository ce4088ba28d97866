use Rattle.std.proofs.Common.{◌≡◌, ◌*◌, ◌^◌, pos}
use Rattle.std.proofs.lemmas.Int.{to_z-of_z}
use Rattle.fixed_num.specs.Ranges.{IsBetween, IsWithin}
use Rattle.fixed_num.proofs.Bounds.{within_between, within_mul, within_number, within_quo, fits64, fits128}
use Rattle.storage_shapes.specs.ShapeArea.{area_of_value}
use Rattle.storage_shapes.proofs.AreaLemmas.{within_nat}
use Rattle.storage_shapes.proofs.shapes.area_of.Goals as goal

pub returns-clause-value : goal.returns-clause-value
unfolding area_of_value
returns-clause-value c =
    let num = within_nat (10 ^ 11) c.args.unit.now.num c.requires.unit.num_at_most in
    let den = within_nat (10 ^ 8) c.args.unit.now.den c.requires.unit.den_at_most in
    let p = within_mul c.requires.value num in
    let d = within_mul den (within_number 1_000_000) in
    let q = simp (
      to_z-of_z,
      fits128 c.requires.value tt,
      fits128 num tt,
      fits128 den tt,
      fits128 p tt,
      fits128 d tt,
    ) at c.quo.ensures.value in
    let f : IsWithin (11 * 10 ^ 37) c.quo.result = rw q (within_quo _ p) in
    let k = simp (to_z-of_z, fits128 f tt) at c.cut.ensures.value in
    let r = within_between c.cut.ensures.between in
    simp (to_z-of_z, fits128 r tt, fits64 r tt) (cc (q, k))

pub returns-clause-range : goal.returns-clause-range
returns-clause-range c =
    let r = within_between c.cut.ensures.between in
    simp (to_z-of_z, fits128 r tt, fits64 r tt) c.cut.ensures.between
