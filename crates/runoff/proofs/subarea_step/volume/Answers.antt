use Rattle.std.proofs.Common.{◌≡◌, ◌*◌, ◌^◌, pos}
use Rattle.std.proofs.lemmas.Int.{to_z-of_z}
use Rattle.fixed_num.specs.Ranges.{IsWithin}
use Rattle.fixed_num.proofs.Bounds.{within_between, within_mul, fits64, fits128, fits_wider}
use Rattle.runoff.specs.RunoffStep.{volume_of}
use Rattle.runoff.proofs.VolumeLemmas.{volume-within}
use Rattle.runoff.proofs.subarea_step.volume.Goals as goal

pub returns-clause-range : goal.returns-clause-range
unfolding volume_of
returns-clause-range c =
    let product = within_mul c.requires.area (within_between c.requires.depth) in
    let v = simp (
      to_z-of_z,
      c.ranges.area,
      fits_wider _ c.ranges.area,
      c.ranges.depth,
      fits_wider _ c.ranges.depth,
      fits128 product tt,
    ) at c.quo.ensures.value in
    let small : IsWithin (10 ^ 27) c.quo.result = rw v (volume-within c.requires.area c.requires.depth) in
    simp (to_z-of_z, fits128 small tt) small
