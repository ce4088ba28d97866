use Rattle.std.proofs.Common.{◌≡◌, ◌*◌, ◌^◌, pos, FitsSigned, rules}
use Rattle.std.specs.Int.{w64}
use Rattle.std.proofs.lemmas.Int.{to_z-of_z}
use Rattle.fixed_num.specs.Ranges.{IsBetween, IsWithin}
use Rattle.fixed_num.proofs.Bounds.{within_between, within_min, within_sub, fits64}
use Rattle.orifice_weir.proofs.StillLemmas.{not_below}
use Rattle.orifice_weir.proofs.heads.lower.Goals as goal

pub returns-clause-range : goal.returns-clause-range
returns-clause-range c =
    let low : FitsSigned w64 c.min.result = search rules in
    let m = simp (to_z-of_z, c.ranges.near, c.ranges.far) at c.min.ensures.value in
    let least : IsWithin (2 * 10 ^ 10) c.min.result = rw m (within_min c.requires.near c.requires.far) in
    let small = within_sub least c.requires.edge in
    let x = simp (to_z-of_z, low, c.ranges.edge, fits64 small tt) at c.max.ensures.value in
    let range : IsBetween (pos 0) c.max.result (pos 40_000_000_000) = rw x (not_below small) in
    simp (to_z-of_z, fits64 (within_between range) tt) range
