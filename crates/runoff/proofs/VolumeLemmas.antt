-- The ranges of areas and volumes.
use Rattle.std.proofs.Common.{ℕ, ◌*◌, ◌^◌, ℤ, pos, ◌*ℤ◌}
use Rattle.fixed_num.specs.Ranges.{IsBetween, IsPart, IsWithin}
use Rattle.fixed_num.proofs.Bounds.{between_mul, between_quo_by, between_up, le_number, within_between, within_mul}
use Rattle.fixed_num.proofs.Bounds.{within_quo_by, within_up}
use Rattle.runoff.specs.Overland.{IsFilledDepth}
use Rattle.runoff.specs.RunoffStep.{volume_of}
use Rattle.runoff.specs.Subareas.{part_of}

pub part-between : {area part6 : ℤ} → IsBetween (pos 0) area (pos (10 ^ 16)) → IsPart part6
    → IsBetween (pos 0) (part_of area part6) (pos (10 ^ 16))
unfolding part_of
part-between a p = between_up (between_quo_by {y = pos 1_000_000} 1_000_000 (between_mul a p) (le_number tt) tt) tt tt

pub volume-within : {area depth : ℤ} → IsWithin (3 * 10 ^ 16) area → IsFilledDepth depth
    → IsWithin (10 ^ 27) (volume_of area depth)
unfolding volume_of
volume-within a d =
    within_up (within_quo_by {b = pos 1_000_000} 1_000_000 (within_mul a (within_between d)) (le_number tt) tt) tt
