-- The flow over a plane by Manning's formula (Reference Manual volume I, chapter 3, in whole numbers by this project's
-- profile). Depths are nm and times ms.
use Rattle.std.specs.Prelude.{ℕ, zero, suc, ◌/◌, ℤ, pos, ◌-ℤ◌, ◌*ℤ◌, unsigned_abs}
use Rattle.std.specs.Int.{int_max, int_min}
use Rattle.fixed_num.specs.Ranges.{IsBetween, IsRoughness, IsSmallDepth}
use Rattle.fixed_num.specs.Roots.{root2_of, root3_of}
use Rattle.fixed_num.specs.Rounding.{quo_of}
use Rattle.fixed_num.specs.Sums.{sum_below}
use Rattle.runoff.specs.declared.overland.Cover.{Cover}
use Rattle.runoff.specs.declared.overland.Plane.{Plane}

-- the root of a slope in millionths, in millionths
unfoldable pub slope_root_of : (slope6 : ℤ) → ℤ
slope_root_of slope6 = root2_of (slope6 *ℤ pos 1_000_000)

-- the width of a plane over its whole area, in 10^-9 of µm over mm²
unfoldable pub breadth_of : (width area : ℤ) → ℤ
breadth_of width area = quo_of (width *ℤ pos 1_000_000_000) area

-- the water above the depression storage
unfoldable pub excess_of : (depth storage : ℤ) → ℤ
excess_of depth storage = int_max (depth -ℤ storage) (pos 0)

-- the sheet of water that flows: the excess, and 10 m at most
unfoldable pub sheet_of : (excess : ℤ) → ℤ
sheet_of excess = int_min excess (pos 10_000_000_000)

-- the two thirds power of its depth
unfoldable pub two_thirds_of : (sheet : ℤ) → ℤ
two_thirds_of sheet = root3_of (sheet *ℤ sheet *ℤ pos 1_000_000_000)

-- the speed of a sheet: by the root of the slope, the two thirds power of the depth and the roughness; 10^12 at most
unfoldable pub speed_of : (slope_root n6 sheet : ℤ) → ℤ
speed_of slope_root n6 sheet = int_min (quo_of (slope_root *ℤ two_thirds_of sheet) n6) (pos 1_000_000_000_000)

-- how fast a sheet of this speed drains a plane: 10^17 at most
unfoldable pub drain_rate_of : (breadth speed : ℤ) → ℤ
drain_rate_of breadth speed = int_min (quo_of (breadth *ℤ speed) (pos 1_000_000_000)) (pos 100_000_000_000_000_000)

-- the depth that a sheet drains in a time
unfoldable pub drained_of : (rate ms sheet : ℤ) → ℤ
drained_of rate ms sheet = quo_of (rate *ℤ ms *ℤ sheet) (pos 1_000_000_000_000)

-- the depth that runs off in a substep of `ms`: what the sheet drains, and the excess at most
unfoldable pub outflow_of : Plane → Cover → (ms depth : ℤ) → ℤ
outflow_of plane cover ms depth =
    let excess = excess_of depth cover.storage in
    let sheet = sheet_of excess in
    let rate = drain_rate_of plane.breadth (speed_of plane.slope_root cover.n6 sheet) in
    int_min excess (drained_of rate ms sheet)

-- ---- a step has eight substeps
abbrev pub substeps : ℕ
substeps = 8

-- the length of a substep
unfoldable pub substep_of : (ms : ℤ) → ℤ
substep_of ms = pos (unsigned_abs ms / 8)

-- the depth that is left after so many substeps
abbrev pub depth_after : Plane → Cover → (ms depth : ℤ) → ℕ → ℤ
depth_after plane cover ms depth zero = depth
depth_after plane cover ms depth (suc k) =
    depth_after plane cover ms depth k -ℤ outflow_of plane cover (substep_of ms) (depth_after plane cover ms depth k)

-- the depth that is left after a step, and the depth that ran off: the sum of what ran off in its substeps
unfoldable pub left_of : Plane → Cover → (ms depth : ℤ) → ℤ
left_of plane cover ms depth = depth_after plane cover ms depth substeps

unfoldable pub runoff_of : Plane → Cover → (ms depth : ℤ) → ℤ
runoff_of plane cover ms depth =
    sum_below (λ k. outflow_of plane cover (substep_of ms) (depth_after plane cover ms depth k)) substeps

-- ---- ranges
pub record IsPlane (plane : Plane) : Type 0 where
  pub slope_root : IsBetween (pos 0) plane.slope_root (pos 1_000_000)
  pub breadth : IsBetween (pos 0) plane.breadth (pos 10_000_000_000_000)

pub record IsCover (cover : Cover) : Type 0 where
  pub storage : IsSmallDepth cover.storage
  pub roughness : IsRoughness cover.n6

-- a depth of water on a subarea during a step (nm)
abbrev pub IsFilledDepth : ℤ → Type 0
IsFilledDepth depth = IsBetween (pos 0) depth (pos 20_000_000_000_000_000)
