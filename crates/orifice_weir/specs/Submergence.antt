-- How much less flows over a weir whose lower side stands above its crest (after Villemonte, in whole numbers by this
-- project's profile).
use Rattle.std.specs.Prelude.{if◌then◌else◌, ℤ, pos, ◌-ℤ◌, ◌*ℤ◌, int_lt}
use Rattle.fixed_num.specs.Roots.{root2_of}
use Rattle.fixed_num.specs.Rounding.{quo_of}

-- the lower head over the upper one, in millionths
unfoldable pub head_ratio_of : (low high : ℤ) → ℤ
head_ratio_of low high = quo_of (low *ℤ pos 1_000_000) high

-- the root of a number of millionths, in millionths
unfoldable pub root6_of : (x : ℤ) → ℤ
root6_of x = root2_of (x *ℤ pos 1_000_000)

-- the product of a ratio and its root
unfoldable pub three_halves_of : (ratio root : ℤ) → ℤ
three_halves_of ratio root = quo_of (ratio *ℤ root) (pos 1_000_000)

-- 1 less the ratio to the power of three halves, in millionths
unfoldable pub deficit_of : (ratio : ℤ) → ℤ
deficit_of ratio = pos 1_000_000 -ℤ three_halves_of ratio (root6_of ratio)

-- the root of a number of 10^-9, in 10^-9
unfoldable pub root9_of : (x : ℤ) → ℤ
root9_of x = root2_of (x *ℤ pos 1_000_000_000)

-- the root of the cube of a number of millionths, in 10^-9
unfoldable pub cube_root6_of : (x : ℤ) → ℤ
cube_root6_of x = root2_of (x *ℤ x *ℤ x)

-- the part that still flows: the deficit to the power of three eighths, in 10^-9
unfoldable pub free_part_of : (low high : ℤ) → ℤ
free_part_of low high = root9_of (root9_of (cube_root6_of (deficit_of (head_ratio_of low high))))

-- the flow over a weir, less where it is submerged
unfoldable pub submerged_of : (low high flow : ℤ) → ℤ
submerged_of low high flow =
    if int_lt (pos 0) low then quo_of (flow *ℤ free_part_of low high) (pos 1_000_000_000) else flow
