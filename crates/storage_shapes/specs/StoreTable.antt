-- The table of a storage: 201 grid depths, the areas at them and the volumes below them, and what is looked up in it
-- (this project's profile). Depths are µm, areas mm², volumes mm³.
use Rattle.std.specs.Prelude.{◌≡◌, ℕ, ◌+◌, ◌*◌, ◌^◌, ◌≤◌, if◌then◌else◌, List, length, int_lt}
use Rattle.std.specs.Prelude.{ℤ, pos, ◌+ℤ◌, ◌-ℤ◌, ◌*ℤ◌}
use Rattle.fixed_num.specs.Lists.{list_of, number}
use Rattle.fixed_num.specs.Ranges.{IsBetween, IsDepth, IsNodeArea}
use Rattle.fixed_num.specs.Rounding.{quo_of}
use Rattle.fixed_num.specs.Sums.{sum_below}
use Rattle.net_types.specs.Ranges.{IsRising}
use Rattle.net_types.specs.Records.{pair_at}
use Rattle.rising_pairs.specs.Readings.{held_value}
use Rattle.storage_shapes.specs.declared.table.StoreTable.{StoreTable}

-- grid depth i: i of 200 equal parts of the full depth
unfoldable pub grid_depth_of : (full : ℤ) → ℕ → ℤ
grid_depth_of full i = quo_of (pos i *ℤ full) (pos 200)

-- the grid depth of a number with the area there
abbrev pub grid_point_of : (area : ℤ → ℤ) → (full : ℤ) → ℕ → ℤ × ℤ
grid_point_of area full i = (grid_depth_of full i, area (grid_depth_of full i))

-- the middle of two depths
unfoldable pub middle_of : (low high : ℤ) → ℤ
middle_of low high = quo_of (low +ℤ high) (pos 2)

-- the volume of a prism
unfoldable pub prism_of : (area height : ℤ) → ℤ
prism_of area height = quo_of (area *ℤ height) (pos 1_000)

-- the volume of the strip between grid depths i and i + 1: its height by the area in its middle
unfoldable pub strip_volume_of : (area : ℤ → ℤ) → (full : ℤ) → ℕ → ℤ
strip_volume_of area full i =
    prism_of (area (middle_of (grid_depth_of full i) (grid_depth_of full (i + 1))))
    (grid_depth_of full (i + 1) -ℤ grid_depth_of full i)

-- the volume below grid depth i: the sum of the strips below it
unfoldable pub grid_volume_of : (area : ℤ → ℤ) → (full : ℤ) → ℕ → ℤ
grid_volume_of area full i = sum_below (strip_volume_of area full) i

-- the rows of a storage whose area at a depth is `area`
unfoldable pub area_points_of : (area : ℤ → ℤ) → (full : ℤ) → List (ℤ × ℤ)
area_points_of area full = list_of (grid_point_of area full) 201

unfoldable pub volume_row_of : (area : ℤ → ℤ) → (full : ℤ) → List ℤ
volume_row_of area full = list_of (grid_volume_of area full) 201

abbrev pub table_of : (area : ℤ → ℤ) → (full : ℤ) → StoreTable
table_of area full = record { areas = area_points_of area full; volumes = volume_row_of area full }

-- ---- what is looked up
-- the full depth, and the area there
abbrev pub full_depth_of : StoreTable → ℤ
full_depth_of table = (pair_at table.areas 200).0

abbrev pub full_area_of : StoreTable → ℤ
full_area_of table = (pair_at table.areas 200).1

-- the area at a depth: on the line between the two grid depths around it; a depth below 0 counts as 0, and one above
-- the full depth as that
unfoldable pub stored_area_of : StoreTable → (depth : ℤ) → ℤ
stored_area_of table depth = held_value table.areas depth

-- the grid depths with the volumes below them
unfoldable pub volume_points_of : StoreTable → List (ℤ × ℤ)
volume_points_of table = list_of (λ i. ((pair_at table.areas i).0, number table.volumes i)) 201

-- the volume below a depth within the table: on the line between two grid depths
unfoldable pub volume_below_of : StoreTable → (depth : ℤ) → ℤ
volume_below_of table depth = held_value (volume_points_of table) depth

-- the volume between the full depth and a depth above it: a prism of the full area
unfoldable pub volume_above_of : StoreTable → (depth : ℤ) → ℤ
volume_above_of table depth =
    if int_lt (full_depth_of table) depth
    then prism_of (full_area_of table) (depth -ℤ full_depth_of table) else pos 0

-- the volume below a depth
unfoldable pub stored_volume_of : StoreTable → (depth : ℤ) → ℤ
stored_volume_of table depth = volume_below_of table depth +ℤ volume_above_of table depth

-- what holds of every table: its grid depths rise, and all its numbers are in range
pub record IsStoreTable (table : StoreTable) : Type 0 where
  pub as_many_areas : length table.areas ≡ 201
  pub as_many_volumes : length table.volumes ≡ 201
  pub rising : IsRising table.areas
  pub depths : (k : ℕ) → k ≤ 200 → IsDepth (pair_at table.areas k).0
  pub areas : (k : ℕ) → k ≤ 200 → IsNodeArea (pair_at table.areas k).1
  pub volumes : (k : ℕ) → k ≤ 200 → IsBetween (pos 0) (number table.volumes k) (pos (2 * 10 ^ 19))
