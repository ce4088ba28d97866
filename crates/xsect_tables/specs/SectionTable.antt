-- The table of a cross-section: 201 grid heights, and what lies below each (this project's profile).
use Rattle.std.specs.Prelude.{◌≡◌, ℕ, ◌+◌, ◌^◌, ◌≤◌, ◌==◌, Bool, if◌then◌else◌, List, map, slice_index_or, ℤ, pos, ◌+ℤ◌}
use Rattle.std.specs.Prelude.{◌-ℤ◌, ◌*ℤ◌, ◌≤ℤ◌}
use Rattle.std.specs.Int.{int_max}
use Rattle.std.specs.List.{range_with_len}
use Rattle.fixed_num.specs.Ranges.{IsBetween, IsFullHeight, AreBarrels}
use Rattle.fixed_num.specs.Roots.{root2_of}
use Rattle.fixed_num.specs.Rounding.{quo_of}
use Rattle.net_types.specs.declared.network.Section.{Section}
use Rattle.xsect_tables.specs.Sections.{width_at, is_closed, top_width}
use Rattle.fixed_num.specs.Sums.{sum_below}

-- four rows of 201 numbers: grid heights (µm), areas below them (mm²), widths at them and wetted perimeters
-- below them (µm); with the number of barrels, and whether the section is closed at the top
pub record SectionTable : Type 0 where
  pub heights : List ℤ
  pub areas : List ℤ
  pub widths : List ℤ
  pub perimeters : List ℤ
  pub barrels : ℤ
  pub closed : Bool

-- the numbers of a row by their places
abbrev pub entry : List ℤ → ℕ → ℤ
entry row i = slice_index_or row i (pos 0)

-- the row with f i at place i
unfoldable pub row_of : (ℕ → ℤ) → List ℤ
row_of f = map f (range_with_len 0 201)

-- grid height i of a section: i of 200 equal parts of the full height
unfoldable pub grid_height : (full : ℤ) → ℕ → ℤ
grid_height full i = quo_of (pos i *ℤ full) (pos 200)

-- the area, in µm², of the strip between grid heights i and i + 1: its height by the width in its middle
unfoldable pub strip_area : Section → ℕ → ℤ
strip_area section i =
    let low = grid_height section.full i in
    let high = grid_height section.full (i + 1) in
    width_at section (quo_of (low +ℤ high) (pos 2)) *ℤ (high -ℤ low)

-- the length of two sides that rise and spread so far together
unfoldable pub sides_of : (rise spread : ℤ) → ℤ
sides_of rise spread = root2_of (pos 4 *ℤ (rise *ℤ rise) +ℤ spread *ℤ spread)

-- the length of the two sides of that strip
unfoldable pub strip_sides : Section → ℕ → ℤ
strip_sides section i =
    let low = grid_height section.full i in
    let high = grid_height section.full (i + 1) in
    sides_of (high -ℤ low) (width_at section high -ℤ width_at section low)

-- the width at grid height i
unfoldable pub grid_width : Section → ℕ → ℤ
grid_width section i = width_at section (grid_height section.full i)

-- the area below grid height i: the sum of the strips below it, in mm²
unfoldable pub grid_area : Section → ℕ → ℤ
grid_area section i = quo_of (sum_below (strip_area section) i) (pos 1_000_000)

-- the wetted perimeter below grid height i: the bottom and the sides of the strips below it
unfoldable pub grid_perimeter : Section → ℕ → ℤ
grid_perimeter section i = grid_width section 0 +ℤ sum_below (strip_sides section) i

-- the wetted perimeter at grid height i: at the full height a flat top is wetted too
unfoldable pub wetted_perimeter : Section → ℕ → ℤ
wetted_perimeter section i =
    if i == 200 then grid_perimeter section 200 +ℤ top_width section.shape else grid_perimeter section i

-- the table of a section
unfoldable pub table_of : Section → SectionTable
table_of section = record {
  heights = row_of (grid_height section.full);
  areas = row_of (grid_area section);
  widths = row_of (grid_width section);
  perimeters = row_of (wetted_perimeter section);
  barrels = section.barrels;
  closed = is_closed section.shape;
}

-- the full height, and the area below it
abbrev pub full_height : SectionTable → ℤ
full_height table = entry table.heights 200

abbrev pub full_area : SectionTable → ℤ
full_area table = entry table.areas 200

-- the heights are the grid of a full height of 1,000 to 10^9 µm
pub record IsGrid (heights : List ℤ) : Type 0 where
  pub full : IsFullHeight (entry heights 200)
  pub each : (i : ℕ) → i ≤ 200 → entry heights i ≡ grid_height (entry heights 200) i

-- the first 201 numbers of a row lie in a to b
pub record RowBetween (a : ℤ) (row : List ℤ) (b : ℤ) : Type 0 where
  pub each : (i : ℕ) → i ≤ 200 → IsBetween a (entry row i) b

-- what holds of every table: no number is negative, none is above 10^18, and an area is at most that of a strip ten
-- metres wide along the wetted perimeter, which counts as at least 1 µm; the barrels are 1 to 100
pub record IsTable (table : SectionTable) : Type 0 where
  pub heights : IsGrid table.heights
  pub areas : RowBetween (pos 0) table.areas (pos (10 ^ 18))
  pub widths : RowBetween (pos 0) table.widths (pos (10 ^ 18))
  pub perimeters : RowBetween (pos 0) table.perimeters (pos (10 ^ 18))
  pub wet : (i : ℕ) → i ≤ 200 → entry table.areas i ≤ℤ (pos 10_000_000 *ℤ int_max (entry table.perimeters i) (pos 1))
  pub barrels : AreBarrels table.barrels
