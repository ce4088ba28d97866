-- Look-ups in the table of a section (this project's profile).
use Rattle.std.specs.Prelude.{◌≡◌, ℕ, ◌+◌, ◌<◌, ◌&&◌, if◌then◌else◌, Bool, List, ℤ, pos, ◌+ℤ◌, ◌-ℤ◌, ◌*ℤ◌, ◌≤ℤ◌, ◌<ℤ◌}
use Rattle.std.specs.Prelude.{int_le, int_lt}
use Rattle.std.specs.Int.{int_min, int_max}
use Rattle.fixed_num.specs.Interpolation.{lerp_of}
use Rattle.fixed_num.specs.Ranges.{cut_of}
use Rattle.fixed_num.specs.Rounding.{quo_of}
use Rattle.fixed_num.specs.Roots.{greatest}
use Rattle.xsect_tables.specs.SectionTable.{SectionTable, IsTable, entry, full_height, full_area}
use Rattle.xsect_tables.specs.declared.flow.FlowSection.{FlowSection}
use Rattle.xsect_tables.specs.declared.flow.EndSection.{EndSection}
use Rattle.xsect_tables.specs.declared.look_up.Place.{Place}

-- the strip in which a depth lies: its lower grid height is the last one that is not above the depth, and the
-- full height lies in the last strip
unfoldable pub strip_at : (heights : List ℤ) → ℤ → ℕ
strip_at heights y = greatest (λ i. int_le (entry heights i) y) 199

-- strip i is one of the 200, and y lies between its two grid heights, which differ
pub record IsStrip (heights : List ℤ) (y : ℤ) (i : ℕ) : Type 0 where
  pub within : i < 200
  pub from : entry heights i ≤ℤ y
  pub to : y ≤ℤ entry heights (i + 1)
  pub apart : entry heights i <ℤ entry heights (i + 1)

-- a row at a depth that lies in strip i: on the straight line between the two grid heights of the strip
unfoldable pub value_at : (heights row : List ℤ) → (depth : ℤ) → (i : ℕ) → ℤ
value_at heights row depth i = lerp_of (entry heights i) (entry row i) (entry heights (i + 1)) (entry row (i + 1)) depth

-- a row at a depth: a depth below 0 counts as 0, and above the full height the row keeps its last value
unfoldable pub row_at : (heights row : List ℤ) → ℤ → ℤ
row_at heights row y =
    let depth = cut_of y (pos 0) (entry heights 200) in
    value_at heights row depth (strip_at heights depth)

-- the strip of a place lies around its depth, which is so far above the strip's lower grid height; and the strip is so
-- high
pub record IsAround (heights : List ℤ) (place : Place) : Type 0 where
  pub strip : IsStrip heights place.depth place.strip
  pub part : pos place.part ≡ place.depth -ℤ entry heights place.strip
  pub run : pos place.run ≡ entry heights (place.strip + 1) -ℤ entry heights place.strip

-- where a depth lies: the depth brought into 0 to the full height, and the strip around it
pub record IsPlace (heights : List ℤ) (y : ℤ) (place : Place) : Type 0 where
  pub depth : place.depth ≡ cut_of y (pos 0) (entry heights 200)
  pub strip : place.strip ≡ strip_at heights place.depth
  pub around : IsAround heights place

-- ---- the slot above the top of a closed section, in which water under pressure rises
-- its width: a hundredth of the full height
unfoldable pub slot_width : SectionTable → ℤ
slot_width table = quo_of (full_height table) (pos 100)

-- what is kept of a table: its rows, and the width of its slot
pub record IsStored (table : SectionTable) (width : ℤ) : Type 0 where
  pub rows : IsTable table
  pub slot : width ≡ slot_width table

-- a depth reaches into the slot
abbrev pub is_in_slot : SectionTable → ℤ → Bool
is_in_slot table y = table.closed && int_lt (full_height table) y

-- the area of the slot below a depth that reaches into it, in mm²
unfoldable pub slot_area : SectionTable → ℤ → ℤ
slot_area table y = quo_of (slot_width table *ℤ (y -ℤ full_height table)) (pos 1_000_000)

-- ---- the look-ups of a table at a depth y
-- the area below a depth, in mm²
unfoldable pub area_of : SectionTable → ℤ → ℤ
area_of table y =
    if is_in_slot table y then full_area table +ℤ slot_area table y else row_at table.heights table.areas y

-- the width that a closed section has below its top: at least that of the slot
abbrev pub least_width : SectionTable → ℤ → ℤ
least_width table width = if table.closed then int_max (slot_width table) width else width

-- the width at a depth, in µm
unfoldable pub width_of : SectionTable → ℤ → ℤ
width_of table y =
    if is_in_slot table y then slot_width table else least_width table (row_at table.heights table.widths y)

-- the wetted perimeter below a depth, in µm
unfoldable pub perimeter_of : SectionTable → ℤ → ℤ
perimeter_of table y = row_at table.heights table.perimeters y

-- an area over a wetted perimeter, which counts as at least 1 µm, in µm
unfoldable pub ratio_of : (area perimeter : ℤ) → ℤ
ratio_of area perimeter = quo_of (area *ℤ pos 1_000_000) (int_max perimeter (pos 1))

-- the hydraulic radius at a depth, for which no more than the full area counts, in µm
unfoldable pub radius_of : SectionTable → ℤ → ℤ
radius_of table y = ratio_of (int_min (area_of table y) (full_area table)) (perimeter_of table y)

-- ---- several look-ups of one depth
-- the area and the width
unfoldable pub end_section_of : SectionTable → ℤ → EndSection
end_section_of table y = record { area = area_of table y; width = width_of table y }

-- the area, the width and the hydraulic radius
unfoldable pub flow_section_of : SectionTable → ℤ → FlowSection
flow_section_of table y = record { area = area_of table y; width = width_of table y; radius = radius_of table y }
