-- Celerity, normal flow, and the critical and the normal depth (Reference Manual volume II, chapters 2 and 3).
use Rattle.std.specs.Prelude.{ℕ, Bool, nat_lt, ◌&&◌, if◌then◌else◌, ℤ, pos, ◌*ℤ◌, int_le, int_lt}
use Rattle.std.specs.Int.{int_max}
use Rattle.fixed_num.specs.declared.constants.TheConstants.{GRAVITY}
use Rattle.fixed_num.specs.Roots.{root2_of, root3_of}
use Rattle.fixed_num.specs.Rounding.{quo_of}
use Rattle.xsect_tables.specs.LookUps.{area_of, width_of, radius_of}
use Rattle.xsect_tables.specs.SectionTable.{SectionTable, entry}
use Rattle.xsect_tables.specs.FirstPlaces.{first_that}

-- the celerity of a shallow wave over an area (mm²) of a width (µm), which counts as at least 1 µm: the root of gravity
-- by the mean depth, in µm/s
unfoldable pub celerity_of : (area width : ℤ) → ℤ
celerity_of area width = root2_of (GRAVITY *ℤ quo_of (area *ℤ pos 1_000_000) (int_max width (pos 1)))

-- the root of a slope in millionths; a drop below 305 µm counts as 305 µm
unfoldable pub slope_of : (drop length : ℤ) → ℤ
slope_of drop length = root2_of (quo_of (int_max drop (pos 305) *ℤ pos 1_000_000_000_000) length)

-- the speed of uniform flow by Manning's formula, in µm/s; the two thirds power of the radius is the cube root of its
-- square
unfoldable pub speed_of : (radius slope6 n6 : ℤ) → ℤ
speed_of radius slope6 n6 = quo_of (root3_of (radius *ℤ radius *ℤ pos 1_000_000_000) *ℤ slope6) (pos 10 *ℤ n6)

-- a speed over an area, in cm³/s
unfoldable pub discharge_of : (speed area : ℤ) → ℤ
discharge_of speed area = quo_of (speed *ℤ area) (pos 1_000_000)

-- the uniform flow at a depth, in cm³/s
unfoldable pub uniform_of : SectionTable → (y n6 slope6 : ℤ) → ℤ
uniform_of table y n6 slope6 = discharge_of (speed_of (radius_of table y) slope6 n6) (area_of table y)

-- the normal flow at a depth of a conduit that falls by a drop over a length
unfoldable pub normal_flow_of : SectionTable → (y n6 drop length : ℤ) → ℤ
normal_flow_of table y n6 drop length = uniform_of table y n6 (slope_of drop length)

-- the least grid height that passes a test, and the full height where no lower one does
abbrev pub least_height : SectionTable → (ℕ → Bool) → ℤ
least_height table passes = entry table.heights (first_that passes 200)

-- a flow through the area below grid height i, which is above the bottom, is no faster than a wave there
unfoldable pub is_subcritical : SectionTable → (q : ℤ) → ℕ → Bool
is_subcritical table q i =
    let area = entry table.areas i in
    let speed = quo_of (q *ℤ pos 1_000_000) area in
    nat_lt 0 i && int_lt (pos 0) area && int_le speed (celerity_of area (width_of table (entry table.heights i)))

-- the critical depth of a flow: 0 for no flow, else the least grid height at which it is subcritical, else the full
-- height
unfoldable pub critical_of : SectionTable → ℤ → ℤ
critical_of table q = if int_le q (pos 0) then pos 0 else least_height table (is_subcritical table q)

-- the uniform flow at grid height i is at least q
unfoldable pub is_carried : SectionTable → (q n6 slope6 : ℤ) → ℕ → Bool
is_carried table q n6 slope6 i = int_le q (uniform_of table (entry table.heights i) n6 slope6)

-- the normal depth of a flow: 0 for no flow, else the least grid height at which uniform flow carries it, else the
-- full height
unfoldable pub normal_of : SectionTable → (q n6 drop length : ℤ) → ℤ
normal_of table q n6 drop length =
    if int_le q (pos 0) then pos 0 else least_height table (is_carried table q n6 (slope_of drop length))
