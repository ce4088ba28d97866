-- The water that stands in a conduit: depths at its ends, its section in the middle, its volume and its surface
-- (Reference Manual volume II, chapter 3).
use Rattle.std.specs.Prelude.{◌*◌, ◌^◌, Bool, ◌&&◌, ℤ, pos, ◌+ℤ◌, ◌-ℤ◌, ◌*ℤ◌, int_le}
use Rattle.std.specs.Int.{int_min, int_max}
use Rattle.fixed_num.specs.Ranges.{IsBetween, IsHead, IsWaterDepth}
use Rattle.fixed_num.specs.Rounding.{quo_of}
use Rattle.xsect_tables.specs.LookUps.{area_of, width_of, radius_of}
use Rattle.xsect_tables.specs.NormalFlow.{celerity_of}
use Rattle.xsect_tables.specs.SectionTable.{SectionTable, full_height}
use Rattle.conduit_flow.specs.declared.conduit.ConduitData.{ConduitData}
use Rattle.conduit_flow.specs.declared.geometry.Ends.{Ends}
use Rattle.conduit_flow.specs.declared.geometry.Middle.{Middle}

-- the water surface at an end: the head of its node, but no lower than the end itself, in µm
unfoldable pub surface_of : (head invert : ℤ) → ℤ
surface_of head invert = int_max head invert

-- the depth of water at an end, in µm
unfoldable pub depth_of : (head invert : ℤ) → ℤ
depth_of head invert = surface_of head invert -ℤ invert

-- the mean of the two depths
unfoldable pub mean_depth_of : ConduitData → (near far : ℤ) → ℤ
mean_depth_of conduit near far = quo_of (depth_of near conduit.z1 +ℤ depth_of far conduit.z2) (pos 2)

-- the area of flow in the middle: the area below the mean depth, in mm²
unfoldable pub mid_area_of : ConduitData → SectionTable → (near far : ℤ) → ℤ
mid_area_of conduit table near far = area_of table (mean_depth_of conduit near far)

-- the volume of an area of flow along a length in a number of barrels, in mm³
unfoldable pub prism_of : (area length barrels : ℤ) → ℤ
prism_of area length barrels = barrels *ℤ quo_of (area *ℤ length) (pos 1_000)

-- the volume of water in a conduit
unfoldable pub volume_of : ConduitData → SectionTable → (near far : ℤ) → ℤ
volume_of conduit table near far = prism_of (mid_area_of conduit table near far) conduit.length table.barrels

-- the water surfaces at the two ends, and the depths, the areas and the widths there
unfoldable pub ends_of : ConduitData → SectionTable → (near far : ℤ) → Ends
ends_of conduit table near far = record {
  surface1 = surface_of near conduit.z1;
  surface2 = surface_of far conduit.z2;
  depth1 = depth_of near conduit.z1;
  depth2 = depth_of far conduit.z2;
  area1 = area_of table (depth_of near conduit.z1);
  area2 = area_of table (depth_of far conduit.z2);
  width1 = width_of table (depth_of near conduit.z1);
  width2 = width_of table (depth_of far conduit.z2);
}

-- a closed section is full to its top
unfoldable pub is_pressurized : SectionTable → (depth : ℤ) → Bool
is_pressurized table depth = table.closed && int_le (full_height table) depth

-- the section at the mean depth, the celerity of a wave there, and whether it is a closed one that is full
unfoldable pub middle_of : SectionTable → (depth : ℤ) → Middle
middle_of table depth = record {
  area = area_of table depth;
  width = width_of table depth;
  radius = radius_of table depth;
  wave = celerity_of (area_of table depth) (width_of table depth);
  pressurized = is_pressurized table depth;
}

-- the water surface that a conduit adds to the node at one end: from the end to the middle, over all barrels, at most
-- 5·10^12 mm²
unfoldable pub end_area_of : (width middle_width length barrels : ℤ) → ℤ
end_area_of width middle_width length barrels =
    int_min (pos 5_000_000_000_000) (barrels *ℤ quo_of ((width +ℤ middle_width) *ℤ length) (pos 4_000_000))

-- ---- their ranges
-- the area of flow in a conduit: of its barrel, which is at most 10^11 mm², and of the slot above it
abbrev pub IsFlowArea : ℤ → Type 0
IsFlowArea value = IsBetween (pos 0) value (pos (5 * 10 ^ 11))

abbrev pub IsTableWidth : ℤ → Type 0
IsTableWidth value = IsBetween (pos 0) value (pos (10 ^ 18))

pub record EndsInRange (ends : Ends) : Type 0 where
  pub surface1 : IsHead ends.surface1
  pub surface2 : IsHead ends.surface2
  pub depth1 : IsWaterDepth ends.depth1
  pub depth2 : IsWaterDepth ends.depth2
  pub area1 : IsFlowArea ends.area1
  pub area2 : IsFlowArea ends.area2
  pub width1 : IsTableWidth ends.width1
  pub width2 : IsTableWidth ends.width2

pub record MiddleInRange (middle : Middle) : Type 0 where
  pub area : IsFlowArea middle.area
  pub width : IsTableWidth middle.width
  pub radius : IsBetween (pos 0) middle.radius (pos (3 * 10 ^ 13))
  pub wave : IsBetween (pos 0) middle.wave (pos (10 ^ 16))

-- there is water to flow: neither the area nor the hydraulic radius is 0
pub record IsWet (middle : Middle) : Type 0 where
  pub area : IsBetween (pos 1) middle.area (pos (5 * 10 ^ 11))
  pub width : IsTableWidth middle.width
  pub radius : IsBetween (pos 1) middle.radius (pos (3 * 10 ^ 13))
  pub wave : IsBetween (pos 0) middle.wave (pos (10 ^ 16))
