-- Ranges of numbers, and the ranges of stored values by their names.
use Rattle.std.specs.Prelude.{◌≡◌, ℕ, ◌*◌, ◌%◌, ◌^◌, ◌≤◌, ℤ, pos, neg_ℤ, ◌≤ℤ◌, unsigned_abs}
use Rattle.std.specs.Int.{int_min, int_max}

-- the absolute value of z is at most m
pub record IsWithin (m : ℕ) (z : ℤ) : Type 0 where
  pub within : unsigned_abs z ≤ m

-- x lies in a to b
pub record IsBetween (a x b : ℤ) : Type 0 where
  pub from : a ≤ℤ x
  pub to : x ≤ℤ b

-- v brought into a to b (this project's profile)
unfoldable pub cut_of : (v a b : ℤ) → ℤ
cut_of v a b = int_min (int_max v a) b

-- ---- ranges of what an input gives, as it is stored (this project's profile)
-- the length of a conduit (µm)
abbrev pub IsConduitLength : ℤ → Type 0
IsConduitLength value = IsBetween (pos 10_000) value (pos (10 ^ 11))

-- an elevation or a stage (µm)
abbrev pub IsElevation : ℤ → Type 0
IsElevation value = IsWithin (10 ^ 10) value

-- a depth, an offset or a height above an invert (µm)
abbrev pub IsDepth : ℤ → Type 0
IsDepth value = IsBetween (pos 0) value (pos (10 ^ 9))

-- the full height of a cross-section (µm)
abbrev pub IsFullHeight : ℤ → Type 0
IsFullHeight value = IsBetween (pos 1_000) value (pos (10 ^ 9))

-- a width (µm)
abbrev pub IsWidth : ℤ → Type 0
IsWidth value = IsBetween (pos 0) value (pos (10 ^ 10))

-- the number of barrels of a cross-section
abbrev pub AreBarrels : ℤ → Type 0
AreBarrels value = IsBetween (pos 1) value (pos 100)

-- a depth of rain, of storage in a depression or of infiltrated water (nm)
abbrev pub IsSmallDepth : ℤ → Type 0
IsSmallDepth value = IsBetween (pos 0) value (pos (10 ^ 10))

-- a rate of rain or of infiltration (nm/h)
abbrev pub IsRate : ℤ → Type 0
IsRate value = IsBetween (pos 0) value (pos (10 ^ 10))

-- the area of a subcatchment (mm²)
abbrev pub IsLandArea : ℤ → Type 0
IsLandArea value = IsBetween (pos (10 ^ 6)) value (pos (10 ^ 16))

-- a surface area of a node (mm²)
abbrev pub IsNodeArea : ℤ → Type 0
IsNodeArea value = IsBetween (pos 0) value (pos (10 ^ 13))

-- the least surface area of nodes (mm²)
abbrev pub IsLeastArea : ℤ → Type 0
IsLeastArea value = IsBetween (pos (10 ^ 4)) value (pos (10 ^ 13))

-- the flow of a link, or the lateral inflow of a node (cm³/s)
abbrev pub IsFlow : ℤ → Type 0
IsFlow value = IsWithin (10 ^ 12) value

-- a greatest flow (cm³/s), of which 0 is none
abbrev pub IsFlowLimit : ℤ → Type 0
IsFlowLimit value = IsBetween (pos 0) value (pos (10 ^ 12))

-- Manning's roughness (millionths)
abbrev pub IsRoughness : ℤ → Type 0
IsRoughness value = IsBetween (pos 1_000) value (pos (10 ^ 6))

-- a part of a whole, or the setting of a link (millionths)
abbrev pub IsPart : ℤ → Type 0
IsPart value = IsBetween (pos 0) value (pos (10 ^ 6))

-- a coefficient, a factor, a side slope or a decay (millionths)
abbrev pub IsCoefficient : ℤ → Type 0
IsCoefficient value = IsBetween (pos 0) value (pos (10 ^ 8))

-- a raw value of a series, a curve, a scale or a baseline (millionths of the user's unit)
abbrev pub IsRaw : ℤ → Type 0
IsRaw value = IsWithin (10 ^ 15) value

-- a raw value that is not negative
abbrev pub IsRawAmount : ℤ → Type 0
IsRawAmount value = IsBetween (pos 0) value (pos (10 ^ 15))

-- a time to dry out (ms), at least a thousandth of a day
abbrev pub IsDryingTime : ℤ → Type 0
IsDryingTime value = IsBetween (pos 86_400) value (pos (10 ^ 11))

-- a length of time in hours or seconds (ms)
abbrev pub IsDuration : ℤ → Type 0
IsDuration value = IsBetween (pos 0) value (pos (10 ^ 12))

-- a time of the day (ms)
abbrev pub IsTimeOfDay : ℤ → Type 0
IsTimeOfDay value = IsBetween (pos 0) value (pos 86_399_999)

-- the time of a series' entry from the start of the run (ms)
abbrev pub IsSeriesTime : ℤ → Type 0
IsSeriesTime value = IsWithin (10 ^ 13) value

-- a moment of the years 1900 to 2200 (ms from 1970-01-01 00:00:00)
abbrev pub IsMoment : ℤ → Type 0
IsMoment value = IsBetween (neg_ℤ (pos 2_208_988_800_000)) value (pos 7_289_654_399_999)

-- an even number
abbrev pub IsEven : ℤ → Type 0
IsEven value = unsigned_abs value % 2 ≡ 0

-- ---- ranges of what is computed (this project's profile)
-- a head (µm)
abbrev pub IsHead : ℤ → Type 0
IsHead value = IsWithin (2 * 10 ^ 10) value

-- a difference of two heads (µm)
abbrev pub IsFall : ℤ → Type 0
IsFall value = IsWithin (4 * 10 ^ 10) value

-- the depth of water below a head (µm)
abbrev pub IsWaterDepth : ℤ → Type 0
IsWaterDepth value = IsBetween (pos 0) value (pos (4 * 10 ^ 10))

-- the time of a wave along a link, or the least of them (ms)
abbrev pub IsTravelTime : ℤ → Type 0
IsTravelTime value = IsBetween (pos 0) value (pos 3_600_000)

-- the length of a routing step in a run (ms)
pub record IsStepLength (value : ℤ) : Type 0 where
  pub least : pos 0 ≤ℤ value
  pub most : value ≤ℤ pos 3_600_000
  pub even : IsEven value
