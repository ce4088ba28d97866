-- The flow over a weir (Reference Manual volume II, chapter 6; the rounding is this project's profile).
-- Heads, heights and
-- widths are µm, flows cm³/s; the coefficient is the metric one, in millionths.
use Rattle.std.specs.Prelude.{◌*◌, ◌^◌, if◌then◌else◌, ℤ, pos, ◌+ℤ◌, ◌-ℤ◌, ◌*ℤ◌, int_le}
use Rattle.std.specs.Int.{int_max, int_min}
use Rattle.fixed_num.specs.Ranges.{IsBetween, IsCoefficient, IsFullHeight, IsWidth, IsWithin}
use Rattle.fixed_num.specs.Rounding.{quo_of}
use Rattle.orifice_weir.specs.Heads.{directed_of, lower_of, part_of, upper_of}
use Rattle.orifice_weir.specs.Submergence.{root6_of, submerged_of}
use Rattle.orifice_weir.specs.declared.weir.WeirData.{WeirData}

-- the crest, raised by what the setting shuts
unfoldable pub crest_of : WeirData → (setting : ℤ) → ℤ
crest_of weir setting = weir.crest +ℤ part_of weir.full (pos 1_000_000 -ℤ setting)

-- each end contraction takes a tenth of the head of a width
unfoldable pub contraction_of : (contractions head : ℤ) → ℤ
contraction_of contractions head = quo_of (contractions *ℤ head) (pos 10)

-- the width of a transverse weir less its contractions
unfoldable pub clear_width_of : (width contractions head : ℤ) → ℤ
clear_width_of width contractions head = int_max (width -ℤ contraction_of contractions head) (pos 0)

-- the flow over a transverse weir of this clear width: by the head to the power of three halves
unfoldable pub transverse_of : (c6 width head root : ℤ) → ℤ
transverse_of c6 width head root = quo_of (c6 *ℤ width *ℤ head *ℤ root) (pos 1_000_000_000_000_000_000)

-- half the top width of a V-notch over its height, in millionths
unfoldable pub side_slope_of : (width full : ℤ) → ℤ
side_slope_of width full = quo_of (width *ℤ pos 1_000_000) (pos 2 *ℤ full)

-- the product of two numbers of millionths
unfoldable pub scaled_of : (a b : ℤ) → ℤ
scaled_of a b = quo_of (a *ℤ b) (pos 1_000_000)

-- the product of a head and its root
unfoldable pub head_power_of : (head root : ℤ) → ℤ
head_power_of head root = quo_of (head *ℤ root) (pos 1_000_000)

-- the flow through a V-notch of this slope: by the head to the power of five halves
unfoldable pub notch_of : (slope head power : ℤ) → ℤ
notch_of slope head power = quo_of (slope *ℤ head *ℤ power) (pos 1_000_000_000_000)

-- the flow of a head over the crest, where nothing stands against it
unfoldable pub free_flow_of : WeirData → (head : ℤ) → ℤ
free_flow_of weir head =
    if weir.notch
    then notch_of (scaled_of weir.c6 (side_slope_of weir.width weir.full)) head (head_power_of head (root6_of head))
    else transverse_of weir.c6 (clear_width_of weir.width weir.contractions head) head (root6_of head)

-- the flow of two heads over the crest, of which none counts above the full height, nor the lower one above
-- the upper one
unfoldable pub crested_flow_of : WeirData → (high low : ℤ) → ℤ
crested_flow_of weir high low =
    let head = int_min high weir.full in
    submerged_of (int_min low head) head (free_flow_of weir head)

-- the flow
unfoldable pub weir_flow_of : WeirData → (setting near far : ℤ) → ℤ
weir_flow_of weir setting near far =
    let crest = crest_of weir setting in
    if int_le (upper_of near far crest) (pos 0) then pos 0
    else directed_of near far (crested_flow_of weir (upper_of near far crest) (lower_of near far crest))

-- the numbers of a weir lie in their ranges
pub record IsWeir (weir : WeirData) : Type 0 where
  pub crest : IsWithin (11 * 10 ^ 9) weir.crest
  pub full : IsFullHeight weir.full
  pub width : IsWidth weir.width
  pub coefficient : IsCoefficient weir.c6
  pub contractions : IsBetween (pos 0) weir.contractions (pos 2)
