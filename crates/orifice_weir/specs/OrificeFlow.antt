-- The flow through an orifice (Reference Manual volume II, chapter 6; the partly filled opening and the
-- rounding are this
-- project's profile). Heads and heights are µm, areas mm², flows cm³/s.
use Rattle.std.specs.Prelude.{◌*◌, ◌^◌, Bool, ◌||◌, if◌then◌else◌, ℤ, pos, ◌-ℤ◌, ◌*ℤ◌, int_le}
use Rattle.std.specs.Int.{int_max, int_min}
use Rattle.std.specs.Ordering.{int_eq}
use Rattle.fixed_num.specs.Ranges.{IsCoefficient, IsFullHeight, IsWithin}
use Rattle.fixed_num.specs.declared.constants.TheConstants.{GRAVITY}
use Rattle.fixed_num.specs.Roots.{root2_of}
use Rattle.fixed_num.specs.Rounding.{quo_of}
use Rattle.orifice_weir.specs.Heads.{directed_of, lower_of, part_of, upper_of}
use Rattle.orifice_weir.specs.declared.orifice.OrificeData.{OrificeData}

-- how high the opening is, by the setting
unfoldable pub opening_of : OrificeData → (setting : ℤ) → ℤ
opening_of orifice setting = part_of orifice.full setting

-- up to which depth the opening is filled: a bottom orifice whole, a side orifice up to the greater head
unfoldable pub orifice_depth_of : OrificeData → (setting near far : ℤ) → ℤ
orifice_depth_of orifice setting near far =
    if orifice.bottom then opening_of orifice setting
    else int_min (upper_of near far orifice.sill) (opening_of orifice setting)

-- half a depth
unfoldable pub half_of : (depth : ℤ) → ℤ
half_of depth = quo_of depth (pos 2)

-- the head that drives the flow: the greater head over the lesser one; in a side orifice over the middle of the filled
-- part, where this is higher
unfoldable pub orifice_head_of : OrificeData → (setting near far : ℤ) → ℤ
orifice_head_of orifice setting near far =
    let low = lower_of near far orifice.sill in
    upper_of near far orifice.sill
    -ℤ (if orifice.bottom then low else int_max low (half_of (orifice_depth_of orifice setting near far)))

-- the area that counts
unfoldable pub contracted_of : (cd6 area : ℤ) → ℤ
contracted_of cd6 area = quo_of (cd6 *ℤ area) (pos 1_000_000)

-- the speed that a head gives
unfoldable pub jet_of : (head : ℤ) → ℤ
jet_of head = root2_of (pos 2 *ℤ GRAVITY *ℤ head)

-- the flow of a speed through an area
unfoldable pub discharge_of : (area speed : ℤ) → ℤ
discharge_of area speed = quo_of (area *ℤ speed) (pos 1_000_000)

-- an orifice that is shut, that no head reaches or that no head drives
unfoldable pub is_still : OrificeData → (setting near far : ℤ) → Bool
is_still orifice setting near far =
    int_le (upper_of near far orifice.sill) (pos 0) || int_eq (opening_of orifice setting) (pos 0)
    || int_le (orifice_head_of orifice setting near far) (pos 0)

-- the flow, where `area` is the area of the opening up to the depth to which it is filled
unfoldable pub orifice_flow_of : OrificeData → (setting near far area : ℤ) → ℤ
orifice_flow_of orifice setting near far area =
    if is_still orifice setting near far then pos 0
    else
    directed_of near far
    (discharge_of (contracted_of orifice.cd6 area) (jet_of (orifice_head_of orifice setting near far)))

-- the numbers of an orifice lie in their ranges
pub record IsOrifice (orifice : OrificeData) : Type 0 where
  pub sill : IsWithin (11 * 10 ^ 9) orifice.sill
  pub full : IsFullHeight orifice.full
  pub coefficient : IsCoefficient orifice.cd6
