-- The momentum equation of a conduit (Reference Manual volume II, chapter 3, in whole numbers by this project's
-- profile). Speeds are µm/s, flows cm³/s, the step's length `dt` is in ms.
use Rattle.std.specs.Prelude.{Bool, ◌&&◌, if◌then◌else◌, ℤ, pos, ◌+ℤ◌, ◌-ℤ◌, ◌*ℤ◌, neg_ℤ, unsigned_abs, int_le}
use Rattle.std.specs.Int.{int_min, int_max}
use Rattle.std.specs.Ordering.{int_eq}
use Rattle.fixed_num.specs.Ranges.{IsEven, IsPart, cut_of}
use Rattle.fixed_num.specs.declared.constants.TheConstants.{GRAVITY}
use Rattle.fixed_num.specs.Roots.{root3_of}
use Rattle.fixed_num.specs.Rounding.{quo_of}
use Rattle.net_types.specs.declared.options.Damping.{Damping}
use Rattle.net_types.specs.declared.options.Damping.TheVariants.{Zero, Partial, Full}
use Rattle.phase_law.specs.declared.values.LinkFixed.{LinkFixed}
use Rattle.conduit_flow.specs.declared.conduit.ConduitData.{ConduitData}
use Rattle.conduit_flow.specs.declared.geometry.Ends.{Ends}
use Rattle.conduit_flow.specs.declared.geometry.Middle.{Middle}

-- the velocity of a flow through an area, at most 15.24 m/s either way
unfoldable pub velocity_of : (flow area : ℤ) → ℤ
velocity_of flow area = cut_of (quo_of (flow *ℤ pos 1_000_000) area) (neg_ℤ (pos 15_240_000)) (pos 15_240_000)

-- the speed of a flow through an area, at most 15.24 m/s
unfoldable pub flow_speed_of : (flow area : ℤ) → ℤ
flow_speed_of flow area = int_min (pos 15_240_000) (quo_of (pos (unsigned_abs flow) *ℤ pos 1_000_000) area)

-- ---- how far inertia counts
-- in millionths, an even number
pub record IsInertia (value : ℤ) : Type 0 where
  pub range : IsPart value
  pub even : IsEven value

-- the Froude number of a flow, in millionths
unfoldable pub froude_of : (velocity wave : ℤ) → ℤ
froude_of velocity wave = quo_of (pos (unsigned_abs velocity) *ℤ pos 1_000_000) (int_max (pos 1) wave)

-- at a Froude number inertia counts wholly up to a half, not at all from 1, and in proportion between them, in
-- millionths
unfoldable pub partial_of : (froude : ℤ) → ℤ
partial_of froude =
    if int_le froude (pos 500_000) then pos 1_000_000
    else if int_le (pos 1_000_000) froude then pos 0
    else pos 2 *ℤ (pos 1_000_000 -ℤ froude)

-- how far inertia counts by the kind of damping: partial damping leaves none of it in a closed section that is full
unfoldable pub inertia_of : Damping → Middle → (velocity : ℤ) → ℤ
inertia_of Zero middle velocity = pos 1_000_000
inertia_of Partial middle velocity = if middle.pressurized then pos 0 else partial_of (froude_of velocity middle.wave)
inertia_of Full middle velocity = pos 0

-- ---- the terms of the equation
-- the flow that the change of the area of flow since the step's start adds
unfoldable pub local_of : (inertia velocity change : ℤ) → ℤ
local_of inertia velocity change = quo_of (pos 2 *ℤ inertia *ℤ velocity *ℤ change) (pos 1_000_000_000_000)

-- the flow that the rise of the area of flow from the first end to the second adds in a step
unfoldable pub convective_of : (inertia velocity rise dt length : ℤ) → ℤ
convective_of inertia velocity rise dt length =
    quo_of ((inertia *ℤ dt) *ℤ (velocity *ℤ velocity *ℤ rise)) (pos 1_000_000_000_000_000 *ℤ length)

-- the flow that the pressure adds in a step: gravity on the fall of the water surface, over the conduit's length
unfoldable pub pressure_of : (area fall dt length : ℤ) → ℤ
pressure_of area fall dt length = quo_of (GRAVITY *ℤ area *ℤ fall *ℤ dt) (pos 1_000_000_000 *ℤ length)

-- the four thirds power of the hydraulic radius
unfoldable pub radius_power_of : (radius : ℤ) → ℤ
radius_power_of radius = radius *ℤ root3_of (radius *ℤ pos 1_000_000_000)

-- the part of the flow that friction takes in a step, by Manning's formula, in 10^-9 of the flow
unfoldable pub friction_of : (n6 velocity dt radius : ℤ) → ℤ
friction_of n6 velocity dt radius =
    quo_of (GRAVITY *ℤ (n6 *ℤ n6) *ℤ pos (unsigned_abs velocity) *ℤ dt) (pos 10_000_000 *ℤ radius_power_of radius)

-- the speed of a flow at an end, and 0 where there is no water
unfoldable pub end_speed_of : (flow area : ℤ) → ℤ
end_speed_of flow area = if int_eq area (pos 0) then pos 0 else flow_speed_of flow area

-- a conduit has no losses
abbrev pub is_lossless : ConduitData → Bool
is_lossless conduit =
    int_eq conduit.entry6 (pos 0) && (int_eq conduit.exit6 (pos 0) && int_eq conduit.avg6 (pos 0))

-- the part of the flow that the losses at the two ends and on the way take in a step, in 10^-9 of the flow
unfoldable pub losses_of : ConduitData → Ends → (velocity last dt : ℤ) → ℤ
losses_of conduit ends velocity last dt =
    let entry = conduit.entry6 *ℤ end_speed_of last ends.area1 in
    let exit = conduit.exit6 *ℤ end_speed_of last ends.area2 in
    let way = conduit.avg6 *ℤ pos (unsigned_abs velocity) in
    quo_of ((entry +ℤ exit +ℤ way) *ℤ dt) (pos 2 *ℤ conduit.length)

-- a driven flow, slowed by friction and losses
unfoldable pub slowed_of : (driven friction losses : ℤ) → ℤ
slowed_of driven friction losses = quo_of (driven *ℤ pos 1_000_000_000) (pos 1_000_000_000 +ℤ friction +ℤ losses)

-- ---- the whole
-- the flow of one barrel at the step's start, with what inertia and pressure add
unfoldable pub driven_of : ConduitData → LinkFixed → Ends → Middle → (velocity old : ℤ) → ℤ
driven_of conduit fixed ends middle velocity old =
    let inertia = inertia_of conduit.damping middle velocity in
    let local = local_of inertia velocity (middle.area -ℤ fixed.a_old) in
    let convective = convective_of inertia velocity (ends.area2 -ℤ ends.area1) fixed.dt conduit.length in
    let pressure = pressure_of middle.area (ends.surface1 -ℤ ends.surface2) fixed.dt conduit.length in
    old +ℤ local +ℤ convective +ℤ pressure

-- the flow of one barrel that the momentum equation gives: from its flow at the step's start and its flow in the last
-- trial
unfoldable pub momentum_flow_of : ConduitData → LinkFixed → Ends → Middle → (old last : ℤ) → ℤ
momentum_flow_of conduit fixed ends middle old last =
    let velocity = velocity_of last middle.area in
    slowed_of (driven_of conduit fixed ends middle velocity old)
    (friction_of conduit.n6 velocity fixed.dt middle.radius)
    (losses_of conduit ends velocity last fixed.dt)
