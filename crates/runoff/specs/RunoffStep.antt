-- A step of runoff of a subcatchment: what the rain becomes, and the state after it (Reference Manual volume I,
-- chapter 3; the accounts are this project's profile). Depths are nm, volumes mm³, flows cm³/s and times ms.
use Rattle.std.specs.Prelude.{◌≡◌, ℕ, ◌*◌, ◌^◌, List, [], ◌∷◌, length, ℤ, pos, ◌+ℤ◌, ◌-ℤ◌, ◌*ℤ◌}
use Rattle.fixed_num.specs.Lists.{number}
use Rattle.fixed_num.specs.Ranges.{IsBetween, IsWithin, cut_of}
use Rattle.fixed_num.specs.Rounding.{quo_of}
use Rattle.net_types.specs.declared.hydrology.Sub.{Sub}
use Rattle.infiltration.specs.Depths.{depth_of}
use Rattle.infiltration.specs.Infiltration.{HasNumbersUpTo, IsOfMethod, IsStateUpTo, opening_of, start_of, state_after}
use Rattle.infiltration.specs.Infiltration.{taken_of}
use Rattle.infiltration.specs.declared.states.InfilState.{InfilState}
use Rattle.runoff.specs.Overland.{left_of, runoff_of}
use Rattle.runoff.specs.Subareas.{bare_of, infil_or, paved_of, pervious_of, plane_of}
use Rattle.runoff.specs.declared.overland.Plane.{Plane}
use Rattle.runoff.specs.declared.states.SubState.{SubState}
use Rattle.runoff.specs.declared.states.SubStep.{SubStep}
use Rattle.runoff.specs.declared.subarea_step.SubareaStep.{SubareaStep}
use Rattle.runoff.specs.declared.subareas.Subarea.{Subarea}

-- ---- a subarea
-- the volume of a depth on an area
unfoldable pub volume_of : (area depth : ℤ) → ℤ
volume_of area depth = quo_of (area *ℤ depth) (pos 1_000_000)

-- a subarea on which this rain falls, and whose soil takes so much of it: its depth after the step, and what became of
-- the rain
unfoldable pub subarea_step_of : Plane → Subarea → (rain depth taken ms : ℤ) → SubareaStep
subarea_step_of plane subarea rain depth taken ms =
    let filled = depth +ℤ rain -ℤ taken in
    record {
      depth = left_of plane subarea.cover ms filled;
      volumes = record {
        rain = volume_of subarea.area rain;
        infil = volume_of subarea.area taken;
        runoff = volume_of subarea.area (runoff_of plane subarea.cover ms filled);
        stored = volume_of subarea.area (left_of plane subarea.cover ms filled) -ℤ volume_of subarea.area depth;
      };
    }

-- the volumes of two subareas
abbrev pub sum_of : SubStep → SubStep → SubStep
sum_of a b = record {
  rain = a.rain +ℤ b.rain;
  infil = a.infil +ℤ b.infil;
  runoff = a.runoff +ℤ b.runoff;
  stored = a.stored +ℤ b.stored;
}

-- ---- a subcatchment: rain of this rate falls on it; only the soil of the pervious subarea takes water, and
-- it may take
-- what stands there and what falls
unfoldable pub soaked_of : Sub → SubState → (rate ms : ℤ) → ℤ
soaked_of sub state rate ms =
    taken_of (infil_or sub.infil) state.infil (depth_of rate ms) (number state.depths 0 +ℤ depth_of rate ms) ms

unfoldable pub pervious_step_of : Sub → SubState → (rate ms : ℤ) → SubareaStep
pervious_step_of sub state rate ms =
    subarea_step_of (plane_of sub) (pervious_of sub) (depth_of rate ms) (number state.depths 0)
    (soaked_of sub state rate ms) ms

unfoldable pub bare_step_of : Sub → SubState → (rate ms : ℤ) → SubareaStep
bare_step_of sub state rate ms =
    subarea_step_of (plane_of sub) (bare_of sub) (depth_of rate ms) (number state.depths 1) (pos 0) ms

unfoldable pub paved_step_of : Sub → SubState → (rate ms : ℤ) → SubareaStep
paved_step_of sub state rate ms =
    subarea_step_of (plane_of sub) (paved_of sub) (depth_of rate ms) (number state.depths 2) (pos 0) ms

-- what became of the rain
unfoldable pub sub_step_of : Sub → SubState → (rate ms : ℤ) → SubStep
sub_step_of sub state rate ms =
    sum_of (sum_of (pervious_step_of sub state rate ms).volumes (bare_step_of sub state rate ms).volumes)
    (paved_step_of sub state rate ms).volumes

-- the flow of a volume that runs off in a step, brought into 0 to 10^12
unfoldable pub flow_of : (volume ms : ℤ) → ℤ
flow_of volume ms = cut_of (quo_of volume ms) (pos 0) (pos 1_000_000_000_000)

-- the state after the step
unfoldable pub sub_state_after : Sub → SubState → (rate ms : ℤ) → SubState
sub_state_after sub state rate ms = record {
  depths =
      (pervious_step_of sub state rate ms).depth ∷ (bare_step_of sub state rate ms).depth
      ∷ (paved_step_of sub state rate ms).depth ∷ [];
  infil =
      state_after (infil_or sub.infil) state.infil (depth_of rate ms) (number state.depths 0 +ℤ depth_of rate ms) ms;
  flow = flow_of (sub_step_of sub state rate ms).runoff ms;
}

-- ---- the states with which a run begins
-- without a hotstart nothing stands on the subareas, and nothing flows
unfoldable pub start_of_sub : Sub → SubState
start_of_sub sub = record { depths = pos 0 ∷ pos 0 ∷ pos 0 ∷ []; infil = start_of (infil_or sub.infil); flow = pos 0 }

-- from a hotstart: its depths and its flow, and its state of infiltration brought into the ranges of the infiltration
unfoldable pub opening_of_sub : Sub → SubState → SubState
opening_of_sub sub state = record state { infil = opening_of (infil_or sub.infil) state.infil }

-- ---- ranges
-- a flow of runoff (cm³/s)
abbrev pub IsRunoffFlow : ℤ → Type 0
IsRunoffFlow flow = IsBetween (pos 0) flow (pos 1_000_000_000_000)

-- three depths of up to `most`
pub record AreDepths (most : ℤ) (depths : List ℤ) : Type 0 where
  pub three : length depths ≡ 3
  pub pervious : IsBetween (pos 0) (number depths 0) most
  pub bare : IsBetween (pos 0) (number depths 1) most
  pub paved : IsBetween (pos 0) (number depths 2) most

-- the depths of a state and the numbers of its infiltration are up to `most`
pub record IsSubStateUpTo (most : ℤ) (sub : Sub) (state : SubState) : Type 0 where
  pub depths : AreDepths most state.depths
  pub infil : IsStateUpTo most (infil_or sub.infil) state.infil
  pub flow : IsRunoffFlow state.flow

-- a state that a step may begin with
abbrev pub IsSubState : Sub → SubState → Type 0
IsSubState = IsSubStateUpTo (pos (10 ^ 16))

-- a state of a hotstart: its infiltration is of the subcatchment's method
pub record IsKeptState (most : ℤ) (sub : Sub) (state : SubState) : Type 0 where
  pub depths : AreDepths most state.depths
  pub method : IsOfMethod (infil_or sub.infil) state.infil
  pub infil : HasNumbersUpTo most state.infil
  pub flow : IsRunoffFlow state.flow

-- the volumes of a subarea are within 2·10^27, and those of two subareas within 4·10^27
pub record HasVolumesWithin (most : ℕ) (step : SubStep) : Type 0 where
  pub rain : IsWithin most step.rain
  pub infil : IsWithin most step.infil
  pub runoff : IsWithin most step.runoff
  pub stored : IsWithin most step.stored

abbrev pub PartInRange : SubStep → Type 0
PartInRange = HasVolumesWithin (2 * 10 ^ 27)

abbrev pub SumInRange : SubStep → Type 0
SumInRange = HasVolumesWithin (4 * 10 ^ 27)

-- the volumes of a step are within 10^28
abbrev pub StepInRange : SubStep → Type 0
StepInRange = HasVolumesWithin (10 ^ 28)

-- whatever bounds the depths and numbers of a state, over a step they grow by at most 2,778 a millisecond
abbrev pub SubGrowsSlowly : Sub → (ms : ℤ) → (before after : SubState) → Type 0
SubGrowsSlowly sub ms before after =
    (most : ℤ) → IsSubStateUpTo most sub before → IsSubStateUpTo (most +ℤ pos 2_778 *ℤ ms) sub after
