-- The states that a hotstart keeps (this project's profile).
use Rattle.std.specs.Prelude.{◌≡◌, ◌^◌, ◌≤◌, ⊤, List, [], ◌∷◌, ◌++◌, length, ℤ, pos, ◌≤ℤ◌}
use Rattle.std.specs.List.{All}
use Rattle.fixed_num.specs.Ranges.{IsBetween, IsFlow, IsHead, IsPart, IsTravelTime}
use Rattle.fixed_num.specs.declared.constants.TheConstants.{RECORD_LIMIT}
use Rattle.infiltration.specs.declared.states.InfilState.{InfilState}
use Rattle.infiltration.specs.declared.states.InfilState.TheVariants.{Horton, Number}
use Rattle.net_types.specs.declared.options.InfilKind.{InfilKind}
use Rattle.net_types.specs.declared.options.InfilKind.TheVariants.{ModifiedHorton, CurveNumber}
use Rattle.hotstart.specs.declared.state.HotState.{HotState}
use Rattle.hotstart.specs.declared.state.HotSub.{HotSub}

-- a state of infiltration is of this kind
abbrev pub IsStateOf : InfilKind → InfilState → Type 0
IsStateOf ModifiedHorton (Horton state) = ⊤
IsStateOf ModifiedHorton (Number state) = ⊥
IsStateOf CurveNumber (Horton state) = ⊥
IsStateOf CurveNumber (Number state) = ⊤

-- the numbers of a state of infiltration (nm, and ms for the time since the last rain), in their order
abbrev pub infil_numbers : InfilState → List ℤ
infil_numbers (Horton state) = state.above ∷ []
infil_numbers (Number state) = state.room ∷ state.event_room ∷ state.rain ∷ state.taken ∷ state.dry ∷ []

-- the depths and the numbers of infiltration of a subcatchment
abbrev pub depth_numbers : HotSub → List ℤ
depth_numbers sub = sub.depths ++ infil_numbers sub.infil

-- the flow of a subcatchment (cm³/s)
abbrev pub IsRunoff : ℤ → Type 0
IsRunoff value = IsBetween (pos 0) value (pos (10 ^ 12))

-- a subcatchment: none of its depths and numbers is negative
pub record IsHotSub (kind : InfilKind) (sub : HotSub) : Type 0 where
  pub depths : All (λ value. pos 0 ≤ℤ value) (depth_numbers sub)
  pub flow : IsRunoff sub.flow
  pub kind_is : IsStateOf kind sub.infil

-- a state that can be written: as many settings as flows, counts within the limits, heads, flows, settings and
-- the least travel time in their ranges, and each infiltration of the state's kind, which is modified Horton
-- where there is no subcatchment
pub record IsHotState (state : HotState) : Type 0 where
  pub few_nodes : length state.heads ≤ RECORD_LIMIT
  pub few_links : length state.flows ≤ RECORD_LIMIT
  pub as_many : length state.settings ≡ length state.flows
  pub few_subs : length state.subs ≤ RECORD_LIMIT
  pub heads : All IsHead state.heads
  pub flows : All IsFlow state.flows
  pub settings : All IsPart state.settings
  pub least : IsTravelTime state.least
  pub subs : All (IsHotSub state.kind) state.subs
  pub no_subs : length state.subs ≡ 0 → state.kind ≡ ModifiedHorton

-- a subcatchment as a file keeps it: it has three depths, and none of them and no number of infiltration is above 10^15
pub record IsKeptSub (sub : HotSub) : Type 0 where
  pub three : length sub.depths ≡ 3
  pub most : All (λ value. value ≤ℤ pos (10 ^ 15)) (depth_numbers sub)

-- a state as a file keeps it
pub record IsKept (state : HotState) : Type 0 where
  pub written : IsHotState state
  pub subs : All IsKeptSub state.subs
