-- The states of runoff of a project's subcatchments over the steps of a run (this project's profile).
use Rattle.std.specs.Prelude.{◌≡◌, ℕ, zero, suc, ◌<◌, List, [], length, slice_index_or, None}
use Rattle.std.specs.Prelude.{ℤ, pos, ◌*ℤ◌, ◌^◌}
use Rattle.std.specs.List.{All}
use Rattle.infiltration.specs.Horton.{horton_start}
use Rattle.infiltration.specs.Infiltration.{IsInfil}
use Rattle.infiltration.specs.declared.states.InfilState.TheVariants.{Horton as HortonAt}
use Rattle.net_types.specs.declared.hydrology.Sub.{Sub}
use Rattle.net_types.specs.declared.project.Project.{Project}
use Rattle.rain_gages.specs.Intensity.{intensity_of}
use Rattle.runoff.specs.RunoffStep.{IsKeptState, IsSubStateUpTo, opening_of_sub, start_of_sub}
use Rattle.runoff.specs.RunoffStep.{sub_state_after, sub_step_of}
use Rattle.runoff.specs.Subareas.{infil_or}
use Rattle.runoff.specs.declared.states.SubState.{SubState}
use Rattle.runoff.specs.declared.states.SubStep.{SubStep}

-- ---- the subcatchment, the state or the step of a number; a number past the end has that of nothing
abbrev pub sub_at : List Sub → ℕ → Sub
sub_at subs k =
    slice_index_or subs k (record {
      name = [];
      gage = 0;
      outlet = 0;
      area = pos 0;
      imperv6 = pos 0;
      width = pos 0;
      slope6 = pos 0;
      sub_areas = None;
      infil = None;
    })

abbrev pub state_at : List SubState → ℕ → SubState
state_at states k = slice_index_or states k (record { depths = []; infil = HortonAt horton_start; flow = pos 0 })

abbrev pub step_at : List SubStep → ℕ → SubStep
step_at steps k = slice_index_or steps k (record { rain = pos 0; infil = pos 0; runoff = pos 0; stored = pos 0 })

-- ---- a step that begins at a moment (ms since the start of the run)
-- the rate of the rain on subcatchment k (nm/h): the intensity of its own gage at that moment
abbrev pub rate_on : Project → (moment : ℤ) → ℕ → ℤ
rate_on project moment k = intensity_of project (sub_at project.subs k).gage moment

-- what the rain of the step becomes on subcatchment k of this state, and its state after the step
abbrev pub step_on : Project → (moment : ℤ) → SubState → ℕ → SubStep
step_on project moment state k =
    sub_step_of (sub_at project.subs k) state (rate_on project moment k) project.options.wet_ms

abbrev pub after_on : Project → (moment : ℤ) → SubState → ℕ → SubState
after_on project moment state k =
    sub_state_after (sub_at project.subs k) state (rate_on project moment k) project.options.wet_ms

-- ---- the states of a run
-- the moment at which so many steps of runoff are done, and the next one begins
abbrev pub moment_of : Project → (steps : ℕ) → ℤ
moment_of project steps = pos steps *ℤ project.options.wet_ms

-- the state of subcatchment k after so many steps of a run that begins with these states
abbrev pub runoff_state : Project → (start : ℕ → SubState) → (steps : ℕ) → ℕ → SubState
runoff_state project start zero k = start k
runoff_state project start (suc j) k = after_on project (moment_of project j) (runoff_state project start j k) k

-- what the rain of the step after so many became on subcatchment k
abbrev pub runoff_step : Project → (start : ℕ → SubState) → (steps : ℕ) → ℕ → SubStep
runoff_step project start j k = step_on project (moment_of project j) (runoff_state project start j k) k

-- a run without a hotstart begins with nothing on the subcatchments; one with a hotstart with these states, brought
-- into the ranges of each subcatchment's infiltration
abbrev pub start_state : Project → ℕ → SubState
start_state project k = start_of_sub (sub_at project.subs k)

abbrev pub opening_state : Project → (kept : List SubState) → ℕ → SubState
opening_state project kept k = opening_of_sub (sub_at project.subs k) (state_at kept k)

-- states are those of such a run after so many steps, one for each subcatchment
pub record AreStates (project : Project) (start : ℕ → SubState) (steps : ℕ) (states : List SubState)
    : Type 0 where
  pub each_sub : length states ≡ length project.subs
  pub is : (k : ℕ) → k < length project.subs → state_at states k ≡ runoff_state project start steps k

-- ---- ranges
-- each infiltration of a project is one by which its subcatchments can be stepped
abbrev pub HasInfiltrations : Project → Type 0
HasInfiltrations project = All (λ (sub : Sub). IsInfil (infil_or sub.infil)) project.subs

-- a state for each subcatchment, whose depths and numbers of infiltration are up to `most`
pub record AreStatesUpTo (most : ℤ) (project : Project) (states : List SubState) : Type 0 where
  pub each_sub : length states ≡ length project.subs
  pub range : (k : ℕ) → k < length project.subs → IsSubStateUpTo most (sub_at project.subs k) (state_at states k)

-- states with which a step may begin
abbrev pub AreSubStates : Project → List SubState → Type 0
AreSubStates = AreStatesUpTo (pos (10 ^ 16))

-- a state of a hotstart for each subcatchment
pub record AreKeptStates (most : ℤ) (project : Project) (kept : List SubState) : Type 0 where
  pub each_sub : length kept ≡ length project.subs
  pub range : (k : ℕ) → k < length project.subs → IsKeptState most (sub_at project.subs k) (state_at kept k)
