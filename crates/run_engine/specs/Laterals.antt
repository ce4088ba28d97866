-- What comes to the nodes from outside at a moment of a run (User's Manual, sections [INFLOWS], [DWF] and
-- [SUBCATCHMENTS]; this project's profile).
use Rattle.std.specs.Prelude.{◌≡◌, ℕ, ◌^◌, ◌<◌, List, length, map, Option, None, Some}
use Rattle.std.specs.Prelude.{ℤ, pos, neg_ℤ, ◌+ℤ◌, ◌*ℤ◌}
use Rattle.fixed_num.specs.Lists.{list_of}
use Rattle.fixed_num.specs.Ranges.{cut_of}
use Rattle.hotstart.specs.declared.state.HotState.{HotState}
use Rattle.hotstart.specs.declared.state.HotSub.{HotSub}
use Rattle.net_types.specs.declared.project.Project.{Project}
use Rattle.runoff.specs.declared.states.SubState.{SubState}
use Rattle.runoff_states.specs.RunoffStates.{AreStates, AreStatesUpTo, moment_of, opening_state, runoff_step}
use Rattle.runoff_states.specs.RunoffStates.{start_state, step_at}
use Rattle.runoff_states.specs.RunoffTimes.{runoff_at, steps_done}
use Rattle.time_series.specs.LateralFlow.{lateral_at}
use Rattle.run_engine.specs.declared.start.Start.{Start}
use Rattle.run_engine.specs.declared.subs.SubRunoff.{SubRunoff}

-- ---- subcatchments
-- the state of a subcatchment in a hotstart
abbrev pub state_in : HotSub → SubState
state_in sub = record { depths = sub.depths; infil = sub.infil; flow = sub.flow }

-- the states with which a run begins: nothing stands on the subcatchments, or they are as in the hotstart
abbrev pub runoff_from : Project → Option HotState → ℕ → SubState
runoff_from project None = start_state project
runoff_from project (Some hot) = opening_state project (map state_in hot.subs)

abbrev pub runoff_start : Start → ℕ → SubState
runoff_start start = runoff_from start.project start.hot

-- the runoff of a run is that after so many steps: the next one begins when they are done, and the states are those of
-- the run. They were up to 10^15 in the beginning and have grown by at most 2,778 a millisecond.
pub record IsRunoffAfter (start : Start) (steps : ℕ) (runoff : SubRunoff) : Type 0 where
  pub begins : runoff.begin ≡ moment_of start.project steps
  pub states : AreStates start.project (runoff_start start) steps runoff.states
  pub range : AreStatesUpTo (pos (10 ^ 15) +ℤ pos 2_778 *ℤ runoff.begin) start.project runoff.states
  pub places : length runoff.steps ≡ length start.project.subs

-- what is told of each subcatchment is what the rain of the step after so many became on it
abbrev pub TellsStep : Start → (steps : ℕ) → SubRunoff → Type 0
TellsStep start steps runoff =
    (k : ℕ) → k < length start.project.subs
    → step_at runoff.steps k ≡ runoff_step start.project (runoff_start start) steps k

-- the runoff is that of all steps that are done at a moment
abbrev pub IsRunoffAt : Start → (moment : ℤ) → SubRunoff → Type 0
IsRunoffAt start moment = IsRunoffAfter start (steps_done start.project.options.wet_ms moment)

-- ---- nodes
-- the lateral inflow of a node, in cm³/s: what its own inflows add, and what runs off to it of subcatchments by the
-- last step of runoff that is done, brought into 10^12 to either side
unfoldable pub node_lateral : Start → (node : ℕ) (moment : ℤ) → ℤ
node_lateral start node moment =
    cut_of (lateral_at start.project node moment +ℤ runoff_at start.project (runoff_start start) moment node)
    (neg_ℤ (pos (10 ^ 12))) (pos (10 ^ 12))

-- those of all nodes
abbrev pub laterals_at : Start → (moment : ℤ) → List ℤ
laterals_at start moment = list_of (λ n. node_lateral start n moment) (length start.project.nodes)
