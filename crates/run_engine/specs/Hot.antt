-- The hotstart with which a run begins, and the one that it gives (this project's profile).
use Rattle.std.specs.Prelude.{◌≡◌, ℕ, length, map}
use Rattle.fixed_num.specs.Lists.{list_of}
use Rattle.hotstart.specs.HotRanges.{IsKept}
use Rattle.hotstart.specs.Reading.{kind_of}
use Rattle.hotstart.specs.WrittenBack.{IsStateFor}
use Rattle.hotstart.specs.declared.state.HotState.{HotState}
use Rattle.hotstart.specs.declared.state.HotSub.{HotSub}
use Rattle.net_types.specs.declared.project.Project.{Project}
use Rattle.phase_law.specs.declared.values.LinkFixed.{LinkFixed}
use Rattle.runoff.specs.declared.states.SubState.{SubState}
use Rattle.runoff_states.specs.RunoffStates.{runoff_state}
use Rattle.run_engine.specs.Laterals.{runoff_start}
use Rattle.run_engine.specs.Results.{runoffs_done}
use Rattle.run_engine.specs.States.{nets_at, steps_of}
use Rattle.run_engine.specs.declared.start.Start.{Start}

-- a state with which a run of the project can begin: one that a file keeps as it is, of this project
pub record IsHotFor (project : Project) (state : HotState) : Type 0 where
  pub kept : IsKept state
  pub fits : IsStateFor project state

-- the state of a subcatchment as a hotstart keeps it
abbrev pub sub_in : SubState → HotSub
sub_in state = record { depths = state.depths; flow = state.flow; infil = state.infil }

-- state k of a run as a hotstart keeps it: heads, flows, settings and the least travel time, and the subcatchments
-- after the steps of runoff that are done there
unfoldable pub hot_at : Start → (k : ℕ) → HotState
hot_at start k = record {
  kind = kind_of start.project.subs start.project.options.infil;
  heads = (nets_at start k).heads;
  flows = (nets_at start k).flows;
  settings = map (λ (link : LinkFixed). link.setting) (nets_at start k).links;
  least = (nets_at start k).least;
  subs =
      list_of (λ n. sub_in (runoff_state start.project (runoff_start start) (runoffs_done start k) n))
      (length start.project.subs);
}

-- the last state of a run
abbrev pub last_of : Start → HotState
last_of start = hot_at start (steps_of start)

-- room for a state of a project: its kind, and as many of everything as the project has
pub record IsRoomFor (project : Project) (room : HotState) : Type 0 where
  pub kind : room.kind ≡ kind_of project.subs project.options.infil
  pub heads : length room.heads ≡ length project.nodes
  pub flows : length room.flows ≡ length project.links
  pub settings : length room.settings ≡ length project.links
  pub subs : length room.subs ≡ length project.subs
