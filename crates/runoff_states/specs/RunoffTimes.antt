-- Which steps of runoff are done at a moment of a run, and the runoff that holds there (this project's profile).
use Rattle.std.specs.Prelude.{ℕ, ◌+◌, ◌/◌, ◌==◌, ℤ, pos, ◌*ℤ◌, ◌≤ℤ◌, ◌<ℤ◌, unsigned_abs}
use Rattle.std.specs.Prelude.{length, if◌then◌else◌}
use Rattle.fixed_num.specs.Sums.{sum_below}
use Rattle.net_types.specs.declared.project.Project.{Project}
use Rattle.runoff.specs.declared.states.SubState.{SubState}
use Rattle.runoff_states.specs.RunoffStates.{runoff_state, sub_at}

-- at a moment so many steps of length `ms` are done: those that ended at or before it
pub record AreDone (ms moment : ℤ) (steps : ℕ) : Type 0 where
  pub ended : (pos steps *ℤ ms) ≤ℤ moment
  pub next : moment <ℤ (pos (steps + 1) *ℤ ms)

abbrev pub steps_done : (ms moment : ℤ) → ℕ
steps_done ms moment = unsigned_abs moment / unsigned_abs ms

-- what runs off to a node of subcatchments in these states (cm³/s): the flows of those whose outlet it is
abbrev pub flow_to : Project → (node : ℕ) → SubState → ℕ → ℤ
flow_to project node state k = if (sub_at project.subs k).outlet == node then state.flow else pos 0

abbrev pub node_runoff : Project → (states : ℕ → SubState) → (node : ℕ) → ℤ
node_runoff project states node = sum_below (λ k. flow_to project node (states k) k) (length project.subs)

-- what runs off to a node at a moment of a run that begins with these states: that of the last step that is done
abbrev pub runoff_at : Project → (start : ℕ → SubState) → (moment : ℤ) (node : ℕ) → ℤ
runoff_at project start moment node =
    node_runoff project (runoff_state project start (steps_done project.options.wet_ms moment)) node
