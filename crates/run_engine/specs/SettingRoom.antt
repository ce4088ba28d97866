-- Words of proofs alone: the room in which the settings of a step are found.
use Rattle.std.specs.Prelude.{◌≡◌, length}
use Rattle.net_types.specs.declared.project.Project.{Project}
use Rattle.run_engine.specs.declared.settings.SettingRoom.{SettingRoom}

-- there is a place for each node and for each link
pub record HasPlaces (project : Project) (room : SettingRoom) : Type 0 where
  pub inflows : length room.inflows ≡ length project.nodes
  pub pumped : length room.pumped ≡ length project.links
  pub settings : length room.settings ≡ length project.links
