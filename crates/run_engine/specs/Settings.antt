-- The settings of the links over a step, in millionths: pumps start and stop by the depth at their inlet, and then the
-- control rules act (User's Manual, sections [PUMPS] and [CONTROLS]; this project's profile).
use Rattle.std.specs.Prelude.{ℕ, List, length, ℤ, pos, ◌+ℤ◌, ◌-ℤ◌}
use Rattle.std.specs.Int.{int_max}
use Rattle.control_rules.specs.Conditions.{Conditions}
use Rattle.control_rules.specs.Settings.{settings_of}
use Rattle.fixed_num.specs.Lists.{number, list_of}
use Rattle.net_types.specs.declared.network.LinkKind.{LinkKind}
use Rattle.net_types.specs.declared.network.LinkKind.TheVariants.{Conduit, Pump, Orifice, Weir}
use Rattle.net_types.specs.declared.project.Project.{Project}
use Rattle.net_types.specs.Records.{link_at, node_at as node_of}
use Rattle.phase_law.specs.declared.values.LinkFixed.{LinkFixed}
use Rattle.phase_law.specs.declared.values.NodeFixed.{NodeFixed}
use Rattle.pump_flow.specs.PumpSetting.{pump_setting_of}
use Rattle.time_series.specs.LateralFlow.{run_point}
use Rattle.trial_model.specs.Fits.{link_fixed_at, node_fixed_at}
use Rattle.trial_model.specs.declared.nets.Nets.{Nets}

-- ---- pumps
-- the depth of water at the first node of a link, in µm
abbrev pub first_depth : Project → (heads : List ℤ) → ℕ → ℤ
first_depth project heads l =
    let n = (link_at project.links l).first in number heads n -ℤ (node_of project.nodes n).invert

-- a pump starts and stops by that depth; another link keeps its setting
abbrev pub setting_by_depth : LinkKind → (depth setting : ℤ) → ℤ
setting_by_depth (Conduit long n6 z1 z2 q0 q_max entry6 exit6 avg6 flap) depth setting = setting
setting_by_depth (Pump curve on startup shutoff) depth setting = pump_setting_of startup shutoff depth setting
setting_by_depth (Orifice bottom offset cd6 flap) depth setting = setting
setting_by_depth (Weir notch crest cd6 flap contractions) depth setting = setting

-- the setting that the depths of a state give a link
abbrev pub pumped_setting : Project → (heads : List ℤ) → List LinkFixed → ℕ → ℤ
pumped_setting project heads links l =
    setting_by_depth (link_at project.links l).kind (first_depth project heads l) (link_fixed_at links l).setting

abbrev pub pumped_settings : Project → (heads : List ℤ) → List LinkFixed → List ℤ
pumped_settings project heads links = list_of (pumped_setting project heads links) (length project.links)

-- ---- rules
-- the inflow of a node that rules see: what links bring it, and its lateral inflow where that is positive
abbrev pub seen_inflow : (inflows : List ℤ) → List NodeFixed → ℕ → ℤ
seen_inflow inflows nodes n = number inflows n +ℤ int_max (pos 0) (node_fixed_at nodes n).lateral

abbrev pub seen_inflows : Project → (inflows : List ℤ) → List NodeFixed → List ℤ
seen_inflows project inflows nodes = list_of (seen_inflow inflows nodes) (length project.nodes)

-- what the rules see in a state at a moment, in ms since the start: the settings are those after the pumps' own
abbrev pub conditions_in : Project → (moment : ℤ) → Nets → Conditions
conditions_in project moment s = record {
  heads = s.heads;
  inflows = seen_inflows project s.inflows s.nodes;
  flows = s.flows;
  settings = pumped_settings project s.heads s.links;
  elapsed = moment;
  calendar = run_point project moment;
}

-- the settings over the step that begins at a moment in a state
unfoldable pub settings_in : Project → (moment : ℤ) → Nets → List ℤ
settings_in project moment s = settings_of project (conditions_in project moment s)
