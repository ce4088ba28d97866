-- The states of a run (Reference Manual volume II, chapter 3; this project's profile).
use Rattle.std.specs.Prelude.{ℕ, zero, suc, if◌then◌else◌, true, List, replicate, ℤ, pos, ◌+ℤ◌, ◌-ℤ◌}
use Rattle.std.specs.Prelude.{Option, None, Some}
use Rattle.net_types.specs.declared.network.LinkKind.{LinkKind}
use Rattle.net_types.specs.declared.network.LinkKind.TheVariants.{Conduit, Pump, Orifice, Weir}
use Rattle.net_types.specs.declared.network.NodeKind.{NodeKind}
use Rattle.net_types.specs.declared.network.NodeKind.TheVariants.{Junction, Outfall, Storage}
use Rattle.net_types.specs.declared.project.Project.{Project}
use Rattle.node_update.specs.NodeLaws.{is_outfall_rule, node_law_of}
use Rattle.node_update.specs.declared.node_law.NodeLaw.{NodeLaw}
use Rattle.phase_law.specs.Law.{Law}
use Rattle.phase_law.specs.declared.values.LinkFixed.{LinkFixed}
use Rattle.phase_law.specs.declared.values.NodeFixed.{NodeFixed}
use Rattle.trial_model.specs.declared.nets.Nets.{Nets}
use Rattle.trial_model.specs.declared.step.StepEnd.{StepEnd}
use Rattle.trial_model.specs.Fits.{node_fixed_at}
use Rattle.fixed_num.specs.Lists.{number, list_of}
use Rattle.fixed_num.specs.Ranges.{cut_of}
use Rattle.fixed_num.specs.Sums.{below}
use Rattle.hotstart.specs.declared.state.HotState.{HotState}
use Rattle.trial_model.specs.RoutingStep.{end_of, trials}
use Rattle.trial_model.specs.Trial.{inflow_of, outflow_of}
use Rattle.link_eval.specs.declared.hydraulics.Hydraulics.{Hydraulics}
use Rattle.link_eval.specs.Hydraulics.{hydraulics_of, law_of, mid_area_at}
use Rattle.net_types.specs.Records.{link_at, node_at as node_of}
use Rattle.time_series.specs.Stages.{stage_at}
use Rattle.run_engine.specs.Laterals.{node_lateral}
use Rattle.run_engine.specs.Settings.{settings_in}
use Rattle.run_engine.specs.declared.start.Start.{Start}
use Rattle.run_engine.specs.Times.{goes_on, length_of}

-- the law of a project
abbrev pub project_law : Project → Law
project_law project = law_of (hydraulics_of project)

-- ---- the opening state: the project's initial values, or those of a hotstart
-- the flow of a link in the beginning
abbrev pub kind_flow : LinkKind → ℤ
kind_flow (Conduit long n6 z1 z2 q0 q_max entry6 exit6 avg6 flap) = q0
kind_flow (Pump curve on startup shutoff) = pos 0
kind_flow (Orifice bottom offset cd6 flap) = pos 0
kind_flow (Weir notch crest cd6 flap contractions) = pos 0

abbrev pub flow_from : Project → Option HotState → ℕ → ℤ
flow_from project None l = kind_flow (link_at project.links l).kind
flow_from project (Some hot) l = number hot.flows l

abbrev pub opening_flow : Start → ℕ → ℤ
opening_flow start = flow_from start.project start.hot

-- the setting of a link in the beginning, in millionths: a pump may be off, all other links are open
abbrev pub kind_setting : LinkKind → ℤ
kind_setting (Conduit long n6 z1 z2 q0 q_max entry6 exit6 avg6 flap) = pos 1_000_000
kind_setting (Pump curve on startup shutoff) = if on then pos 1_000_000 else pos 0
kind_setting (Orifice bottom offset cd6 flap) = pos 1_000_000
kind_setting (Weir notch crest cd6 flap contractions) = pos 1_000_000

abbrev pub setting_from : Project → Option HotState → ℕ → ℤ
setting_from project None l = kind_setting (link_at project.links l).kind
setting_from project (Some hot) l = number hot.settings l

-- and nothing else of its own
abbrev pub opening_link : Start → ℕ → LinkFixed
opening_link start l =
    record { q_old = pos 0; a_old = pos 0; setting = setting_from start.project start.hot l; dt = pos 0 }

-- what a node has of its own at a moment: its lateral inflow and its stage
abbrev pub opening_node : Start → ℕ → NodeFixed
opening_node start n = record {
  h_old = pos 0;
  net_old = pos 0;
  lateral = node_lateral start n (pos 0);
  stage = stage_at start.project n (pos 0);
  dt = pos 0;
}

-- what the links bring to a node and take from it in the beginning
abbrev pub opening_inflow : Start → ℕ → ℤ
opening_inflow start n = pos (inflow_of (project_law start.project) (opening_flow start) n)

abbrev pub opening_outflow : Start → ℕ → ℤ
opening_outflow start n = pos (outflow_of (project_law start.project) (opening_flow start) n)

-- the head that the law of a node gives in the beginning, by its stage and by what its links bring and take
unfoldable pub opening_level : Start → ℕ → ℤ
opening_level start n =
    ((project_law start.project).next n (opening_node start n) true
    (opening_inflow start n) (opening_outflow start n) (pos 0) (pos 0)).head

-- the head of a node in the beginning: a junction and a storage have their initial depth, an outfall has that level
abbrev pub kind_head : NodeKind → (invert y0 level : ℤ) → ℤ
kind_head (Outfall stage gated) invert y0 level = level
kind_head (Junction surcharge pond) invert y0 level = invert +ℤ y0
kind_head (Storage shape) invert y0 level = invert +ℤ y0

-- a head of a hotstart: that of a junction and of a storage is brought into its invert to its top
abbrev pub kept_head : NodeLaw → (head : ℤ) → ℤ
kept_head law head = if is_outfall_rule law.rule then head else cut_of head law.invert law.top

abbrev pub head_from : Project → Option HotState → (level : ℤ) → ℕ → ℤ
head_from project None level n =
    let node = node_of project.nodes n in kind_head node.kind node.invert node.y0 level
head_from project (Some hot) level n = kept_head (node_law_of project n) (number hot.heads n)

abbrev pub opening_head : Start → ℕ → ℤ
opening_head start n = head_from start.project start.hot (opening_level start n) n

-- the least travel time in the beginning, in ms
abbrev pub least_from : Option HotState → ℤ
least_from None = pos 0
least_from (Some hot) = hot.least

-- the state before the first step: flows and settings, what the nodes get of these flows, and heads
unfoldable pub opening : Start → Nets
opening start =
    let law = project_law start.project in
    record {
      heads = list_of (opening_head start) law.nodes;
      flows = list_of (opening_flow start) law.links;
      inflows = list_of (opening_inflow start) law.nodes;
      outflows = list_of (opening_outflow start) law.nodes;
      areas = replicate law.nodes (pos 0);
      read_heads = replicate law.nodes (pos 0);
      links = list_of (opening_link start) law.links;
      nodes = list_of (opening_node start) law.nodes;
      least = least_from start.hot;
    }

-- ---- a step
-- what stays the same for a link over a step: its flow and its middle area in the state, its setting, the length
abbrev pub link_start : Hydraulics → (heads flows : List ℤ) → (setting dt : ℤ) → ℕ → LinkFixed
link_start h heads flows setting dt l =
    let ends = (law_of h).ends l in
    record {
      q_old = number flows l;
      a_old = mid_area_at h l (number heads ends.0) (number heads ends.1);
      setting = setting;
      dt = dt;
    }

abbrev pub prepared_link : Project → Nets → (finish dt : ℤ) → ℕ → LinkFixed
prepared_link project s finish dt l =
    link_start (hydraulics_of project) s.heads s.flows (number (settings_in project (finish -ℤ dt) s) l) dt l

-- and for a node: its head and its net inflow in the state, and its lateral inflow and stage at the step's end
abbrev pub node_start : Start → (heads inflows outflows : List ℤ) → List NodeFixed → (finish dt : ℤ) → ℕ → NodeFixed
node_start start heads inflows outflows nodes finish dt n = record {
  h_old = number heads n;
  net_old = (node_fixed_at nodes n).lateral +ℤ number inflows n -ℤ number outflows n;
  lateral = node_lateral start n finish;
  stage = stage_at start.project n finish;
  dt = dt;
}

abbrev pub prepared_node : Start → Nets → (finish dt : ℤ) → ℕ → NodeFixed
prepared_node start s = node_start start s.heads s.inflows s.outflows s.nodes

-- a state made ready for the trials of a step that finishes at this moment and has this length
unfoldable pub prepared : Start → (finish dt : ℤ) → Nets → Nets
prepared start finish dt s =
    let law = project_law start.project in
    record s {
      links = list_of (prepared_link start.project s finish dt) law.links;
      nodes = list_of (prepared_node start s finish dt) law.nodes;
    }

-- how such a step from a state ends, and the state after it
unfoldable pub step_end : Start → (finish dt : ℤ) → Nets → StepEnd
step_end start finish dt s =
    end_of (project_law start.project) (prepared start finish dt s) start.project.options.max_trials

unfoldable pub next_nets : Start → (finish dt : ℤ) → Nets → Nets
next_nets start finish dt s =
    trials (project_law start.project) (prepared start finish dt s) (step_end start finish dt s).trials

-- ---- the states
-- a state of a run: its moment, in ms since the start, and its heads, flows and what goes with them
pub record RunState : Type 0 where
  pub moment : ℤ
  pub nets : Nets

-- the length of the step from a state, and its finish
abbrev pub step_length : Project → RunState → ℤ
step_length project s = length_of project.options s.moment s.nets.least

abbrev pub step_finish : Project → RunState → ℤ
step_finish project s = s.moment +ℤ step_length project s

-- the state after that step
abbrev pub next_state : Start → RunState → RunState
next_state start s = record {
  moment = step_finish start.project s;
  nets = next_nets start (step_finish start.project s) (step_length start.project s) s.nets;
}

-- state k of a run: the opening state, and after each step the next one
unfoldable pub state : Start → ℕ → RunState
state start zero = record { moment = pos 0; nets = opening start }
state start (suc k) = next_state start (state start k)

abbrev pub moment_at : Start → ℕ → ℤ
moment_at start k = (state start k).moment

abbrev pub nets_at : Start → ℕ → Nets
nets_at start k = (state start k).nets

abbrev pub length_at : Start → ℕ → ℤ
length_at start k = step_length start.project (state start k)

-- how many of the first n states are before the end
unfoldable pub going_below : Start → ℕ → ℕ
going_below start n = below (λ k. if goes_on start.project.options (moment_at start k) then 1 else 0) n

-- the number of steps of a run: as many as its first 50,000,000 states have before the end
unfoldable pub steps_of : Start → ℕ
steps_of start = going_below start 50_000_000
