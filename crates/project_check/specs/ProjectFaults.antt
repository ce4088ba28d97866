-- The faults of a project (User's Manual, appendix E; the limits, the order and the numbers from 401 on are
-- this project's profile).
use Rattle.std.specs.Prelude.{ℕ, Bool, not, if◌then◌else◌, List, [], ◌∷◌, ◌++◌}
use Rattle.std.specs.Prelude.{length, take, flat_map, Option, Some, None}
use Rattle.std.specs.List.{range_with_len}
use Rattle.net_types.specs.declared.faults.FaultKind.{FaultKind}
use Rattle.net_types.specs.declared.faults.FaultKind.TheVariants.{NoOutfall, EndBeforeStart, OverLimit, BadObject}
use Rattle.net_types.specs.declared.faults.ProjectFault.{ProjectFault}
use Rattle.net_types.specs.declared.hydrology.Sub.{Sub}
use Rattle.net_types.specs.declared.network.Link.{Link}
use Rattle.net_types.specs.declared.project.Project.{Project}
use Rattle.net_types.specs.Faults.{number_of}
use Rattle.net_types.specs.Records.{node_at}
use Rattle.project_check.specs.Ends.{ends_of}
use Rattle.project_check.specs.Network.{has_outfall}
use Rattle.project_check.specs.Objects.{node_fault, is_good_link, is_good_sub}
use Rattle.project_check.specs.Times.{ends_before_start, is_over_limit}

-- a fault of a kind, with the name of the object at fault
abbrev pub fault_of : FaultKind → List ℕ → ProjectFault
fault_of kind name = record { number = number_of kind; name = name }

-- it, where it stands
abbrev pub fault_where : Bool → FaultKind → List ℕ → List ProjectFault
fault_where stands kind name = if stands then fault_of kind name ∷ [] else []

abbrev pub fault_if : Option FaultKind → List ℕ → List ProjectFault
fault_if (Some kind) name = fault_of kind name ∷ []
fault_if None name = []

-- no outfall; the end before the start; a duration or a number of steps over its limit: without a name
abbrev pub general_faults : Project → List ProjectFault
general_faults project =
    fault_where (not (has_outfall project.nodes)) NoOutfall []
    ++ fault_where (ends_before_start project.options) EndBeforeStart []
    ++ fault_where (is_over_limit project.options) OverLimit []

-- at most one fault of each node, link and subcatchment
abbrev pub node_faults : Project → ℕ → List ProjectFault
node_faults project k =
    let node = node_at project.nodes k in fault_if (node_fault node (ends_of project.links k)) node.name

abbrev pub link_faults : Link → List ProjectFault
link_faults link = fault_where (not (is_good_link link)) BadObject link.name

abbrev pub sub_faults : Sub → List ProjectFault
sub_faults sub = fault_where (not (is_good_sub sub)) BadObject sub.name

abbrev pub all_faults : Project → List ProjectFault
all_faults project =
    general_faults project
    ++ flat_map (node_faults project) (range_with_len 0 (length project.nodes))
    ++ flat_map link_faults project.links
    ++ flat_map sub_faults project.subs

-- the faults of a project in their order, the first 100 of them
unfoldable pub project_faults : Project → List ProjectFault
project_faults project = take 100 (all_faults project)
