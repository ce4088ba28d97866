use Rattle.std.proofs.Common.{◌≡◌, ◌<◌, ◌++◌, ℕ, List, [], length, take, flat_map, ap, sym, refl, subst, ◌∙◌}
use Rattle.std.specs.List.{range_with_len}
use Rattle.net_types.specs.declared.faults.ProjectFault.{ProjectFault}
use Rattle.net_types.specs.declared.hydrology.Sub.{Sub}
use Rattle.net_types.specs.declared.network.Link.{Link}
use Rattle.net_types.specs.declared.network.Node.{Node}
use Rattle.project_check.specs.ProjectFaults.{general_faults, link_faults, node_faults, project_faults, sub_faults}
use Rattle.project_check.proofs.CutLemmas.{cut_room, parts_joined}
use Rattle.project_check.proofs.faults.check.Goals as goal
use Rattle.project_check.proofs.faults.check.Goals.{In_ok-check_nodes}

nodes_made : (c : In_ok-check_nodes) → c.check_nodes.new.faults ≡ take 100 (c.check_whole.new.faults ++ flat_map (node_faults c.args.project.now) (range_with_len 0 (length c.as_slice.result.now)))
nodes_made c =
    c.in_ok-check_nodes.ensures c.args.project.now (sym c.as_slice.ensures)
    (λ n h. rw c.as_slice-2.ensures (c.in_ok-ends.ensures.each n (subst (λ (l : List Node). n < length l) c.as_slice.ensures h)))

pub check_links-requires-clause-room : goal.check_links-requires-clause-room
check_links-requires-clause-room c = cut_room c.check_nodes.new.faults _ (nodes_made (goal.at.check_links-requires-clause-room c).In_ok-check_nodes)

pub check_subs-requires : goal.check_subs-requires
check_subs-requires c = record { room = cut_room c.check_links.new.faults _ c.in_ok-check_links.ensures }

pub returns : goal.returns
unfolding project_faults
returns c =
    let project = c.args.project.now in
    let nodes = rw (c.in_ok-check_whole.ensures, c.as_slice.ensures) at (nodes_made (goal.at.returns c).In_ok-check_nodes) in
    let links = rw c.as_slice-3.ensures at c.in_ok-check_links.ensures in
    let subs = rw c.as_slice-4.ensures at c.in_ok-check_subs.ensures in
    parts_joined (general_faults project) (flat_map (node_faults project) (range_with_len 0 (length project.nodes))) (flat_map link_faults project.links) (flat_map sub_faults project.subs) c.check_nodes.new.faults c.check_links.new.faults c.check_subs.new.faults nodes links subs
