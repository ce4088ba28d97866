-- The law of a project: its counts, its head limit and what follows for its links and nodes.
use Rattle.std.proofs.Common.{◌≡◌, ℕ, ◌<◌, length, subst, arith}
use Rattle.std.proofs.lemmas.List.{length-map}
use Rattle.std.proofs.lemmas.List.FromFn.{get_or-map-range_with_len, length-map-range_with_len}
use Rattle.link_eval.specs.Good.{IsGood}
use Rattle.link_eval.specs.LawGood.{law_good}
use Rattle.link_eval.specs.declared.hydraulics.Hydraulics.{Hydraulics}
use Rattle.link_eval.specs.Hydraulics.{hydraulics_of, law_of, no_node_law, node_law_at}
use Rattle.link_eval.specs.LinkLaws.{link_law_of}
use Rattle.net_types.specs.declared.project.Project.{Project}
use Rattle.node_update.specs.NodeLaws.{node_law_of}
use Rattle.phase_law.specs.Laws.{IsLaw}
use Rattle.run_engine.specs.States.{project_law}

-- as many nodes and links as the project has
pub law_nodes : (project : Project) → (project_law project).nodes ≡ length project.nodes
unfolding law_of hydraulics_of
law_nodes project = length-map-range_with_len (node_law_of project) 0 (length project.nodes)

pub law_links : (project : Project) → (project_law project).links ≡ length project.links
unfolding law_of hydraulics_of
law_links project = length-map project.links (link_law_of project.nodes project.options)

-- the law of hydraulics that a law always holds is good
pub project_good : (h : Hydraulics) → IsGood h → (project : Project) → h ≡ hydraulics_of project → IsGood (hydraulics_of project)
project_good h good project e = subst (λ (x : Hydraulics). IsGood x) e good

pub project_law_good : (project : Project) → IsGood (hydraulics_of project) → IsLaw (project_law project)
project_law_good project good = law_good (hydraulics_of project) good

-- the links of a law
pub link_in : (h : Hydraulics) (l : ℕ) → l < (law_of h).links → l < length h.links
unfolding law_of
link_in h l inside = inside

-- the law of a node by its number
pub node_law_is : (project : Project) (n : ℕ) → n < length project.nodes → node_law_at (hydraulics_of project) n ≡ node_law_of project n
unfolding hydraulics_of node_law_at
node_law_is project n inside = get_or-map-range_with_len (node_law_of project) 0 (length project.nodes) n n no_node_law inside (omega arith)

pub node_in : (project : Project) (n : ℕ) → n < length project.nodes → n < length (hydraulics_of project).nodes
unfolding hydraulics_of
node_in project n inside = omega (arith, inside, length-map-range_with_len (node_law_of project) 0 (length project.nodes))
