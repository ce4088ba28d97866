-- What the law of hydraulics asks of a state, in the words of its nodes and links.
use Rattle.std.proofs.Common.{◌≡◌, ℕ, ◌≤◌, ◌<◌, length, refl}
use Rattle.link_eval.specs.Good.{IsGood}
use Rattle.link_eval.specs.Hydraulics.{law_of, node_law_at}
use Rattle.link_eval.specs.LawGood.{law_good}
use Rattle.link_eval.specs.declared.hydraulics.Hydraulics.{Hydraulics}
use Rattle.node_update.specs.NodeLaws.{IsNodeLaw}

pub nodes_is : (h : Hydraulics) → (law_of h).nodes ≡ length h.nodes
unfolding law_of
nodes_is h = refl

pub links_is : (h : Hydraulics) → (law_of h).links ≡ length h.links
unfolding law_of
links_is h = refl

pub node_law_in : (h : Hydraulics) → IsGood h → (n : ℕ) → n < (law_of h).nodes → IsNodeLaw (node_law_at h n)
unfolding law_of
node_law_in h good n inside = good.nodes n inside

pub few_nodes : (h : Hydraulics) → IsGood h → (law_of h).nodes ≤ 20_000
few_nodes h good = (law_good h good).few_nodes

pub few_links : (h : Hydraulics) → IsGood h → (law_of h).links ≤ 20_000
few_links h good = (law_good h good).few_links
