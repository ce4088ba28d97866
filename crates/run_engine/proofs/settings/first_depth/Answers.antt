use Rattle.std.proofs.Common.{◌≡◌, ◌∙◌, ◌<◌, List, length, ◌-ℤ◌, ap, sym, subst, rules, arith, FitsSigned, w64}
use Rattle.std.proofs.lemmas.Int.{to_z-of_z}
use Rattle.fixed_num.specs.Lists.{number}
use Rattle.fixed_num.specs.Ranges.{IsFall}
use Rattle.fixed_num.proofs.Bounds.{fits64}
use Rattle.net_types.specs.Records.{link_at, node_at as node_of}
use Rattle.net_types.specs.declared.network.Link.{Link}
use Rattle.net_types.specs.declared.network.Node.{Node}
use Rattle.project_check.proofs.HeightLemmas.{node_is}
use Rattle.run_engine.specs.Settings.{first_depth}
use Rattle.run_engine.proofs.LawLemmas.{law_nodes}
use Rattle.run_engine.proofs.PumpLemmas.{depth_in, first_inside, link_is}
use Rattle.run_engine.proofs.settings.first_depth.Goals as goal
use Rattle.run_engine.proofs.settings.first_depth.Goals.{After-index-links-l, After-index-nodes-link}

link : (c : After-index-links-l) → c.index-links-l.result ≡ link_at c.args.project.now.links c.args.l
link c = link_is c.as_slice-links.ensures c.requires.l c.index-links-l.is

pub bounds-nodes-link : goal.bounds-nodes-link
bounds-nodes-link c =
    let d = (goal.at.bounds-nodes-link c).After-index-links-l in
    omega (arith, first_inside c.requires.project c.args.l c.requires.l (link d), ap length c.as_slice-nodes.ensures)

pub bounds-heads-link : goal.bounds-heads-link
bounds-heads-link c =
    let d = (goal.at.bounds-heads-link c).After-index-links-l in
    omega (arith, first_inside c.requires.project c.args.l c.requires.l (link d), c.requires.heads.count, law_nodes c.args.project.now)

here : (c : After-index-nodes-link) → c.index-links-l.result ≡ link_at c.args.project.now.links c.args.l
here c = link_is c.as_slice-links.ensures c.requires.l c.index-links-l.is

node : (c : After-index-nodes-link) → c.index-nodes-link.result ≡ node_of c.args.project.now.nodes c.index-links-l.result.first
node c =
    let first = c.index-links-l.result.first in
    let inside : first < length c.as_slice-nodes.result.now =
    omega (arith, first_inside c.requires.project c.args.l c.requires.l (here c), ap length c.as_slice-nodes.ensures) in
    node_is c.as_slice-nodes.result.now first c.index-nodes-link.result inside c.index-nodes-link.is
    ∙ ap (λ (nodes : List Node). node_of nodes first) c.as_slice-nodes.ensures

depth : (c : After-index-nodes-link) → IsFall (number c.args.heads.now c.index-links-l.result.first -ℤ c.index-nodes-link.result.invert)
depth c =
    subst (λ (n : Node). IsFall (number c.args.heads.now c.index-links-l.result.first -ℤ n.invert)) (sym (node c))
    (depth_in c.requires.project c.args.l c.requires.l c.requires.heads (here c))

value : (c : After-index-nodes-link) → number c.args.heads.now c.index-links-l.result.first -ℤ c.index-nodes-link.result.invert ≡ first_depth c.args.project.now c.args.heads.now c.args.l
value c =
    ap (λ (n : Node). number c.args.heads.now c.index-links-l.result.first -ℤ n.invert) (node c)
    ∙ ap (λ (x : Link). number c.args.heads.now x.first -ℤ (node_of c.args.project.now.nodes x.first).invert) (here c)

pub overflow_sub-result : goal.overflow_sub-result
overflow_sub-result c =
    let d = (goal.at.overflow_sub-result c).After-index-nodes-link in
    let head : FitsSigned w64 (number c.args.heads.now c.index-links-l.result.first) = search rules in
    let invert : FitsSigned w64 c.index-nodes-link.result.invert = search rules in
    simp (to_z-of_z, head, invert) (fits64 (depth d) tt)

pub returns-clause-value : goal.returns-clause-value
returns-clause-value c =
    let d = (goal.at.returns-clause-value c).After-index-nodes-link in
    let head : FitsSigned w64 (number c.args.heads.now c.index-links-l.result.first) = search rules in
    let invert : FitsSigned w64 c.index-nodes-link.result.invert = search rules in
    simp (to_z-of_z, head, invert, fits64 (depth d) tt) (value d)

pub returns-clause-range : goal.returns-clause-range
returns-clause-range c =
    let d = (goal.at.returns-clause-range c).After-index-nodes-link in
    let head : FitsSigned w64 (number c.args.heads.now c.index-links-l.result.first) = search rules in
    let invert : FitsSigned w64 c.index-nodes-link.result.invert = search rules in
    simp (to_z-of_z, head, invert, fits64 (depth d) tt) (depth d)
