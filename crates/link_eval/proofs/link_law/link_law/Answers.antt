use Rattle.std.proofs.Common.{◌≡◌, ◌∙◌, ◌<◌, List, length, ap, arith}
use Rattle.project_check.proofs.HeightLemmas.{node_is}
use Rattle.net_types.specs.declared.network.Node.{Node}
use Rattle.net_types.specs.Records.{node_at}
use Rattle.link_eval.proofs.BuildLemmas.{link_law_good, link_law_is}
use Rattle.link_eval.proofs.link_law.link_law.Goals as goal
use Rattle.link_eval.proofs.link_law.link_law.Goals.{After-between-ends}

near : (c : After-between-ends) → c.index-nodes-link.result ≡ node_at c.args.project.now.nodes c.args.link.now.first
near c =
    let first = c.args.link.now.first in
    let inside : first < length c.as_slice-nodes.result.now = omega (arith, c.requires.link.names.first, ap length c.as_slice-nodes.ensures) in
    node_is c.as_slice-nodes.result.now first c.index-nodes-link.result inside c.index-nodes-link.is
    ∙ ap (λ (nodes : List Node). node_at nodes first) c.as_slice-nodes.ensures

far : (c : After-between-ends) → c.index-nodes-link-2.result ≡ node_at c.args.project.now.nodes c.args.link.now.second
far c =
    let second = c.args.link.now.second in
    let inside : second < length c.as_slice-nodes.result.now = omega (arith, c.requires.link.names.second, ap length c.as_slice-nodes.ensures) in
    node_is c.as_slice-nodes.result.now second c.index-nodes-link-2.result inside c.index-nodes-link-2.is
    ∙ ap (λ (nodes : List Node). node_at nodes second) c.as_slice-nodes.ensures

pub returns-clause-value : goal.returns-clause-value
returns-clause-value c =
    let d = (goal.at.returns-clause-value c).After-between-ends in
    link_law_is c.args.project.now.nodes c.args.project.now.options c.args.link.now c.link_rule.new.stock.tables c.in_ok-rule.rule (near d) (far d) c.between-ends.ensures.value c.in_ok-rule.ensures.value

pub returns-clause-good : goal.returns-clause-good
returns-clause-good c = link_law_good c.args.link.now c.link_rule.new.stock.tables c.in_ok-rule.rule c.requires.link c.in_ok-rule.ensures.good c.in_ok-rule.ensures.curve
