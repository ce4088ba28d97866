use Rattle.std.proofs.Common.{List, length, subst, sym, rules}
use Rattle.std.specs.List.{All}
use Rattle.net_types.specs.declared.network.Link.{Link}
use Rattle.link_eval.specs.Good.{IsGoodLink}
use Rattle.link_eval.specs.LinkLaws.{link_law_of}
use Rattle.link_eval.specs.Routed.{IsRouted}
use Rattle.link_eval.specs.SharedTables.{law_with, laws_with}
use Rattle.link_eval.proofs.BuildLemmas.{all_routed}
use Rattle.link_eval.proofs.ListLemmas.{item_in, map_step, all_step}
use Rattle.link_eval.proofs.SharedLemmas.{laws_step}
use Rattle.link_eval.proofs.build.link_laws.Goals as goal

pub link_law-requires-clause-link : goal.link_law-requires-clause-link
link_law-requires-clause-link c =
    let project = c.args.project.now in
    let all = subst (λ (links : List Link). All (IsRouted project) links) (sym c.as_slice-links.ensures) (all_routed project c.requires.faultless) in
    item_in (IsRouted project) c.as_slice-links.result.now c.loop-link.link-index c.link-item.result c.loop-link-test.true c.link-item.is all

pub loop-link-init : goal.loop-link-init
unfolding laws_with
loop-link-init c = record { laws_are = record { value = search rules; good = search rules }; stock_is = c.new-stock.ensures.stock }

pub loop-link-preserved : goal.loop-link-preserved
loop-link-preserved c =
    let nodes = length c.args.project.now.nodes in
    let curves = length c.args.project.now.curves in
    let before = laws_with c.loop-link.stock.tables c.loop-link.laws in
    let after = laws_with c.link_law.new.stock.tables c.push.new.self in
    let law = law_with c.link_law.new.stock.tables c.in_ok-link_law.field-0 in
    let made = c.loop-link.invariant.laws_are in
    let step =
    laws_step nodes curves c.loop-link.stock.tables c.link_law.new.stock.tables c.loop-link.laws c.push.new.self c.in_ok-link_law.field-0
    c.in_ok-link_law.ensures.tables made.good c.in_ok-push.ensures.ok in
    record {
      laws_are = record {
        value = map_step (link_law_of c.args.project.now.nodes c.args.project.now.options) c.as_slice-links.result.now c.loop-link.link-index c.link-item.result
            before after law c.loop-link-test.true c.link-item.is made.value c.in_ok-link_law.ensures.value step;
        good = all_step (IsGoodLink nodes curves) before after law made.good c.in_ok-link_law.ensures.good step;
      };
      stock_is = c.in_ok-link_law.ensures.stock;
    }
