use Rattle.std.proofs.Common.{rules, ◌∙◌, ◌<◌, Option, length, sym, ap, subst, FitsSigned, w64}
use Rattle.std.proofs.lemmas.Int.{to_z-of_z}
use Rattle.fixed_num.specs.Lists.{number}
use Rattle.hotstart.specs.declared.state.HotState.{HotState}
use Rattle.link_eval.specs.Hydraulics.{node_law_at}
use Rattle.link_eval.specs.declared.hydraulics.Hydraulics.{Hydraulics}
use Rattle.node_update.specs.declared.node_law.NodeLaw.{NodeLaw}
use Rattle.run_engine.specs.States.{head_from, kept_head, opening_level}
use Rattle.run_engine.proofs.LawLemmas.{node_in, node_law_is}
use Rattle.run_engine.proofs.opening.open_head.Goals as goal

pub node-requires : goal.node-requires
node-requires c =
    subst (λ (h : Hydraulics). c.args.n < length h.nodes) (sym c.requires.law) (node_in c.args.start.now.project c.args.n c.requires.n)

pub returns-in-Some : goal.returns-in-Some
returns-in-Some c =
    let project = c.args.start.now.project in
    let n = c.args.n in
    let heads = c.in-Some.hot.heads in
    let kept : FitsSigned w64 (number heads n) = search rules in
    let fits : FitsSigned w64 c.kept_head.result = search rules in
    let head = simp (c.as_slice.ensures, to_z-of_z, kept) at c.kept_head.ensures in
    let law = c.node.ensures.value ∙ ap (λ (h : Hydraulics). node_law_at h n) c.requires.law ∙ node_law_is project n c.requires.n in
    to_z-of_z w64 _ fits ∙ head ∙ ap (λ (l : NodeLaw). kept_head l (number heads n)) law
    ∙ sym (ap (λ (hot : Option HotState). head_from project hot (opening_level c.args.start.now n) n) c.in-Some.is)
