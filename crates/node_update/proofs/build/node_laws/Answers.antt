use Rattle.std.proofs.Common.{◌≡◌, ◌∙◌, List, [], ◌∷◌, ◌++◌, length, ap, sym, arith}
use Rattle.std.proofs.lemmas.List.FromFn.{map-range_with_len_more}
use Rattle.std.proofs.lemmas.List.Elements.{All-push}
use Rattle.fixed_num.specs.Lists.{list_of}
use Rattle.net_types.specs.declared.network.Node.{Node}
use Rattle.node_update.specs.NodeLaws.{IsNodeLaw, node_law_of}
use Rattle.node_update.specs.declared.node_law.NodeLaw.{NodeLaw as Law}
use Rattle.node_update.proofs.build.node_laws.Goals as goal

pub loop-n-preserved : goal.loop-n-preserved
loop-n-preserved c =
    let n = c.loop-n.n in
    let project = c.args.project.now in
    let more = map-range_with_len_more (node_law_of project) 0 n n (omega arith) in
    record {
      made = c.in_ok-push.ensures.ok ∙ (ap (λ (l : List Law). l ++ c.in_ok-law_at.field-0 ∷ []) c.loop-n.invariant.made ∙ (ap (λ (x : Law). list_of (node_law_of project) n ++ x ∷ []) c.in_ok-law_at.ensures.value ∙ sym more));
      range = rw c.in_ok-push.ensures.ok (All-push IsNodeLaw c.loop-n.laws c.in_ok-law_at.field-0 c.loop-n.invariant.range c.in_ok-law_at.ensures.range);
    }
