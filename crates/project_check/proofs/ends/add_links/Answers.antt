use Rattle.std.proofs.Common.{◌∙◌, ap, sym, arith}
use Rattle.project_check.specs.declared.ends.NodeEnds.{NodeEnds}
use Rattle.project_check.specs.Ends.{with_link}
use Rattle.project_check.proofs.EndsLemmas.{none_yet, ends_next, few_ends, few_begins}
use Rattle.project_check.proofs.ends.add_links.Goals as goal

pub loop-link-init : goal.loop-link-init
loop-link-init c n = c.requires.empty n ∙ none_yet n

pub add_link-requires-clause-few : goal.add_link-requires-clause-few
add_link-requires-clause-few c n =
    let few = few_ends c.args.links.now c.loop-link.link-index n in
    omega (arith, few, ap (λ (e : NodeEnds). e.ends) (c.loop-link.invariant n), c.requires.few)

pub add_link-requires-clause-begins : goal.add_link-requires-clause-begins
add_link-requires-clause-begins c n =
    let few = few_begins c.args.links.now c.loop-link.link-index n in
    omega (arith, few, ap (λ (e : NodeEnds). e.begins) (c.loop-link.invariant n), c.requires.few)

pub loop-link-preserved : goal.loop-link-preserved
loop-link-preserved c n =
    let next = sym (ends_next c.args.links.now c.loop-link.link-index c.link-item.result n c.loop-link-test.true c.link-item.is) in
    c.add_link.ensures n ∙ (ap (λ (e : NodeEnds). with_link e c.link-item.result n) (c.loop-link.invariant n) ∙ next)
