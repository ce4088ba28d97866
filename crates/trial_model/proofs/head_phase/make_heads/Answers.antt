use Rattle.std.proofs.Common.{pos, arith, ◌∙◌}
use Rattle.std.proofs.lemmas.List.FromFn.{fill_by_all}
use Rattle.trial_model.specs.Trial.{next_of}
use Rattle.trial_model.proofs.head_phase.make_heads.Goals as goal

pub returns-clause-heads : goal.returns-clause-heads
returns-clause-heads g c =
    let law = g.P.PhaseLaw.law c.args.law.now in
    let next = next_of law c.args.nodes.now c.args.first c.args.inflows.now c.args.outflows.now c.args.areas.now c.args.read_heads.now in
    fill_by_all
    (λ n. (next n).head)
    c.loop-node.heads
    law.nodes
    (pos 0)
    (c.loop-node.auto.heads ∙ c.requires.heads)
    (λ k h. c.loop-node.invariant.made k (omega (arith, c.nodes-node-end.ensures, c.loop-node-test.false)))
