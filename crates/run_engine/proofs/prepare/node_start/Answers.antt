use Rattle.std.proofs.Common.{arith, rules, ◌∙◌, refl, FitsSigned, w64}
use Rattle.std.proofs.lemmas.Int.{to_z-of_z}
use Rattle.fixed_num.proofs.Bounds.{fits64}
use Rattle.trial_model.specs.Fits.{node_fixed_at}
use Rattle.fixed_num.specs.Lists.{number}
use Rattle.run_engine.proofs.OpeningLemmas.{laterals_count, laterals_in, laterals_number}
use Rattle.run_engine.proofs.PreparedLemmas.{gross_within, net_within, same_node}
use Rattle.run_engine.proofs.prepare.node_start.Goals as goal

pub overflow_sub-result : goal.overflow_sub-result
overflow_sub-result c =
    let n = c.args.n in
    let i = c.requires.inflows.each n c.requires.n in
    let o = c.requires.outflows.each n c.requires.n in
    let lateral : FitsSigned w64 (node_fixed_at c.args.nodes.now n).lateral = search rules in
    let inflow : FitsSigned w64 (number c.args.inflows.now n) = search rules in
    let outflow : FitsSigned w64 (number c.args.outflows.now n) = search rules in
    simp (to_z-of_z, lateral, inflow, outflow, fits64 (gross_within c.requires.last i) tt) (fits64 (net_within c.requires.last i o) tt)

pub lateral_here-requires-clause-n : goal.lateral_here-requires-clause-n
lateral_here-requires-clause-n c = omega (arith, c.requires.n, laterals_count c.args.start.now c.args.finish c.requires.laterals)

pub lateral_here-requires-clause-flow : goal.lateral_here-requires-clause-flow
lateral_here-requires-clause-flow c = laterals_in c.args.start.now c.args.finish c.args.n c.requires.n c.requires.laterals

pub returns : goal.returns
returns c =
    let n = c.args.n in
    let i = c.requires.inflows.each n c.requires.n in
    let o = c.requires.outflows.each n c.requires.n in
    let head : FitsSigned w64 (number c.args.heads.now n) = search rules in
    let lateral : FitsSigned w64 (node_fixed_at c.args.nodes.now n).lateral = search rules in
    let inflow : FitsSigned w64 (number c.args.inflows.now n) = search rules in
    let outflow : FitsSigned w64 (number c.args.outflows.now n) = search rules in
    let next : FitsSigned w64 c.lateral_here.result = search rules in
    let stage : FitsSigned w64 c.node_stage.result = search rules in
    same_node
    (to_z-of_z w64 _ head)
    (simp (to_z-of_z, lateral, inflow, outflow, fits64 (gross_within c.requires.last i) tt, fits64 (net_within c.requires.last i o) tt) refl)
    (to_z-of_z w64 _ next ∙ c.lateral_here.ensures ∙ laterals_number c.args.start.now c.args.finish n c.requires.n c.requires.laterals)
    (to_z-of_z w64 _ stage ∙ (simp (to_z-of_z, c.ranges.finish) at c.node_stage.ensures.value))
    (to_z-of_z w64 _ c.ranges.dt)
