use Rattle.std.proofs.Common.{◌∙◌, length, ap, arith, rules, FitsSigned, w64}
use Rattle.std.proofs.lemmas.Int.{to_z-of_z}
use Rattle.std.proofs.lemmas.List.FromFn.{length-map-range_with_len}
use Rattle.fixed_num.specs.Lists.{number}
use Rattle.phase_law.specs.declared.values.NodeNext.{NodeNext}
use Rattle.run_engine.specs.States.{opening_inflow, opening_node, opening_outflow}
use Rattle.run_engine.proofs.OpeningLemmas.{fixed_at, inflow_at, outflow_at}
use Rattle.run_engine.proofs.OpeningLemmas.{opened_fixed, opened_last, opened_level_is, opened_place, opened_sums}
use Rattle.run_engine.proofs.opening.open_level.Goals as goal

pub bounds-nodes-place : goal.bounds-nodes-place
bounds-nodes-place c = omega (arith, c.requires.n, ap length c.requires.nodes, length-map-range_with_len (opening_node c.args.start.now) 0 (length c.args.start.now.project.nodes))

pub bounds-inflows-place : goal.bounds-inflows-place
bounds-inflows-place c = omega (arith, c.requires.n, ap length c.requires.inflows, length-map-range_with_len (opening_inflow c.args.start.now) 0 (length c.args.start.now.project.nodes))

pub bounds-outflows-place : goal.bounds-outflows-place
bounds-outflows-place c = omega (arith, c.requires.n, ap length c.requires.outflows, length-map-range_with_len (opening_outflow c.args.start.now) 0 (length c.args.start.now.project.nodes))

pub node_next-requires-clause-node : goal.node_next-requires-clause-node
node_next-requires-clause-node c = opened_place c.args.start.now c.args.law.now.hydraulics c.requires.law c.args.law.now.good c.requires.project c.requires.hot c.args.n c.requires.n

pub node_next-requires-clause-fixed : goal.node_next-requires-clause-fixed
node_next-requires-clause-fixed c =
    opened_fixed c.args.start.now c.args.law.now.hydraulics c.requires.law c.args.law.now.good c.requires.project c.requires.hot c.args.n c.requires.n
    (fixed_at c.args.start.now c.args.n c.requires.n c.requires.nodes)

pub node_next-requires-clause-sums : goal.node_next-requires-clause-sums
node_next-requires-clause-sums c =
    let start = c.args.start.now in
    let i : FitsSigned w64 (number c.args.inflows.now c.args.n) = search rules in
    let o : FitsSigned w64 (number c.args.outflows.now c.args.n) = search rules in
    simp (to_z-of_z, i, o)
    (opened_sums start c.args.law.now.hydraulics c.requires.law c.args.law.now.good c.requires.project c.requires.hot c.args.n c.requires.n
    (inflow_at start c.args.n c.requires.n c.requires.inflows) (outflow_at start c.args.n c.requires.n c.requires.outflows))

pub node_next-requires-clause-last : goal.node_next-requires-clause-last
node_next-requires-clause-last c = opened_last c.args.start.now c.args.law.now.hydraulics c.requires.law c.args.law.now.good c.requires.project c.requires.hot c.args.n c.requires.n

pub returns : goal.returns
returns c =
    let start = c.args.start.now in
    let i : FitsSigned w64 (number c.args.inflows.now c.args.n) = search rules in
    let o : FitsSigned w64 (number c.args.outflows.now c.args.n) = search rules in
    let r : FitsSigned w64 c.node_next.result.head = search rules in
    let next = simp (to_z-of_z, i, o) at c.node_next.ensures in
    simp (to_z-of_z, r)
    (ap (λ (x : NodeNext). x.head) next
    ∙ opened_level_is start c.args.law.now.hydraulics c.requires.law c.args.law.now.good c.requires.project c.requires.hot c.args.n c.requires.n
    (fixed_at start c.args.n c.requires.n c.requires.nodes)
    (inflow_at start c.args.n c.requires.n c.requires.inflows) (outflow_at start c.args.n c.requires.n c.requires.outflows))
