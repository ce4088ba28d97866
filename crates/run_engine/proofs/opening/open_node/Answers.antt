use Rattle.std.proofs.Common.{pos, arith, rules, ◌∙◌, refl, FitsSigned, w64}
use Rattle.std.proofs.lemmas.Int.{to_z-of_z}
use Rattle.run_engine.proofs.OpeningLemmas.{laterals_count, laterals_in, laterals_number}
use Rattle.run_engine.proofs.PreparedLemmas.{same_node}
use Rattle.run_engine.proofs.RunLemmas.{run_start}
use Rattle.run_engine.proofs.opening.open_node.Goals as goal

pub lateral_here-requires-clause-n : goal.lateral_here-requires-clause-n
lateral_here-requires-clause-n c = omega (arith, c.requires.n, laterals_count c.args.start.now (pos 0) c.requires.laterals)

pub lateral_here-requires-clause-flow : goal.lateral_here-requires-clause-flow
lateral_here-requires-clause-flow c = laterals_in c.args.start.now (pos 0) c.args.n c.requires.n c.requires.laterals

pub node_stage-requires-clause-calendar : goal.node_stage-requires-clause-calendar
node_stage-requires-clause-calendar c = run_start c.args.start.now.project c.requires.project

pub returns : goal.returns
returns c =
    let next : FitsSigned w64 c.lateral_here.result = search rules in
    let stage : FitsSigned w64 c.node_stage.result = search rules in
    same_node refl refl
    (to_z-of_z w64 _ next ∙ c.lateral_here.ensures ∙ laterals_number c.args.start.now (pos 0) c.args.n c.requires.n c.requires.laterals)
    (to_z-of_z w64 _ stage ∙ c.node_stage.ensures.value)
    refl
