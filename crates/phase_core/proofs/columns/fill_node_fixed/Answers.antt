use Rattle.std.proofs.Common.{rules, ◌≡◌, ℕ, ◌<◌, FitsSigned, w64, ap, ◌∙◌, arith, pos}
use Rattle.std.proofs.lemmas.Int.{to_z-of_z}
use Rattle.trial_model.specs.Start.{no_node}
use Rattle.phase_machine.specs.Places.{node_fixed_in}
use Rattle.phase_core.proofs.ColumnLemmas.{filled_more}
use Rattle.phase_core.proofs.columns.fill_node_fixed.Goals as goal

pub loop-node-preserved : goal.loop-node-preserved
loop-node-preserved g c =
    filled_more (node_fixed_in (g.P.PhaseLaw.law c.args.law.now) c.args.words.now) c.loop-node.to c.loop-node.node no_node _ (omega arith) c.node_fixed.ensures c.loop-node.invariant
