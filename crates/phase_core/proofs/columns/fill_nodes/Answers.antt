use Rattle.std.proofs.Common.{rules, ◌≡◌, ℕ, ◌<◌, FitsSigned, w64, ap, ◌∙◌, arith, pos}
use Rattle.std.proofs.lemmas.Int.{to_z-of_z}
use Rattle.fixed_num.specs.Lists.{number}
use Rattle.phase_machine.specs.Places.{node_place}
use Rattle.phase_core.proofs.ColumnLemmas.{filled_more}
use Rattle.phase_core.proofs.columns.fill_nodes.Goals as goal

pub loop-node-preserved : goal.loop-node-preserved
loop-node-preserved g c =
    let fits : FitsSigned w64 c.word_at.result = search rules in
    filled_more
    (λ (j : ℕ). number c.args.words.now (node_place (g.P.PhaseLaw.law c.args.law.now) j c.args.k))
    c.loop-node.to
    c.loop-node.node
    (pos 0)
    _
    (omega arith)
    (to_z-of_z w64 _ fits ∙ c.word_at.ensures ∙ ap (λ (p : ℕ). number c.args.words.now p) c.node_place.ensures)
    c.loop-node.invariant
