use Rattle.std.proofs.Common.{◌≡◌, ℕ, ◌+◌, ◌-◌, slice_set, ◌∙◌, ap, subst, arith}
use Rattle.std.proofs.lemmas.Int.{to_z-of_z}
use Rattle.phase_machine.specs.Places.{node_place}
use Rattle.node_board.specs.Known.{at_known}
use Rattle.node_board.specs.Seen.{BoardSeen, plan_of}
use Rattle.node_board.proofs.SetLemmas.{fixed_node}
use Rattle.node_board.proofs.board.Board.set_node_word.Goals as goal

pub set_signed-requires-clause-can : goal.set_signed-requires-clause-can
set_signed-requires-clause-can g c =
    simp (to_z-of_z, c.ranges.value)
    (fixed_node (g.met.P.PhaseLaw.good c.args.self.now.law) (plan_of c.args.lead.now.view) c.requires.rests c.requires.even
    c.args.node c.args.k c.node_word-word.result c.args.value c.requires.node c.requires.few c.requires.range
    (subst (λ (b : BoardSeen g.row.P.Denot). c.node_word-word.result ≡ node_place (g.P.PhaseLaw.law b.law) c.args.node c.args.k + 1)
    c.self.view_is c.node_word-word.ensures))

pub returns-clause-view : goal.returns-clause-view
returns-clause-view g c =
    let is = subst (λ (b : BoardSeen g.row.P.Denot). c.node_word-word.result ≡ node_place (g.P.PhaseLaw.law b.law) c.args.node c.args.k + 1)
    c.self.view_is c.node_word-word.ensures in
    let at : c.node_word-word.result - 1 ≡ node_place (g.P.PhaseLaw.law c.args.self.now.law) c.args.node c.args.k = omega (arith, is) in
    (simp (to_z-of_z, c.ranges.value) at c.set_signed.ensures.view)
    ∙ ap (λ (j : ℕ). at_known c.args.lead.now.view (slice_set (plan_of c.args.lead.now.view).known j c.args.value)) at
