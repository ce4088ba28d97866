use Rattle.std.proofs.Common.{◌≡◌, ℕ, ◌+◌, ◌-◌, slice_set, ◌∙◌, ap, subst, arith}
use Rattle.std.proofs.lemmas.Int.{to_z-of_z}
use Rattle.phase_machine.specs.Places.{node_place, written}
use Rattle.node_board.specs.Known.{at_known}
use Rattle.node_board.specs.Seen.{BoardSeen, SeatSeen, plan_of}
use Rattle.node_board.proofs.SetLemmas.{head_node}
use Rattle.node_board.proofs.board.Board.set_head.Goals as goal

pub set_signed-requires-clause-can : goal.set_signed-requires-clause-can
set_signed-requires-clause-can g c =
    let law = g.P.PhaseLaw.law c.args.self.now.law in
    let phase = c.lead.invariant.2 ∙ ap (λ (y : SeatSeen g.row.P.Denot). (plan_of y.view).phase) c.lead.view_is in
    simp (to_z-of_z, c.ranges.head)
    (head_node (g.met.P.PhaseLaw.good c.args.self.now.law) (plan_of c.args.lead.now.view) c.requires.rests c.requires.even
    c.args.node c.node_word-word.result c.args.head c.requires.node c.requires.range
    (subst (λ (b : BoardSeen g.row.P.Denot). c.node_word-word.result ≡ node_place (g.P.PhaseLaw.law b.law) c.args.node (5 + c.written_buffer.result) + 1)
    c.self.view_is c.node_word-word.ensures
    ∙ ap (λ (b : ℕ). node_place law c.args.node (5 + b) + 1) (c.written_buffer.ensures.value ∙ ap written phase)))

pub returns-clause-view : goal.returns-clause-view
returns-clause-view g c =
    let law = g.P.PhaseLaw.law c.args.self.now.law in
    let phase = c.lead.invariant.2 ∙ ap (λ (y : SeatSeen g.row.P.Denot). (plan_of y.view).phase) c.lead.view_is in
    let is =
    subst (λ (b : BoardSeen g.row.P.Denot). c.node_word-word.result ≡ node_place (g.P.PhaseLaw.law b.law) c.args.node (5 + c.written_buffer.result) + 1)
    c.self.view_is c.node_word-word.ensures
    ∙ ap (λ (b : ℕ). node_place law c.args.node (5 + b) + 1) (c.written_buffer.ensures.value ∙ ap written phase) in
    let at : c.node_word-word.result - 1 ≡ node_place law c.args.node (5 + written (plan_of c.args.lead.now.view).phase) = omega (arith, is) in
    (simp (to_z-of_z, c.ranges.head) at c.set_signed.ensures.view)
    ∙ ap (λ (j : ℕ). at_known c.args.lead.now.view (slice_set (plan_of c.args.lead.now.view).known j c.args.head)) at
