use Rattle.std.proofs.Common.{◌≡◌, ℕ, ◌+◌, ◌-◌, slice_set, ◌∙◌, ap, arith}
use Rattle.std.proofs.lemmas.Int.{to_z-of_z}
use Rattle.phase_machine.specs.Places.{link_place, written}
use Rattle.node_board.specs.Known.{at_known}
use Rattle.node_board.specs.Seen.{SeatSeen, plan_of}
use Rattle.node_board.proofs.SetLemmas.{flow_link}
use Rattle.node_board.proofs.board.Board.set_flow.Goals as goal

pub set_signed-requires-clause-can : goal.set_signed-requires-clause-can
set_signed-requires-clause-can g c =
    let phase = c.lead.invariant.2 ∙ ap (λ (y : SeatSeen g.row.P.Denot). (plan_of y.view).phase) c.lead.view_is in
    simp (to_z-of_z, c.ranges.flow)
    (flow_link (g.met.P.PhaseLaw.good c.args.self.now.law) (plan_of c.args.lead.now.view) c.requires.rests c.requires.even
    c.args.link c.link_word-word.result c.args.flow c.requires.link c.requires.range
    (c.link_word-word.ensures
    ∙ ap (λ (b : ℕ). link_place c.args.link (4 + b) + 1) (c.written_buffer.ensures.value ∙ ap written phase)))

pub returns-clause-view : goal.returns-clause-view
returns-clause-view g c =
    let phase = c.lead.invariant.2 ∙ ap (λ (y : SeatSeen g.row.P.Denot). (plan_of y.view).phase) c.lead.view_is in
    let is =
    c.link_word-word.ensures
    ∙ ap (λ (b : ℕ). link_place c.args.link (4 + b) + 1) (c.written_buffer.ensures.value ∙ ap written phase) in
    let at : c.link_word-word.result - 1 ≡ link_place c.args.link (4 + written (plan_of c.args.lead.now.view).phase) = omega (arith, is) in
    (simp (to_z-of_z, c.ranges.flow) at c.set_signed.ensures.view)
    ∙ ap (λ (j : ℕ). at_known c.args.lead.now.view (slice_set (plan_of c.args.lead.now.view).known j c.args.flow)) at
