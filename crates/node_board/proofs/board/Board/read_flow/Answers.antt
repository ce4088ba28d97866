use Rattle.std.proofs.Common.{ℕ, ◌+◌, ◌∙◌, ap, w64}
use Rattle.std.proofs.lemmas.Int.{to_z-of_z}
use Rattle.phase_machine.specs.Places.{link_place, written}
use Rattle.node_board.specs.Seen.{SeatSeen, plan_of}
use Rattle.node_board.proofs.ReadLemmas.{told_flow, read_flow_is}
use Rattle.node_board.proofs.board.Board.read_flow.Goals as goal

pub read-requires-clause-told : goal.read-requires-clause-told
read-requires-clause-told g c =
    let phase = c.lead.invariant.2 ∙ ap (λ (y : SeatSeen g.row.P.Denot). (plan_of y.view).phase) c.lead.view_is in
    told_flow (g.P.PhaseLaw.law c.args.self.now.law) (plan_of c.args.lead.now.view) c.link_word-word.result c.args.link c.requires.link
    (c.link_word-word.ensures ∙ ap (λ (b : ℕ). link_place c.args.link (4 + b) + 1) (c.written_buffer.ensures.value ∙ ap written phase))

pub returns-clause-flow : goal.returns-clause-flow
returns-clause-flow g c =
    let phase = c.lead.invariant.2 ∙ ap (λ (y : SeatSeen g.row.P.Denot). (plan_of y.view).phase) c.lead.view_is in
    to_z-of_z w64 c.signed_number.result (record { sfits = c.signed_number.type_inv })
    ∙ c.signed_number.ensures
    ∙ read_flow_is (g.P.PhaseLaw.law c.args.self.now.law) (plan_of c.args.lead.now.view) c.link_word-word.result c.args.link c.requires.link
    (c.link_word-word.ensures ∙ ap (λ (b : ℕ). link_place c.args.link (4 + b) + 1) (c.written_buffer.ensures.value ∙ ap written phase))
    c.read.result c.read.ensures.tells
