use Rattle.std.proofs.Common.{◌≡◌, ℕ, ◌+◌, ◌∙◌, ap, subst, w64}
use Rattle.std.proofs.lemmas.Int.{to_z-of_z}
use Rattle.phase_machine.specs.Places.{node_place, written}
use Rattle.node_board.specs.Seen.{BoardSeen, SeatSeen, plan_of}
use Rattle.node_board.proofs.ReadLemmas.{told_head, read_head_is}
use Rattle.node_board.proofs.board.Board.read_head.Goals as goal

pub read-requires-clause-told : goal.read-requires-clause-told
read-requires-clause-told g c =
    let law = g.P.PhaseLaw.law c.args.self.now.law in
    let phase = c.lead.invariant.2 ∙ ap (λ (y : SeatSeen g.row.P.Denot). (plan_of y.view).phase) c.lead.view_is in
    told_head law (plan_of c.args.lead.now.view) c.node_word-word.result c.args.node c.requires.node
    (subst (λ (b : BoardSeen g.row.P.Denot). c.node_word-word.result ≡ node_place (g.P.PhaseLaw.law b.law) c.args.node (5 + c.written_buffer.result) + 1)
    c.self.view_is c.node_word-word.ensures
    ∙ ap (λ (b : ℕ). node_place law c.args.node (5 + b) + 1) (c.written_buffer.ensures.value ∙ ap written phase))

pub returns-clause-head : goal.returns-clause-head
returns-clause-head g c =
    let law = g.P.PhaseLaw.law c.args.self.now.law in
    let phase = c.lead.invariant.2 ∙ ap (λ (y : SeatSeen g.row.P.Denot). (plan_of y.view).phase) c.lead.view_is in
    to_z-of_z w64 c.signed_number.result (record { sfits = c.signed_number.type_inv })
    ∙ c.signed_number.ensures
    ∙ read_head_is law (plan_of c.args.lead.now.view) c.node_word-word.result c.args.node c.requires.node
    (subst (λ (b : BoardSeen g.row.P.Denot). c.node_word-word.result ≡ node_place (g.P.PhaseLaw.law b.law) c.args.node (5 + c.written_buffer.result) + 1)
    c.self.view_is c.node_word-word.ensures
    ∙ ap (λ (b : ℕ). node_place law c.args.node (5 + b) + 1) (c.written_buffer.ensures.value ∙ ap written phase))
    c.read.result c.read.ensures.tells
