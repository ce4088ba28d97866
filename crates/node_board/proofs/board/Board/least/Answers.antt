use Rattle.std.proofs.Common.{◌≡◌, ◌+◌, ◌∙◌, subst, w64}
use Rattle.std.proofs.lemmas.Int.{to_z-of_z}
use Rattle.phase_machine.specs.Places.{least_place}
use Rattle.node_board.specs.Seen.{BoardSeen, plan_of}
use Rattle.node_board.proofs.ReadLemmas.{told_least, read_least_is}
use Rattle.node_board.proofs.board.Board.least.Goals as goal

pub read-requires-clause-told : goal.read-requires-clause-told
read-requires-clause-told g c =
    told_least (g.P.PhaseLaw.law c.args.self.now.law) (plan_of c.args.lead.now.view) c.least_word-word.result
    (subst (λ (b : BoardSeen g.row.P.Denot). c.least_word-word.result ≡ least_place (g.P.PhaseLaw.law b.law) + 1) c.self.view_is c.least_word-word.ensures)

pub returns-clause-least : goal.returns-clause-least
returns-clause-least g c =
    to_z-of_z w64 c.amount.result (record { sfits = c.amount.type_inv })
    ∙ c.amount.ensures
    ∙ read_least_is (g.P.PhaseLaw.law c.args.self.now.law) (plan_of c.args.lead.now.view) c.least_word-word.result
    (subst (λ (b : BoardSeen g.row.P.Denot). c.least_word-word.result ≡ least_place (g.P.PhaseLaw.law b.law) + 1) c.self.view_is c.least_word-word.ensures)
    c.read.result c.read.ensures.tells
