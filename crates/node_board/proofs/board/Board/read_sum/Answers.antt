use Rattle.std.proofs.Common.{◌≡◌, ◌+◌, subst}
use Rattle.phase_machine.specs.Places.{node_place}
use Rattle.node_board.specs.Seen.{BoardSeen, plan_of}
use Rattle.node_board.proofs.ReadLemmas.{told_sum}
use Rattle.node_board.proofs.board.Board.read_sum.Goals as goal

pub read-requires-clause-told : goal.read-requires-clause-told
read-requires-clause-told g c =
    told_sum (g.P.PhaseLaw.law c.args.self.now.law) (plan_of c.args.lead.now.view) c.node_word-word.result c.args.node c.args.sum
    c.requires.node c.requires.sum
    (subst (λ (b : BoardSeen g.row.P.Denot). c.node_word-word.result ≡ node_place (g.P.PhaseLaw.law b.law) c.args.node (7 + c.args.sum) + 1)
    c.self.view_is c.node_word-word.ensures)
