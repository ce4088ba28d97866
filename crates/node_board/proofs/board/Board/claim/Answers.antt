use Rattle.std.proofs.Common.{subst}
use Rattle.node_board.specs.Claims.{NamesItem}
use Rattle.node_board.specs.Seen.{BoardSeen}
use Rattle.node_board.proofs.ClaimCalls.{took_steps}
use Rattle.node_board.proofs.board.Board.claim.Goals as goal

pub returns-then-names_item-clause-steps : goal.returns-then-names_item-clause-steps
returns-then-names_item-clause-steps g c =
    took_steps (g.P.PhaseLaw.law c.args.self.now.law) c.args.seat.now.view c.look-seen.new.seat.view
    c.take_next-found.new.seat.view c.look-seen.result c.take_next-found.result
    (subst (λ (b : BoardSeen g.row.P.Denot). NamesItem (g.P.PhaseLaw.law b.law) c.look-seen.result) c.self.view_is
    (c.names_item.ensures.0 c.if-names_item.true))
    c.look-seen.ensures.view c.take_next-found.ensures.view
