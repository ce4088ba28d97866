use Rattle.node_board.specs.Known.{unsettled}
use Rattle.node_board.proofs.board.Board.unsettled.Goals as goal

pub read-requires-clause-told : goal.read-requires-clause-told
read-requires-clause-told g c = unsettled
