use Rattle.std.proofs.Common.{◌+◌, arith}
use Rattle.phase_machine.specs.Items.{node_input}
use Rattle.phase_machine.specs.Places.{written, other}
use Rattle.node_board.specs.Shows.{work_of}
use Rattle.node_board.proofs.LoadLemmas.{node_loads_next}
use Rattle.node_board.proofs.Calls.{input_is}
use Rattle.node_board.proofs.board.Board.load_node_first.Goals as goal

pub load_plain-requires-clause-next : goal.load_plain-requires-clause-next
load_plain-requires-clause-next g c =
    node_loads_next (g.met.P.PhaseLaw.good c.args.self.now.law) (work_of c.args.seat.now.view) 5 (omega arith)
    _ c.node_input-word.result c.requires.at.item c.requires.at
    (input_is g.P.PhaseLaw.law (λ law tag item. node_input law (other (written tag)) item 5 + 1) c.self.view_is c.seat.view_is
    c.seat.inside.phase c.seat.inside.item c.seat.invariant.2 c.seat.invariant.3 c.node_input-word.result c.node_input-word.ensures)
