use Rattle.std.proofs.Common.{rules, ◌≡◌, sym, subst}
use Rattle.phase_machine.specs.Items.{next_at}
use Rattle.node_board.specs.declared.inputs.NodeInput.{NodeInput}
use Rattle.node_board.specs.Shows.{work_of}
use Rattle.node_board.proofs.FurtherLemmas.{next_of_input}
use Rattle.node_board.proofs.board.Board.load_node.Goals as goal

pub returns-clause-next : goal.returns-clause-next
returns-clause-next g c =
    let law = g.P.PhaseLaw.law c.args.self.now.law in
    let w = work_of c.load_sum-area.new.seat.view in
    subst (λ (i : NodeInput). next_at law w
    ≡ law.next w.item i.fixed i.first i.sums.inflow i.sums.outflow i.sums.area i.last)
    (sym (search rules)) (next_of_input law w)
