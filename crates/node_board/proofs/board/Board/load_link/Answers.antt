use Rattle.std.proofs.Common.{rules, ◌≡◌, sym, subst}
use Rattle.phase_machine.specs.Items.{share_at}
use Rattle.node_board.specs.declared.inputs.LinkInput.{LinkInput}
use Rattle.node_board.specs.Shows.{work_of}
use Rattle.node_board.proofs.FurtherLemmas.{share_of_input}
use Rattle.node_board.proofs.board.Board.load_link.Goals as goal

pub returns-clause-share : goal.returns-clause-share
returns-clause-share g c =
    let law = g.P.PhaseLaw.law c.args.self.now.law in
    let w = work_of c.load_link_number-last.new.seat.view in
    subst (λ (i : LinkInput). share_at law w ≡ law.share w.item i.fixed i.first i.near i.far i.last)
    (sym (search rules)) (share_of_input law w)
