use Rattle.std.proofs.Common.{rules, ◌≡◌, ◌∙◌, ap}
use Rattle.phase_machine.specs.Places.{written}
use Rattle.phase_machine.proofs.PlaceLemmas.{written_few}
use Rattle.node_board.specs.declared.views.View.{View}
use Rattle.node_board.specs.Known.{state_in, at_known, with_node}
use Rattle.node_board.specs.Seen.{plan_of}
use Rattle.node_board.proofs.SetLemmas.{node_state}
use Rattle.node_board.proofs.board.Board.set_node.Goals as goal

pub returns-clause-state : goal.returns-clause-state
returns-clause-state g c =
    let law = g.P.PhaseLaw.law c.args.self.now.law in
    let old = c.args.lead.now.view in
    let plan = plan_of old in
    let view : c.set_head.new.lead.view
    ≡ at_known old (with_node law (written plan.phase) c.args.node c.args.fixed.now c.args.head plan.known) = search rules in
    ap (λ (v : View g.row.P.Denot). state_in law (plan_of v)) view
    ∙ node_state law (written plan.phase) c.args.node c.args.fixed.now c.args.head plan.known (written_few plan.phase)
    c.requires.node c.set_node_word.ensures.size
