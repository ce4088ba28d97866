use Rattle.std.proofs.Common.{◌∙◌, ap}
use Rattle.node_board.specs.declared.views.View.{View}
use Rattle.node_board.specs.Plays.{trial_of, unsettled_of}
use Rattle.node_board.specs.Seen.{plan_of}
use Rattle.node_board.proofs.OpenLemmas.{trial_next, unsettled_next, nodes_view}
use Rattle.node_board.proofs.board.Board.open_nodes.Goals as goal

pub returns-clause-view : goal.returns-clause-view
returns-clause-view g c =
    nodes_view (g.P.PhaseLaw.law c.args.self.now.law) c.args.lead.now.view c.reset_all.new.lead.view c.begin_nodes.new.lead.view
    c.reset_all.ensures.view c.begin_nodes.ensures.view

pub returns-clause-trial : goal.returns-clause-trial
returns-clause-trial g c =
    let law = g.P.PhaseLaw.law c.args.self.now.law in
    let plan = plan_of c.args.lead.now.view in
    ap (λ (v : View g.row.P.Denot). trial_of law (plan_of v).opened (plan_of v).phase) (returns-clause-view g c)
    ∙ trial_next law plan.opened plan.phase c.requires.odd

pub returns-clause-unsettled : goal.returns-clause-unsettled
returns-clause-unsettled g c =
    let law = g.P.PhaseLaw.law c.args.self.now.law in
    let plan = plan_of c.args.lead.now.view in
    ap (λ (v : View g.row.P.Denot). unsettled_of law (plan_of v).opened (plan_of v).phase) (returns-clause-view g c)
    ∙ unsettled_next law plan.opened plan.phase c.requires.odd
