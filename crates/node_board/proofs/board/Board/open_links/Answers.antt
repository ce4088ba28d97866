use Rattle.std.proofs.Common.{◌∙◌, ap}
use Rattle.phase_machine.specs.Kept.{with_links}
use Rattle.node_board.specs.declared.views.View.{View}
use Rattle.node_board.specs.Plays.{trial_of, unsettled_of}
use Rattle.node_board.specs.Seen.{plan_of}
use Rattle.node_board.proofs.OpenLemmas.{opened_flows, opened_trial, opened_unsettled, links_view}
use Rattle.node_board.proofs.board.Board.open_links.Goals as goal

pub returns-clause-view : goal.returns-clause-view
returns-clause-view g c =
    links_view (g.P.PhaseLaw.law c.args.self.now.law) c.args.first c.args.lead.now.view c.set_first.new.lead.view
    c.reset_all.new.lead.view c.begin_links.new.lead.view
    c.set_first.ensures.view c.reset_all.ensures.view c.begin_links.ensures.view

pub returns-clause-flows : goal.returns-clause-flows
returns-clause-flows g c =
    let law = g.P.PhaseLaw.law c.args.self.now.law in
    ap (λ (v : View g.row.P.Denot). with_links law (plan_of v).opened (plan_of v).phase) (returns-clause-view g c)
    ∙ opened_flows law c.args.first (plan_of c.args.lead.now.view) c.requires.even c.set_first.ensures.size

pub returns-clause-trial : goal.returns-clause-trial
returns-clause-trial g c =
    let law = g.P.PhaseLaw.law c.args.self.now.law in
    ap (λ (v : View g.row.P.Denot). trial_of law (plan_of v).opened (plan_of v).phase) (returns-clause-view g c)
    ∙ opened_trial law c.args.first (plan_of c.args.lead.now.view) c.requires.even c.set_first.ensures.size

pub returns-clause-unsettled : goal.returns-clause-unsettled
returns-clause-unsettled g c =
    let law = g.P.PhaseLaw.law c.args.self.now.law in
    ap (λ (v : View g.row.P.Denot). unsettled_of law (plan_of v).opened (plan_of v).phase) (returns-clause-view g c)
    ∙ opened_unsettled law c.args.first (plan_of c.args.lead.now.view) c.requires.even c.set_first.ensures.size
