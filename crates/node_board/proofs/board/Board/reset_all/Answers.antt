use Rattle.std.proofs.Common.{◌≡◌, ℕ, ◌+◌, ◌<◌, ℤ, List, ◌∙◌, ap, sym, subst, arith}
use Rattle.phase_machine.specs.Steps.{reset_count}
use Rattle.node_board.specs.declared.views.View.{View}
use Rattle.node_board.specs.Known.{reset_words}
use Rattle.node_board.specs.Plays.{at_plan, reset_once}
use Rattle.node_board.specs.Seen.{BoardSeen, SeatSeen, IsLead, plan_of}
use Rattle.node_board.specs.Steps.{Rests}
use Rattle.node_board.proofs.LeadCalls.{lead_view}
use Rattle.node_board.proofs.OpenLemmas.{reset_more}
use Rattle.node_board.proofs.board.Board.reset_all.Goals as goal

pub loop-reset-init : goal.loop-reset-init
loop-reset-init g c =
    let old = c.args.lead.now.view in
    let leads = subst (λ (y : SeatSeen g.row.P.Denot). IsLead y.view.role) c.lead.view_is c.lead.invariant.1 in
    record {
      most = omega arith;
      from = c.requires.from;
      view =
          lead_view old leads
          ∙ ap (λ (r : ℕ). at_plan old (record (plan_of old) { resets = r })) c.requires.fresh;
    }

pub reset-requires-clause-rests : goal.reset-requires-clause-rests
reset-requires-clause-rests g c =
    subst (λ (v : View g.row.P.Denot). Rests (plan_of v)) (sym c.loop-reset.invariant.view) c.requires.rests

pub reset-requires-clause-next : goal.reset-requires-clause-next
reset-requires-clause-next g c =
    ap (λ (v : View g.row.P.Denot). (plan_of v).resets) c.loop-reset.invariant.view

pub reset-requires-clause-left : goal.reset-requires-clause-left
reset-requires-clause-left g c =
    let law = g.P.PhaseLaw.law c.args.self.now.law in
    let all = c.reset_count-reset-end.ensures
    ∙ ap (λ (b : BoardSeen g.row.P.Denot). reset_count (g.P.PhaseLaw.law b.law) c.lead.inside.phase) c.self.view_is
    ∙ ap (λ (p : ℕ). reset_count law p) (c.lead.invariant.2 ∙ ap (λ (y : SeatSeen g.row.P.Denot). (plan_of y.view).phase) c.lead.view_is) in
    let less : c.loop-reset.reset < reset_count law (plan_of c.args.lead.now.view).phase = omega (arith, all, c.loop-reset-test.true) in
    subst (λ (v : View g.row.P.Denot). c.loop-reset.reset < reset_count law (plan_of v).phase) (sym c.loop-reset.invariant.view) less

pub loop-reset-preserved : goal.loop-reset-preserved
loop-reset-preserved g c =
    let law = g.P.PhaseLaw.law c.args.self.now.law in
    let old = c.args.lead.now.view in
    let plan = plan_of old in
    record {
      most = omega (arith, c.loop-reset-test.true);
      from = c.reset.ensures.from;
      view =
          c.reset.ensures.view
          ∙ ap (λ (v : View g.row.P.Denot). at_plan v (reset_once law (plan_of v))) c.loop-reset.invariant.view
          ∙ ap (λ (words : List ℤ). at_plan old (record plan { resets = c.loop-reset.reset + 1; known = words }))
          (reset_more law c.loop-reset.reset plan.known);
    }

pub returns-clause-view : goal.returns-clause-view
returns-clause-view g c =
    let law = g.P.PhaseLaw.law c.args.self.now.law in
    let old = c.args.lead.now.view in
    let plan = plan_of old in
    let all = c.reset_count-reset-end.ensures
    ∙ ap (λ (b : BoardSeen g.row.P.Denot). reset_count (g.P.PhaseLaw.law b.law) c.lead.inside.phase) c.self.view_is
    ∙ ap (λ (p : ℕ). reset_count law p) (c.lead.invariant.2 ∙ ap (λ (y : SeatSeen g.row.P.Denot). (plan_of y.view).phase) c.lead.view_is) in
    let last : c.loop-reset.reset ≡ reset_count law plan.phase = omega (arith, all, c.loop-reset-test.false, c.loop-reset.invariant.most) in
    c.loop-reset.invariant.view
    ∙ ap (λ (r : ℕ). at_plan old (record plan { resets = r; known = reset_words law r plan.known })) last
