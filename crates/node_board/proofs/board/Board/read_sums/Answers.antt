use Rattle.std.proofs.Common.{◌∙◌, ap, w64}
use Rattle.std.proofs.lemmas.Int.{to_z-of_z}
use Rattle.fixed_num.specs.Lists.{number}
use Rattle.phase_machine.specs.Places.{node_place}
use Rattle.node_board.specs.Seen.{SeatSeen, plan_of}
use Rattle.node_board.proofs.ReadLemmas.{inflow_known, outflow_known, area_known}
use Rattle.node_board.proofs.board.Board.read_sums.Goals as goal

pub returns-clause-inflow : goal.returns-clause-inflow
returns-clause-inflow g c =
    to_z-of_z w64 c.read_sum-inflow.result (record { sfits = c.read_sum-inflow.type_inv })
    ∙ c.read_sum-inflow.ensures.sum
    ∙ inflow_known (g.P.PhaseLaw.law c.args.self.now.law) (plan_of c.args.lead.now.view) c.args.node c.requires.node

pub returns-clause-outflow : goal.returns-clause-outflow
returns-clause-outflow g c =
    let law = g.P.PhaseLaw.law c.args.self.now.law in
    to_z-of_z w64 c.read_sum-outflow.result (record { sfits = c.read_sum-outflow.type_inv })
    ∙ c.read_sum-outflow.ensures.sum
    ∙ ap (λ (y : SeatSeen g.row.P.Denot). number (plan_of y.view).known (node_place law c.args.node 8)) c.read_sum-inflow.ensures.same
    ∙ outflow_known law (plan_of c.args.lead.now.view) c.args.node c.requires.node

pub returns-clause-area : goal.returns-clause-area
returns-clause-area g c =
    let law = g.P.PhaseLaw.law c.args.self.now.law in
    to_z-of_z w64 c.read_sum-area.result (record { sfits = c.read_sum-area.type_inv })
    ∙ c.read_sum-area.ensures.sum
    ∙ ap (λ (y : SeatSeen g.row.P.Denot). number (plan_of y.view).known (node_place law c.args.node 9))
    (c.read_sum-outflow.ensures.same ∙ c.read_sum-inflow.ensures.same)
    ∙ area_known law (plan_of c.args.lead.now.view) c.args.node c.requires.node
