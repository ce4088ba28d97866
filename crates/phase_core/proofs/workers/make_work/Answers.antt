use Rattle.std.proofs.Common.{◌≡◌, ℕ, subst, arith}
use Rattle.phase_machine.specs.declared.acts.Act.{Act}
use Rattle.phase_machine.specs.Core.{seat_of}
use Rattle.phase_machine.specs.Steps.{CanWork}
use Rattle.phase_core.proofs.ReadyLemmas.{link_acts, node_acts, input_acts, end_acts}
use Rattle.phase_core.proofs.workers.make_work.Goals as goal

pub add_first-requires-clause-ready : goal.add_first-requires-clause-ready
add_first-requires-clause-ready g c =
    let law = g.P.PhaseLaw.law c.args.law.now in
    let w = seat_of c.args.state.now c.args.seat in
    let can = subst (λ (a : Act). CanWork law w a) c.in-AddFirst.is c.requires.can in
    link_acts c.requires.ready c.args.seat c.requires.seat c.requires.phase 9 (omega arith) can

pub add_second-requires-clause-ready : goal.add_second-requires-clause-ready
add_second-requires-clause-ready g c =
    let law = g.P.PhaseLaw.law c.args.law.now in
    let w = seat_of c.args.state.now c.args.seat in
    let can = subst (λ (a : Act). CanWork law w a) c.in-AddSecond.is c.requires.can in
    link_acts c.requires.ready c.args.seat c.requires.seat c.requires.phase 10 (omega arith) can

pub add_area_first-requires-clause-ready : goal.add_area_first-requires-clause-ready
add_area_first-requires-clause-ready g c =
    let law = g.P.PhaseLaw.law c.args.law.now in
    let w = seat_of c.args.state.now c.args.seat in
    let can = subst (λ (a : Act). CanWork law w a) c.in-AddAreaFirst.is c.requires.can in
    link_acts c.requires.ready c.args.seat c.requires.seat c.requires.phase 11 (omega arith) can

pub add_area_second-requires-clause-ready : goal.add_area_second-requires-clause-ready
add_area_second-requires-clause-ready g c =
    let law = g.P.PhaseLaw.law c.args.law.now in
    let w = seat_of c.args.state.now c.args.seat in
    let can = subst (λ (a : Act). CanWork law w a) c.in-AddAreaSecond.is c.requires.can in
    link_acts c.requires.ready c.args.seat c.requires.seat c.requires.phase 12 (omega arith) can

pub offer_time-requires-clause-ready : goal.offer_time-requires-clause-ready
offer_time-requires-clause-ready g c =
    let law = g.P.PhaseLaw.law c.args.law.now in
    let w = seat_of c.args.state.now c.args.seat in
    let can = subst (λ (a : Act). CanWork law w a) c.in-OfferTime.is c.requires.can in
    link_acts c.requires.ready c.args.seat c.requires.seat c.requires.phase 13 (omega arith) can

pub put_flow-requires-clause-ready : goal.put_flow-requires-clause-ready
put_flow-requires-clause-ready g c =
    let law = g.P.PhaseLaw.law c.args.law.now in
    let w = seat_of c.args.state.now c.args.seat in
    let can = subst (λ (a : Act). CanWork law w a) c.in-PutFlow.is c.requires.can in
    link_acts c.requires.ready c.args.seat c.requires.seat c.requires.phase 14 (omega arith) can

pub put_head-requires-clause-ready : goal.put_head-requires-clause-ready
put_head-requires-clause-ready g c =
    let law = g.P.PhaseLaw.law c.args.law.now in
    let w = seat_of c.args.state.now c.args.seat in
    let can = subst (λ (a : Act). CanWork law w a) c.in-PutHead.is c.requires.can in
    node_acts c.requires.ready c.args.seat c.requires.seat c.requires.phase 11 (omega arith) can

pub mark_unsettled-requires-clause-ready : goal.mark_unsettled-requires-clause-ready
mark_unsettled-requires-clause-ready g c =
    let law = g.P.PhaseLaw.law c.args.law.now in
    let w = seat_of c.args.state.now c.args.seat in
    let can = subst (λ (a : Act). CanWork law w a) c.in-MarkUnsettled.is c.requires.can in
    node_acts c.requires.ready c.args.seat c.requires.seat c.requires.phase 12 (omega arith) can.0

pub end_item-requires-clause-ready : goal.end_item-requires-clause-ready
end_item-requires-clause-ready g c =
    let law = g.P.PhaseLaw.law c.args.law.now in
    let w = seat_of c.args.state.now c.args.seat in
    let can = subst (λ (a : Act). CanWork law w a) c.in-Done.is c.requires.can in
    end_acts c.requires.ready c.args.seat c.requires.seat can.0
