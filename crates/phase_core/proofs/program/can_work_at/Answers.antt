use Rattle.std.proofs.Common.{◌≡◌, ◌<◌, List, length, slice_index_or, ap, ◌∙◌, arith}
use Rattle.std.proofs.lemmas.List.{get_or_read}
use Rattle.phase_machine.specs.declared.work.Work.{Work}
use Rattle.phase_machine.specs.Core.{Core, idle, seat_of}
use Rattle.phase_core.proofs.ReadyLemmas.{asks_of_node}
use Rattle.phase_core.proofs.program.can_work_at.Goals as goal

pub can_work-requires-clause-asks : goal.can_work-requires-clause-asks
can_work-requires-clause-asks g c =
    let same : c.state.inside.seats.items ≡ c.args.state.now.seats = ap (λ (s : Core). s.seats) c.state.view_is in
    let within : c.args.seat < length c.state.inside.seats.items = omega (arith, ap length same, c.requires.seat) in
    let e : c.index.result.now ≡ seat_of c.args.state.now c.args.seat =
    get_or_read c.state.inside.seats.items c.args.seat c.index.result.now within c.index.ensures idle
    ∙ ap (λ (xs : List Work). slice_index_or xs c.args.seat idle) same in
    rw e (asks_of_node c.requires.ready c.args.seat c.requires.seat)
