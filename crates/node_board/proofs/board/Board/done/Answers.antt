use Rattle.std.proofs.Common.{◌∙◌, sym, subst, arith}
use Rattle.phase_machine.specs.declared.acts.Act.TheVariants.{Done}
use Rattle.phase_machine.specs.Steps.{CanWork}
use Rattle.node_board.specs.Seen.{SeatSeen}
use Rattle.node_board.specs.Shows.{work_of}
use Rattle.node_board.proofs.Calls.{is_of, done_call}
use Rattle.node_board.proofs.board.Board.done.Goals as goal

pub fetch_add-requires : goal.fetch_add-requires
fetch_add-requires g c =
    let of = is_of c.self.view_is c.seat.view_is c.requires.from in (
      of.0,
      omega (arith, c.self.invariant.0),
      done_call g.P.PhaseLaw.law g.met.P.PhaseLaw.good c.self.inside.words.shared.key c.seat.inside.place.me
          c.seat.invariant.0 (of.1 ∙ sym c.self.invariant.1)
          c.self.inside.words.shared.table_id.slots c.seat.inside.place.id c.seat.invariant.1
          (subst (λ (y : SeatSeen g.row.P.Denot). CanWork (g.P.PhaseLaw.law y.view.law) (work_of y.view) Done) (sym c.seat.view_is)
          (subst (λ (k : g.row.P.Denot). CanWork (g.P.PhaseLaw.law k) (work_of c.args.seat.now.view) Done) (sym c.requires.from.1) c.requires.made)),
    )
