use Rattle.std.proofs.Common.{◌≡◌, ◌∙◌, sym, subst, arith}
use Rattle.node_board.specs.Seen.{SeatSeen}
use Rattle.node_board.specs.Shows.{work_of}
use Rattle.node_board.proofs.Calls.{is_of, look_call}
use Rattle.node_board.proofs.board.Board.look.Goals as goal

pub load-requires : goal.load-requires
load-requires g c =
    let of = is_of c.self.view_is c.seat.view_is c.requires.from in (
      of.0,
      omega (arith, c.self.invariant.0),
      look_call g.P.PhaseLaw.law g.met.P.PhaseLaw.good c.self.inside.words.shared.key c.seat.inside.place.me
          c.seat.invariant.0 (of.1 ∙ sym c.self.invariant.1)
          c.self.inside.words.shared.table_id.slots c.seat.inside.place.id c.seat.invariant.1
          (subst (λ (y : SeatSeen g.row.P.Denot). (work_of y.view).stage ≡ 0) (sym c.seat.view_is) c.requires.free),
    )
