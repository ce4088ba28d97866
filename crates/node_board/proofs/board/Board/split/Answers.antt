use Rattle.std.proofs.Common.{◌<◌, ◌∙◌, ap, sym, subst, arith}
use Rattle.node_board.specs.Seen.{BoardSeen, SeatSeen, seats_split}
use Rattle.node_board.proofs.Calls.{split_call}
use Rattle.node_board.proofs.board.Board.split.Goals as goal

pub split_seat-place-requires : goal.split_seat-place-requires
split_seat-place-requires g c =
    let lead = c.lead.view_is in
    let board = c.self.view_is in
    let few : seats_split c.lead.inside.place.me.0.role < 1_000_000 =
    subst (λ (y : SeatSeen g.row.P.Denot). seats_split y.view.role < 1_000_000) (sym lead) c.requires.few in (
      ap (λ (y : SeatSeen g.row.P.Denot). y.table) lead ∙ c.requires.from.0 ∙ sym (ap (λ (y : BoardSeen g.row.P.Denot). y.table) board),
      omega (arith, c.self.invariant.0),
      split_call (g.P.PhaseLaw.law c.self.inside.words.shared.key) (g.met.P.PhaseLaw.good c.self.inside.words.shared.key)
          c.self.inside.words.shared.key c.lead.inside.place.id c.lead.inside.place.me.0 c.lead.invariant.1 few,
    )
