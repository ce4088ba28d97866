use Rattle.std.proofs.Common.{◌∙◌, sym, arith}
use Rattle.node_board.specs.Seen.{plan_of}
use Rattle.node_board.specs.Steps.{Rests}
use Rattle.node_board.proofs.Calls.{is_of, here}
use Rattle.node_board.proofs.LeadCalls.{stop_call}
use Rattle.node_board.proofs.board.Board.stop.Goals as goal

pub store-requires : goal.store-requires
store-requires g c =
    let of = is_of c.self.view_is c.lead.view_is c.requires.from in (
      of.0,
      omega (arith, c.self.invariant.0),
      stop_call g.P.PhaseLaw.law g.met.P.PhaseLaw.good c.self.inside.words.shared.key c.lead.inside.place.me
          c.lead.invariant.0 (of.1 ∙ sym c.self.invariant.1)
          c.self.inside.words.shared.table_id.slots c.lead.inside.place.id c.lead.invariant.1
          (here (λ (k : g.row.P.Denot) v. Rests (plan_of v)) c.lead.view_is c.requires.from c.requires.rests),
    )
