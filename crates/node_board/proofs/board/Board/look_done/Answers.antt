use Rattle.std.proofs.Common.{◌≡◌, true, ◌∙◌, sym, arith}
use Rattle.node_board.specs.Seen.{plan_of}
use Rattle.node_board.proofs.Calls.{is_of, here}
use Rattle.node_board.proofs.LeadCalls.{done_look_call}
use Rattle.node_board.proofs.board.Board.look_done.Goals as goal

pub load-requires : goal.load-requires
load-requires g c =
    let of = is_of c.self.view_is c.lead.view_is c.requires.from in (
      of.0,
      omega (arith, c.self.invariant.0),
      done_look_call g.P.PhaseLaw.law g.met.P.PhaseLaw.good c.self.inside.words.shared.key c.lead.inside.place.me
          c.lead.invariant.0 (of.1 ∙ sym c.self.invariant.1)
          c.self.inside.words.shared.table_id.slots c.lead.inside.place.id c.lead.invariant.1
          (here (λ (k : g.row.P.Denot) v. (plan_of v).is_open ≡ true) c.lead.view_is c.requires.from c.requires.on),
    )
