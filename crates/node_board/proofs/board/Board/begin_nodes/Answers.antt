use Rattle.std.proofs.Common.{ℕ, true, ◌+◌, ◌∙◌, ap, sym, arith}
use Rattle.node_board.specs.Coding.{claim_word}
use Rattle.node_board.specs.Known.{CanBegin}
use Rattle.node_board.specs.Seen.{plan_of}
use Rattle.node_board.proofs.Calls.{is_of, here}
use Rattle.node_board.proofs.LeadCalls.{nodes_call}
use Rattle.node_board.proofs.board.Board.begin_nodes.Goals as goal

pub store-requires : goal.store-requires
store-requires g c =
    let of = is_of c.self.view_is c.lead.view_is c.requires.from in (
      of.0,
      omega (arith, c.self.invariant.0),
      nodes_call g.P.PhaseLaw.law g.met.P.PhaseLaw.good c.self.inside.words.shared.key c.lead.inside.place.me
          c.lead.invariant.0 (of.1 ∙ sym c.self.invariant.1)
          c.self.inside.words.shared.table_id.slots c.lead.inside.place.id c.lead.invariant.1
          c.next_claim-code.result
          (here (λ (k : g.row.P.Denot) v. CanBegin (g.P.PhaseLaw.law k) true (plan_of v)) c.lead.view_is c.requires.from c.requires.can)
          (c.next_claim-code.ensures ∙ ap (λ (p : ℕ). claim_word (p + 1) 0) c.lead.invariant.2),
    )
