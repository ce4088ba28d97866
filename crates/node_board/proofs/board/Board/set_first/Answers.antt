use Rattle.std.proofs.Common.{◌≡◌, pos, if◌then◌else◌, false, ◌∙◌, sym, arith}
use Rattle.phase_machine.specs.Places.{is_odd, first}
use Rattle.node_board.specs.Seen.{plan_of}
use Rattle.node_board.specs.Steps.{Rests}
use Rattle.node_board.proofs.Calls.{is_of, here}
use Rattle.node_board.proofs.OpenLemmas.{first_range, first_coded, first_decoded}
use Rattle.node_board.proofs.LeadCalls.{set_call}
use Rattle.node_board.proofs.board.Board.set_first.Goals as goal

pub store-requires : goal.store-requires
store-requires g c =
    let of = is_of c.self.view_is c.lead.view_is c.requires.from in
    let rests = here (λ (k : g.row.P.Denot) v. Rests (plan_of v)) c.lead.view_is c.requires.from c.requires.rests in
    let even = here (λ (k : g.row.P.Denot) v. is_odd (plan_of v).phase ≡ false) c.lead.view_is c.requires.from c.requires.even in
    let law = g.P.PhaseLaw.law c.lead.inside.place.me.0.law in (
      of.0,
      omega (arith, c.self.invariant.0),
      set_call g.P.PhaseLaw.law g.met.P.PhaseLaw.good c.self.inside.words.shared.key c.lead.inside.place.me
          c.lead.invariant.0 (of.1 ∙ sym c.self.invariant.1)
          c.self.inside.words.shared.table_id.slots c.lead.inside.place.id c.lead.invariant.1
          rests even 3 (if c.args.first then pos 1 else pos 0) c.first_code-code.result (omega arith)
          first (first_range law c.args.first) (first_coded law c.args.first c.first_code-code.result c.first_code-code.ensures)
          (first_decoded law c.args.first c.first_code-code.result c.first_code-code.ensures),
    )
