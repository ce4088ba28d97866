use Rattle.std.proofs.Common.{◌≡◌, ◌+◌, ◌<◌, pos, ◌∙◌, sym, subst, arith}
use Rattle.phase_machine.specs.Places.{word_count}
use Rattle.phase_machine.specs.Steps.{reset_count, reset_place, reset_value}
use Rattle.node_board.specs.Seen.{plan_of}
use Rattle.node_board.specs.Steps.{Rests}
use Rattle.node_board.proofs.Calls.{is_of, here}
use Rattle.node_board.proofs.OpenLemmas.{can_reset}
use Rattle.node_board.proofs.LeadCalls.{reset_call}
use Rattle.node_board.proofs.LeadSteps.{reset_inside}
use Rattle.node_board.proofs.board.Board.reset.Goals as goal

pub store-requires : goal.store-requires
store-requires g c =
    let of = is_of c.self.view_is c.lead.view_is c.requires.from in
    let size : c.self.inside.words.shared.table_id.words ≡ word_count (g.P.PhaseLaw.law c.lead.inside.place.me.0.law) + 1 =
    subst (λ (k : g.row.P.Denot). c.self.inside.words.shared.table_id.words ≡ word_count (g.P.PhaseLaw.law k) + 1) (sym of.1) c.self.invariant.0 in
    let rests = here (λ (k : g.row.P.Denot) v. Rests (plan_of v)) c.lead.view_is c.requires.from c.requires.rests in
    let next = here (λ (k : g.row.P.Denot) v. (plan_of v).resets ≡ c.args.reset) c.lead.view_is c.requires.from c.requires.next in
    let left = here (λ (k : g.row.P.Denot) v. c.args.reset < reset_count (g.P.PhaseLaw.law k) (plan_of v).phase) c.lead.view_is c.requires.from c.requires.left in
    let at = here (λ (k : g.row.P.Denot) v. c.reset_word-word.result ≡ reset_place (g.P.PhaseLaw.law k) c.args.reset + 1) c.lead.view_is c.requires.from
    (subst (λ b. c.reset_word-word.result ≡ reset_place (g.P.PhaseLaw.law b.law) c.args.reset + 1) c.self.view_is c.reset_word-word.ensures) in
    let is = here (λ (k : g.row.P.Denot) v. pos c.reset_code-code.result ≡ reset_value (g.P.PhaseLaw.law k) c.args.reset) c.lead.view_is c.requires.from
    (subst (λ b. pos c.reset_code-code.result ≡ reset_value (g.P.PhaseLaw.law b.law) c.args.reset) c.self.view_is c.reset_code-code.ensures) in
    let can = can_reset (g.P.PhaseLaw.law c.lead.inside.place.me.0.law) (plan_of c.lead.inside.place.me.0) c.args.reset
    c.reset_word-word.result c.reset_code-code.result rests next left at is in
    let within = reset_inside (g.P.PhaseLaw.law c.lead.inside.place.me.0.law) c.args.reset (plan_of c.lead.inside.place.me.0).phase left in (
      of.0,
      omega (arith, at, size, within),
      reset_call g.P.PhaseLaw.law g.met.P.PhaseLaw.good c.self.inside.words.shared.key c.lead.inside.place.me
          c.lead.invariant.0 (of.1 ∙ sym c.self.invariant.1)
          c.self.inside.words.shared.table_id.slots c.lead.inside.place.id c.lead.invariant.1
          c.reset_word-word.result c.reset_code-code.result can,
    )
