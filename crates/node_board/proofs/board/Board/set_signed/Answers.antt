use Rattle.std.proofs.Common.{◌≡◌, ◌+◌, ◌-◌, ◌∙◌, ap, sym, subst, arith}
use Rattle.std.proofs.lemmas.Int.{to_z-of_z}
use Rattle.phase_machine.specs.Places.{word_count}
use Rattle.phase_machine.proofs.PlaceLemmas.{read_within, written_few}
use Rattle.node_board.specs.Coding.{coded, decoded}
use Rattle.node_board.specs.Known.{CanSetWord}
use Rattle.node_board.specs.Seen.{plan_of}
use Rattle.node_board.proofs.Calls.{is_of, here}
use Rattle.node_board.proofs.CodeLemmas.{signed_word, signed_back}
use Rattle.node_board.proofs.LeadCalls.{set_call}
use Rattle.node_board.proofs.board.Board.set_signed.Goals as goal

pub store-requires : goal.store-requires
store-requires g c =
    let of = is_of c.self.view_is c.lead.view_is c.requires.from in
    let law = g.P.PhaseLaw.law c.lead.inside.place.me.0.law in
    let plan = plan_of c.lead.inside.place.me.0 in
    let size : c.self.inside.words.shared.table_id.words ≡ word_count law + 1 =
    subst (λ (k : g.row.P.Denot). c.self.inside.words.shared.table_id.words ≡ word_count (g.P.PhaseLaw.law k) + 1) (sym of.1) c.self.invariant.0 in
    let can = here (λ (k : g.row.P.Denot) v. CanSetWord (g.P.PhaseLaw.law k) c.args.word c.args.value (plan_of v)) c.lead.view_is c.requires.from c.requires.can in
    let code : c.signed_word-code.result ≡ coded law (c.args.word - 1) c.args.value =
    (simp (to_z-of_z, c.ranges.value) at c.signed_word-code.ensures) ∙ sym (signed_word law (c.args.word - 1) c.args.value can.signed) in
    let back : decoded law (c.args.word - 1) c.signed_word-code.result ≡ c.args.value =
    ap (decoded law (c.args.word - 1)) code ∙ signed_back law (c.args.word - 1) c.args.value can.signed can.low in
    let within = read_within (written_few plan.phase) can.reads in (
      of.0,
      omega (arith, size, within, can.behind),
      set_call g.P.PhaseLaw.law g.met.P.PhaseLaw.good c.self.inside.words.shared.key c.lead.inside.place.me
          c.lead.invariant.0 (of.1 ∙ sym c.self.invariant.1)
          c.self.inside.words.shared.table_id.slots c.lead.inside.place.id c.lead.invariant.1
          can.rests can.even c.args.word c.args.value c.signed_word-code.result can.behind can.reads can.range code back,
    )
