use Rattle.std.proofs.Common.{◌≡◌, ◌+◌, ◌-◌, false, ◌∙◌, sym, subst, arith}
use Rattle.phase_machine.specs.Places.{word_count}
use Rattle.node_board.specs.Known.{IsTold}
use Rattle.node_board.specs.Seen.{plan_of}
use Rattle.node_board.proofs.Calls.{is_of, here}
use Rattle.node_board.proofs.LeadCalls.{read_call}
use Rattle.node_board.proofs.ReadSteps.{told_inside}
use Rattle.node_board.proofs.board.Board.read.Goals as goal

pub load-requires : goal.load-requires
load-requires g c =
    let of = is_of c.self.view_is c.lead.view_is c.requires.from in
    let size : c.self.inside.words.shared.table_id.words ≡ word_count (g.P.PhaseLaw.law c.lead.inside.place.me.0.law) + 1 =
    subst (λ (k : g.row.P.Denot). c.self.inside.words.shared.table_id.words ≡ word_count (g.P.PhaseLaw.law k) + 1) (sym of.1) c.self.invariant.0 in
    let told = here (λ (k : g.row.P.Denot) v. IsTold (g.P.PhaseLaw.law k) (c.args.word - 1)) c.lead.view_is c.requires.from c.requires.told in
    let off = here (λ (k : g.row.P.Denot) v. (plan_of v).is_open ≡ false) c.lead.view_is c.requires.from c.requires.off in
    let within = told_inside (g.P.PhaseLaw.law c.lead.inside.place.me.0.law) (c.args.word - 1) told in (
      of.0,
      omega (arith, size, within, c.requires.behind),
      read_call g.P.PhaseLaw.law g.met.P.PhaseLaw.good c.self.inside.words.shared.key c.lead.inside.place.me
          c.lead.invariant.0 (of.1 ∙ sym c.self.invariant.1)
          c.self.inside.words.shared.table_id.slots c.lead.inside.place.id c.lead.invariant.1
          off c.args.word c.requires.behind told,
    )
