use Rattle.std.proofs.Common.{◌≡◌, ◌+◌, ◌∙◌, sym, subst, arith}
use Rattle.phase_machine.specs.Places.{node_place, word_count}
use Rattle.node_board.specs.Acts.{CanDeposit}
use Rattle.node_board.specs.Shows.{work_of}
use Rattle.node_board.proofs.DepositLemmas.{deposit_inside}
use Rattle.node_board.proofs.Calls.{is_of, here, deposit_call}
use Rattle.node_board.proofs.board.Board.add.Goals as goal

pub fetch_add-requires : goal.fetch_add-requires
fetch_add-requires g c =
    let of = is_of c.self.view_is c.seat.view_is c.requires.from in
    let size : c.self.inside.words.shared.table_id.words ≡ word_count (g.P.PhaseLaw.law c.seat.inside.place.me.0.law) + 1 =
    subst (λ (k : g.row.P.Denot). c.self.inside.words.shared.table_id.words ≡ word_count (g.P.PhaseLaw.law k) + 1) (sym of.1) c.self.invariant.0 in
    let can = here (λ (k : g.row.P.Denot) v. CanDeposit (g.P.PhaseLaw.law k) (work_of v)
    (record { node = c.args.node; sum = c.args.sum; amount = c.args.amount })) c.seat.view_is c.requires.from c.requires.can in
    let at : c.node_word-word.result ≡ node_place (g.P.PhaseLaw.law c.seat.inside.place.me.0.law) c.args.node (7 + c.args.sum) + 1 =
    subst (λ (k : g.row.P.Denot). c.node_word-word.result ≡ node_place (g.P.PhaseLaw.law k) c.args.node (7 + c.args.sum) + 1)
    (sym of.1) c.node_word-word.ensures in
    let within = deposit_inside (g.P.PhaseLaw.law c.seat.inside.place.me.0.law) (work_of c.seat.inside.place.me.0)
    (record { node = c.args.node; sum = c.args.sum; amount = c.args.amount }) can in (
      of.0,
      omega (arith, at, size, within),
      deposit_call g.P.PhaseLaw.law g.met.P.PhaseLaw.good c.self.inside.words.shared.key c.seat.inside.place.me
          c.seat.invariant.0 (of.1 ∙ sym c.self.invariant.1)
          c.self.inside.words.shared.table_id.slots c.seat.inside.place.id c.seat.invariant.1
          (record { node = c.args.node; sum = c.args.sum; amount = c.args.amount }) can c.node_word-word.result at,
    )
