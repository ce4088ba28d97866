use Rattle.std.proofs.Common.{◌≡◌, ◌+◌, ◌∙◌, sym, subst, arith}
use Rattle.phase_machine.specs.Places.{word_count}
use Rattle.node_board.specs.Acts.{CanLoad}
use Rattle.node_board.specs.Shows.{work_of}
use Rattle.node_board.proofs.Calls.{is_of, here, load_call}
use Rattle.node_board.proofs.board.Board.load.Goals as goal

pub load-requires : goal.load-requires
load-requires g c =
    let of = is_of c.self.view_is c.seat.view_is c.requires.from in
    let size : c.self.inside.words.shared.table_id.words ≡ word_count (g.P.PhaseLaw.law c.seat.inside.place.me.0.law) + 1 =
    subst (λ (k : g.row.P.Denot). c.self.inside.words.shared.table_id.words ≡ word_count (g.P.PhaseLaw.law k) + 1) (sym of.1) c.self.invariant.0 in
    let can = here (λ (k : g.row.P.Denot) v. CanLoad (g.P.PhaseLaw.law k) c.args.word (work_of v)) c.seat.view_is c.requires.from c.requires.next in (
      of.0,
      omega (arith, can.word_is, can.inside, size),
      load_call g.P.PhaseLaw.law g.met.P.PhaseLaw.good c.self.inside.words.shared.key c.seat.inside.place.me
          c.seat.invariant.0 (of.1 ∙ sym c.self.invariant.1)
          c.self.inside.words.shared.table_id.slots c.seat.inside.place.id c.seat.invariant.1
          c.args.word can,
    )
