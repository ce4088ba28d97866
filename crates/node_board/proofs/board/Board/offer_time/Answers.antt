use Rattle.std.proofs.Common.{◌≡◌, ◌+◌, ◌∙◌, ap, sym, subst, arith}
use Rattle.std.proofs.lemmas.Int.{ints, to_z-of_z}
use Rattle.phase_machine.specs.Items.{share_at}
use Rattle.phase_machine.specs.Places.{least_place, word_count}
use Rattle.phase_machine.proofs.Bounds.{share_range}
use Rattle.node_board.specs.Acts.{ReadyLink}
use Rattle.node_board.specs.Seen.{SeatSeen}
use Rattle.node_board.specs.Shows.{work_of}
use Rattle.node_board.proofs.Calls.{is_of, here, offer_call}
use Rattle.atomic_table.specs.Table.{Me}
use Rattle.phase_machine.specs.Steps.{further}
use Rattle.node_board.specs.declared.views.View.{View}
use Rattle.node_board.specs.Plays.{at_work}
use Rattle.node_board.proofs.FurtherLemmas.{same_share}
use Rattle.node_board.proofs.board.Board.offer_time.Goals as goal

pub fetch_min-requires : goal.fetch_min-requires
fetch_min-requires g c =
    let of = is_of c.self.view_is c.seat.view_is c.requires.from in
    let size : c.self.inside.words.shared.table_id.words ≡ word_count (g.P.PhaseLaw.law c.seat.inside.place.me.0.law) + 1 =
    subst (λ (k : g.row.P.Denot). c.self.inside.words.shared.table_id.words ≡ word_count (g.P.PhaseLaw.law k) + 1) (sym of.1) c.self.invariant.0 in
    let ready = here (λ (k : g.row.P.Denot) v. ReadyLink (g.P.PhaseLaw.law k) 13 (work_of v)) c.seat.view_is c.requires.from c.requires.ready in
    let share = here (λ (k : g.row.P.Denot) v. c.args.time ≡ (share_at (g.P.PhaseLaw.law k) (work_of v)).time) c.seat.view_is c.requires.from c.requires.share in
    let range = (share_range (g.met.P.PhaseLaw.good c.seat.inside.place.me.0.law) (work_of c.seat.inside.place.me.0) ready.asks).time in
    let at : c.least_word-word.result ≡ least_place (g.P.PhaseLaw.law c.seat.inside.place.me.0.law) + 1 =
    subst (λ (k : g.row.P.Denot). c.least_word-word.result ≡ least_place (g.P.PhaseLaw.law k) + 1)
    (sym of.1) c.least_word-word.ensures in (
      of.0,
      omega (arith, at, size),
      offer_call g.P.PhaseLaw.law g.met.P.PhaseLaw.good c.self.inside.words.shared.key c.seat.inside.place.me
          c.seat.invariant.0 (of.1 ∙ sym c.self.invariant.1)
          c.self.inside.words.shared.table_id.slots c.seat.inside.place.id c.seat.invariant.1
          ready c.unsigned_abs.result (let abs = simp (to_z-of_z, c.ranges.time) at c.unsigned_abs.ensures.value in omega (arith, ints, abs, share, range.from)) c.least_word-word.result at,
    )

pub returns-clause-share : goal.returns-clause-share
returns-clause-share g c = same_share (g.P.PhaseLaw.law c.args.self.now.law) c.args.seat.now.view c.fetch_min.new.seat.me.0
    (ap (λ (m : Me (Unit {0}) (View g.row.P.Denot)). m.0) c.fetch_min.ensures.2
    ∙ ap (λ (y : SeatSeen g.row.P.Denot). at_work y.view (further (work_of y.view))) c.seat.view_is)
