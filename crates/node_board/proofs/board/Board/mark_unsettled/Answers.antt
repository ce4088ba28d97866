use Rattle.std.proofs.Common.{◌≡◌, ◌+◌, ◌∙◌, ap, sym, subst, arith}
use Rattle.phase_machine.specs.declared.acts.Act.TheVariants.{MarkUnsettled}
use Rattle.phase_machine.specs.Places.{word_count}
use Rattle.node_board.specs.Seen.{SeatSeen}
use Rattle.node_board.specs.Shows.{work_of}
use Rattle.node_board.proofs.Calls.{is_of, here, mark_call}
use Rattle.atomic_table.specs.Table.{Me}
use Rattle.phase_machine.specs.Steps.{CanWork, further}
use Rattle.node_board.specs.declared.views.View.{View}
use Rattle.node_board.specs.Plays.{at_work}
use Rattle.node_board.proofs.FurtherLemmas.{mark_made}
use Rattle.node_board.proofs.board.Board.mark_unsettled.Goals as goal

pub fetch_add-requires : goal.fetch_add-requires
fetch_add-requires g c =
    let of = is_of c.self.view_is c.seat.view_is c.requires.from in
    let size : c.self.inside.words.shared.table_id.words ≡ word_count (g.P.PhaseLaw.law c.seat.inside.place.me.0.law) + 1 =
    subst (λ (k : g.row.P.Denot). c.self.inside.words.shared.table_id.words ≡ word_count (g.P.PhaseLaw.law k) + 1) (sym of.1) c.self.invariant.0 in
    let can = here (λ (k : g.row.P.Denot) v. CanWork (g.P.PhaseLaw.law k) (work_of v) MarkUnsettled) c.seat.view_is c.requires.from
    (c.requires.ready.held, c.requires.unsettled) in (
      of.0,
      omega (arith, size),
      mark_call g.P.PhaseLaw.law g.met.P.PhaseLaw.good c.self.inside.words.shared.key c.seat.inside.place.me
          c.seat.invariant.0 (of.1 ∙ sym c.self.invariant.1)
          c.self.inside.words.shared.table_id.slots c.seat.inside.place.id c.seat.invariant.1
          can,
    )

pub returns-clause-made : goal.returns-clause-made
returns-clause-made g c =
    mark_made (g.P.PhaseLaw.law c.args.self.now.law) c.args.seat.now.view c.fetch_add.new.seat.me.0
    (ap (λ (m : Me (Unit {0}) (View g.row.P.Denot)). m.0) c.fetch_add.ensures.2
    ∙ ap (λ (y : SeatSeen g.row.P.Denot). at_work y.view (further (work_of y.view))) c.seat.view_is) c.requires.ready.held c.requires.unsettled
