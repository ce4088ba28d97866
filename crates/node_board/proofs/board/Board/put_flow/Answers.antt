use Rattle.std.proofs.Common.{◌≡◌, ℕ, ◌+◌, ◌^◌, ◌∙◌, ℤ, pos, ◌+ℤ◌, ap, sym, subst, arith}
use Rattle.std.proofs.lemmas.Int.{to_z-of_z}
use Rattle.std.specs.Int.RustNames.{unsigned_abs}
use Rattle.phase_machine.specs.Items.{share_at}
use Rattle.phase_machine.specs.Places.{link_place, word_count, written}
use Rattle.phase_machine.proofs.PlaceLemmas.{written_few}
use Rattle.node_board.specs.Acts.{ReadyLink}
use Rattle.node_board.specs.Seen.{SeatSeen}
use Rattle.node_board.specs.Shows.{work_of}
use Rattle.node_board.specs.Steps.{flow_place}
use Rattle.node_board.specs.Coding.{coded}
use Rattle.node_board.proofs.CodeLemmas.{link_signed, signed_word}
use Rattle.node_board.proofs.PutSteps.{flow_inside}
use Rattle.node_board.proofs.Calls.{is_of, here, flow_call}
use Rattle.atomic_table.specs.Table.{Me}
use Rattle.phase_machine.specs.Steps.{further}
use Rattle.node_board.specs.declared.views.View.{View}
use Rattle.node_board.specs.Plays.{at_work}
use Rattle.node_board.proofs.FurtherLemmas.{flow_made}
use Rattle.node_board.proofs.board.Board.put_flow.Goals as goal

pub store-requires : goal.store-requires
store-requires g c =
    let of = is_of c.self.view_is c.seat.view_is c.requires.from in
    let size : c.self.inside.words.shared.table_id.words ≡ word_count (g.P.PhaseLaw.law c.seat.inside.place.me.0.law) + 1 =
    subst (λ (k : g.row.P.Denot). c.self.inside.words.shared.table_id.words ≡ word_count (g.P.PhaseLaw.law k) + 1) (sym of.1) c.self.invariant.0 in
    let ready = here (λ (k : g.row.P.Denot) v. ReadyLink (g.P.PhaseLaw.law k) 14 (work_of v)) c.seat.view_is c.requires.from c.requires.ready in
    let share = here (λ (k : g.row.P.Denot) v. c.args.q ≡ (share_at (g.P.PhaseLaw.law k) (work_of v)).q) c.seat.view_is c.requires.from c.requires.share in
    let law = g.P.PhaseLaw.law c.seat.inside.place.me.0.law in
    let w = work_of c.seat.inside.place.me.0 in
    let few = written_few w.tag in
    let at : c.link_word-word.result ≡ flow_place w + 1 =
    c.link_word-word.ensures
    ∙ ap (λ (l : ℕ). link_place l (4 + c.written_buffer.result) + 1) c.seat.invariant.3
    ∙ ap (λ (b : ℕ). link_place w.item (4 + b) + 1) (c.written_buffer.ensures.value ∙ ap written c.seat.invariant.2) in
    let code : c.signed_word.result ≡ coded law (flow_place w) (share_at law w).q =
    (simp (to_z-of_z, c.ranges.q) at c.signed_word.ensures)
    ∙ ap (λ (x : ℤ). unsigned_abs (x +ℤ pos (2 ^ 63))) share
    ∙ sym (signed_word law (flow_place w) (share_at law w).q (link_signed law w.item (4 + written w.tag) ready.asks.link (omega (arith, few)))) in
    let within = flow_inside law w ready.asks in (
      of.0,
      omega (arith, at, size, within),
      flow_call g.P.PhaseLaw.law g.met.P.PhaseLaw.good c.self.inside.words.shared.key c.seat.inside.place.me
          c.seat.invariant.0 (of.1 ∙ sym c.self.invariant.1)
          c.self.inside.words.shared.table_id.slots c.seat.inside.place.id c.seat.invariant.1
          ready c.signed_word.result code c.link_word-word.result at,
    )

pub returns-clause-made : goal.returns-clause-made
returns-clause-made g c =
    flow_made (g.P.PhaseLaw.law c.args.self.now.law) c.args.seat.now.view c.store.new.seat.me.0
    (ap (λ (m : Me (Unit {0}) (View g.row.P.Denot)). m.0) c.store.ensures.2
    ∙ ap (λ (y : SeatSeen g.row.P.Denot). at_work y.view (further (work_of y.view))) c.seat.view_is) c.requires.ready.held
