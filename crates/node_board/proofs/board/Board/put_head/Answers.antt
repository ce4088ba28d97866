use Rattle.std.proofs.Common.{◌≡◌, ℕ, false, nat_lt, ◌+◌, ◌^◌, ◌∙◌, ℤ, pos, ◌+ℤ◌, ap, sym, subst, arith}
use Rattle.std.proofs.lemmas.Bool.Decides.{nat_tests}
use Rattle.std.proofs.lemmas.Int.{to_z-of_z}
use Rattle.std.specs.Int.RustNames.{unsigned_abs}
use Rattle.phase_machine.specs.Items.{next_at}
use Rattle.phase_machine.specs.Places.{node_place, word_count, written}
use Rattle.phase_machine.proofs.PlaceLemmas.{written_few}
use Rattle.node_board.specs.Acts.{ReadyNode}
use Rattle.node_board.specs.Seen.{SeatSeen}
use Rattle.node_board.specs.Shows.{work_of}
use Rattle.node_board.specs.Steps.{head_place}
use Rattle.node_board.specs.Coding.{is_plain, coded}
use Rattle.node_board.proofs.CodeLemmas.{node_kind, signed_word}
use Rattle.node_board.proofs.PutSteps.{head_inside}
use Rattle.node_board.proofs.Calls.{is_of, here, head_call}
use Rattle.atomic_table.specs.Table.{Me}
use Rattle.phase_machine.specs.Steps.{further}
use Rattle.node_board.specs.declared.views.View.{View}
use Rattle.node_board.specs.Plays.{at_work}
use Rattle.node_board.proofs.FurtherLemmas.{same_next, head_made}
use Rattle.node_board.proofs.board.Board.put_head.Goals as goal

pub store-requires : goal.store-requires
store-requires g c =
    let of = is_of c.self.view_is c.seat.view_is c.requires.from in
    let size : c.self.inside.words.shared.table_id.words ≡ word_count (g.P.PhaseLaw.law c.seat.inside.place.me.0.law) + 1 =
    subst (λ (k : g.row.P.Denot). c.self.inside.words.shared.table_id.words ≡ word_count (g.P.PhaseLaw.law k) + 1) (sym of.1) c.self.invariant.0 in
    let ready = here (λ (k : g.row.P.Denot) v. ReadyNode (g.P.PhaseLaw.law k) 11 (work_of v)) c.seat.view_is c.requires.from c.requires.ready in
    let next = here (λ (k : g.row.P.Denot) v. c.args.head ≡ (next_at (g.P.PhaseLaw.law k) (work_of v)).head) c.seat.view_is c.requires.from c.requires.next in
    let law = g.P.PhaseLaw.law c.seat.inside.place.me.0.law in
    let w = work_of c.seat.inside.place.me.0 in
    let few = written_few w.tag in
    let at : c.node_word-word.result ≡ head_place law w + 1 =
    c.node_word-word.ensures
    ∙ ap (λ (k : g.row.P.Denot). node_place (g.P.PhaseLaw.law k) c.seat.inside.item (5 + c.written_buffer.result) + 1) (sym of.1)
    ∙ ap (λ (n : ℕ). node_place law n (5 + c.written_buffer.result) + 1) c.seat.invariant.3
    ∙ ap (λ (b : ℕ). node_place law w.item (5 + b) + 1) (c.written_buffer.ensures.value ∙ ap written c.seat.invariant.2) in
    let kind : is_plain law (head_place law w) ≡ false =
    node_kind law w.item (5 + written w.tag) ready.asks.node (omega (arith, few))
    ∙ (let off : nat_lt 6 (5 + written w.tag) ≡ false = grind (arith, nat_tests, few) in off) in
    let code : c.signed_word.result ≡ coded law (head_place law w) (next_at law w).head =
    (simp (to_z-of_z, c.ranges.head) at c.signed_word.ensures)
    ∙ ap (λ (x : ℤ). unsigned_abs (x +ℤ pos (2 ^ 63))) next
    ∙ sym (signed_word law (head_place law w) (next_at law w).head kind) in
    let within = head_inside law w ready.asks in (
      of.0,
      omega (arith, at, size, within),
      head_call g.P.PhaseLaw.law g.met.P.PhaseLaw.good c.self.inside.words.shared.key c.seat.inside.place.me
          c.seat.invariant.0 (of.1 ∙ sym c.self.invariant.1)
          c.self.inside.words.shared.table_id.slots c.seat.inside.place.id c.seat.invariant.1
          ready c.signed_word.result code c.node_word-word.result at,
    )

pub returns-clause-next : goal.returns-clause-next
returns-clause-next g c = same_next (g.P.PhaseLaw.law c.args.self.now.law) c.args.seat.now.view c.store.new.seat.me.0
    (ap (λ (m : Me (Unit {0}) (View g.row.P.Denot)). m.0) c.store.ensures.2
    ∙ ap (λ (y : SeatSeen g.row.P.Denot). at_work y.view (further (work_of y.view))) c.seat.view_is)

pub returns-clause-made : goal.returns-clause-made
returns-clause-made g c =
    head_made (g.P.PhaseLaw.law c.args.self.now.law) c.args.seat.now.view c.store.new.seat.me.0
    (ap (λ (m : Me (Unit {0}) (View g.row.P.Denot)). m.0) c.store.ensures.2
    ∙ ap (λ (y : SeatSeen g.row.P.Denot). at_work y.view (further (work_of y.view))) c.seat.view_is) c.requires.ready.held
