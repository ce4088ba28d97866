use Rattle.std.proofs.Common.{ℕ, List, [], length, ◌∙◌, ap, sym, subst, arith}
use Rattle.std.proofs.lemmas.List.FromFn.{length-map-range_with_len}
use Rattle.atomic_table.specs.Table.{opening}
use Rattle.phase_machine.specs.Places.{word_count}
use Rattle.node_board.specs.Coding.{coded}
use Rattle.node_board.specs.Opening.{first_number, first_view}
use Rattle.node_board.specs.Rule.{IsRuled}
use Rattle.node_board.proofs.OpeningSteps.{opening_ruled}
use Rattle.node_board.proofs.board.Board.open.Goals as goal

pub of_words-requires : goal.of_words-requires
of_words-requires g c =
    let law = g.P.PhaseLaw.law c.args.law in
    subst (λ (words : List ℕ). IsRuled law c.args.law (opening {S = Unit {0}} words [] (first_view law c.args.law)))
    (sym (c.as_slice.ensures.value ∙ c.in_ok-numbers.ensures))
    (opening_ruled law c.args.law)

pub invariant_of-result : goal.invariant_of-result
invariant_of-result g c =
    let law = g.P.PhaseLaw.law c.args.law in
    let size = length-map-range_with_len (λ j. coded law j (first_number law j)) 0 (word_count law) in
    let numbers = ap (λ (words : List ℕ). length words) (c.as_slice.ensures.value ∙ c.in_ok-numbers.ensures) in
    let words = c.in_ok-words.ensures in
    (words.0 ∙ numbers ∙ omega (arith, size), words.5)
