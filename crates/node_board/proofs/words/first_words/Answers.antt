use Rattle.std.proofs.Common.{ℕ, List, [], ◌∷◌, ◌++◌, ◌∙◌, ap, sym, arith}
use Rattle.std.proofs.lemmas.List.FromFn.{map-range_with_len_more}
use Rattle.fixed_num.specs.Lists.{list_of}
use Rattle.node_board.specs.Coding.{coded}
use Rattle.node_board.specs.Opening.{first_number}
use Rattle.node_board.proofs.words.first_words.Goals as goal

pub loop-place-preserved : goal.loop-place-preserved
loop-place-preserved g c =
    let law = g.P.PhaseLaw.law c.args.law.now in
    let f : ℕ → ℕ = λ j. coded law j (first_number law j) in
    c.in_ok-push-2.ensures.items
    ∙ ap (λ (xs : List ℕ). xs ++ c.first_word.result ∷ []) c.loop-place.invariant
    ∙ ap (λ (x : ℕ). 0 ∷ list_of f c.loop-place.place ++ x ∷ []) c.first_word.ensures
    ∙ ap (λ (xs : List ℕ). 0 ∷ xs) (sym (map-range_with_len_more f 0 c.loop-place.place c.loop-place.place (omega arith)))
