use Rattle.std.proofs.Common.{◌≡◌, ◌∷◌}
use Rattle.fixed_num.specs.Lists.{list_of}
use Rattle.node_board.specs.Coding.{coded}
use Rattle.node_board.specs.Opening.{first_number}
use Rattle.node_board.proofs.words.first_words.Given as goal

abbrev pub invariant-loop-place : goal.invariant-loop-place
invariant-loop-place g l =
    l.words.items
    ≡ 0 ∷ list_of (λ j. coded (g.P.PhaseLaw.law l.law) j (first_number (g.P.PhaseLaw.law l.law) j)) l.place
