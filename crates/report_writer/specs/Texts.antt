-- The words of which reports are made.
use Rattle.std.specs.Prelude.{ℕ, List, [], ◌∷◌, codes}
use Rattle.std.specs.List.{flat_map}

-- these texts, one after the other
abbrev pub joined : List (List ℕ) → List ℕ
joined texts = flat_map (λ text. text) texts

-- a text that ends a line
abbrev pub line_of : List ℕ → List ℕ
line_of text = joined (text ∷ codes "\n" ∷ [])

-- each of these texts on a line of its own
abbrev pub lines_of : List (List ℕ) → List ℕ
lines_of texts = flat_map line_of texts
