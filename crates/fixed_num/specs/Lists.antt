-- Lists by the numbers of their items.
use Rattle.std.specs.Prelude.{ℕ, ℤ, pos, List, map, slice_index_or}
use Rattle.std.specs.List.{range_with_len}

-- the item of a number, and 0 past the end
abbrev pub number : List ℤ → ℕ → ℤ
number list k = slice_index_or list k (pos 0)

-- the list f 0, .., f (n - 1)
abbrev pub list_of : {A : Type 0} → (ℕ → A) → ℕ → List A
list_of f n = map f (range_with_len 0 n)
