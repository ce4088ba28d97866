-- The two directions of a flow.
use Rattle.std.specs.Prelude.{ℕ, suc, ℤ, pos, negsuc}

-- how much of a flow goes from the first end to the second, and how much the other way
abbrev pub forward : ℤ → ℕ
forward (pos n) = n
forward (negsuc _) = 0

abbrev pub backward : ℤ → ℕ
backward (pos _) = 0
backward (negsuc n) = suc n
