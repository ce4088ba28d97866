-- Sums over the first so many places, and over a list.
use Rattle.std.specs.Prelude.{ℕ, zero, suc, ◌+◌, eqb, if◌then◌else◌, List, [], ◌∷◌, ℤ, pos, ◌+ℤ◌}
use Rattle.std.specs.Int.{int_min}

-- f 0 + .. + f (n - 1), of amounts
abbrev pub below : (ℕ → ℕ) → ℕ → ℕ
below f zero = 0
below f (suc n) = below f n + f n

-- an amount that stands at one place: `amount` at `place`, 0 elsewhere
abbrev pub at : ℕ → ℕ → ℕ → ℕ
at place amount n = if eqb place n then amount else 0

-- f 0 + .. + f (n - 1), of numbers with a sign
abbrev pub sum_below : (ℕ → ℤ) → ℕ → ℤ
sum_below f zero = pos 0
sum_below f (suc n) = sum_below f n +ℤ f n

-- the sum of f over a list
abbrev pub sum_over : {A : Type 0} → (A → ℤ) → List A → ℤ
sum_over f [] = pos 0
sum_over f (x ∷ xs) = f x +ℤ sum_over f xs

-- the least of `most` and f 0, .., f (n - 1)
abbrev pub least_below : (most : ℤ) → (ℕ → ℤ) → ℕ → ℤ
least_below most f zero = most
least_below most f (suc n) = int_min (least_below most f n) (f n)
