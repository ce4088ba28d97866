-- The first pair of a list whose key is above a number. A pair is a key and a value, and a list of pairs rises where
-- each key is less than all later ones.
use Rattle.std.specs.Prelude.{ℕ, ◌+◌, ◌<◌, ◌≤◌, if◌then◌else◌, List, [], ◌∷◌, length, ℤ, ◌≤ℤ◌, ◌<ℤ◌, int_lt}
use Rattle.net_types.specs.Records.{pair_at}

-- the place of the first pair whose key is greater than the number, and the list's length where there is none
abbrev pub first_above : List (ℤ × ℤ) → ℤ → ℕ
first_above [] key = 0
first_above (pair ∷ pairs) key = if int_lt key pair.0 then 0 else first_above pairs key + 1

-- a place that parts a list: the keys before it are at most the number, and those from it on are greater
pub record IsFirstAbove (pairs : List (ℤ × ℤ)) (key : ℤ) (place : ℕ) : Type 0 where
  pub within : place ≤ length pairs
  pub before : (k : ℕ) → k < place → (pair_at pairs k).0 ≤ℤ key
  pub after : (k : ℕ) → place ≤ k → k < length pairs → key <ℤ (pair_at pairs k).0
