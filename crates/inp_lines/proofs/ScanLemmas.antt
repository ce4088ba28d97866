-- Places in texts.
use Rattle.std.proofs.Common.{◌≡◌, ◌≤◌, ℕ, Bool, cond, not, List, length, Some, None, arith}
use Rattle.std.specs.List.{position, position_or_len}
use Rattle.std.specs.Option.{unwrap_or}
use lib.Dec.{ltb}
use Rattle.std.proofs.lemmas.Bool.Decides.{nat_tests}
use Rattle.std.proofs.lemmas.List.Sums.{prefix_len-le-length}

-- a place within a length, or the length
pub place_or : (i n : ℕ) → i ≤ n → unwrap_or (cond (ltb i n) (Some i) None) n ≡ i
place_or i n h = grind (arith, nat_tests)

-- the first place, or the length
pub place_is : (p : ℕ → Bool) (xs : List ℕ) → unwrap_or (position p xs) (length xs) ≡ position_or_len p xs
place_is p xs = place_or (position_or_len p xs) (length xs) (prefix_len-le-length (λ x. not (p x)) xs)
