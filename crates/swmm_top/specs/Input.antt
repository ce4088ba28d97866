-- Reading the front of a source.
use Rattle.std.specs.Prelude.{◌≡◌, ℕ, ◌+◌, List, Option, Some, IfSome, take, drop, length}
use Rattle.std.specs.Io.KnownBytes.{Consumes, IsAtEnd}

-- the most bytes that an input and a hotstart may have (this project's profile)
abbrev pub input_limit : ℕ
input_limit = 33554432

abbrev pub hot_limit : ℕ
hot_limit = 2097152

-- the first bytes of what a source tells, `most` or all of them, were taken, and the others are left
abbrev pub TakesFront : ℕ → Option (List ℕ) → Option (List ℕ) → List ℕ → Type 0
TakesFront most old new bytes = IfSome old (λ input. (bytes ≡ take most input) × (new ≡ Some (drop most input)))

-- a call took so many bytes and added them; it took none only at the end
pub record AddsTaken (old new : Option (List ℕ)) (before after : List ℕ) (count : ℕ) : Type 0 where
  pub taken : Consumes old new (drop (length before) after)
  pub front : take (length before) after ≡ before
  pub size : length after ≡ length before + count
  pub ended : count ≡ 0 → IsAtEnd new
