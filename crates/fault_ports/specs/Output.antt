-- What it means to put bytes whole or in front.
use Rattle.std.specs.Prelude.{ℕ, ◌≤◌, List, length, take, Option, Result, MatchResult}
use Rattle.std.specs.Io.KnownBytes.{Appends}

-- known bytes grow by a front of these (this project's profile)
abbrev pub AppendsPrefix : Option (List ℕ) → Option (List ℕ) → List ℕ → Type 0
AppendsPrefix old new bytes = (count : ℕ) × (count ≤ length bytes) × Appends old new (take count bytes)

-- all the bytes were appended at `Ok`, and a front of them at `Err` (this project's profile)
abbrev pub Puts : {T E : Type 0} → Option (List ℕ) → Option (List ℕ) → List ℕ → Result T E → Type 0
Puts old new bytes result = MatchResult result (λ _. Appends old new bytes) (λ _. AppendsPrefix old new bytes)
