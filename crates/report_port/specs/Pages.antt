-- What it means to pass a piece on over a page.
use Rattle.std.specs.Prelude.{◌≡◌, ℕ, List, ◌++◌, Option, Result, MatchResult}
use Rattle.std.specs.Io.KnownBytes.{Appends}
use Rattle.fault_ports.specs.Output.{AppendsPrefix}

-- the page and then the piece are put but for the new page, or a front of them was put
abbrev pub Passes : {T E : Type 0} → (held₀ held : Option (List ℕ)) (page₀ page piece : List ℕ) → Result T E → Type 0
Passes held₀ held page₀ page piece result = MatchResult result
    (λ _. (front : List ℕ) × (page₀ ++ piece ≡ front ++ page) × Appends held₀ held front)
    (λ _. AppendsPrefix held₀ held (page₀ ++ piece))
