use Rattle.std.specs.Prelude.{ℕ, List, [], ◌∷◌, ◌<◌, ⊤}
use Rattle.inp_lines.specs.declared.line.Line.{Line}

-- The numbers of lines rise from above a bound. Source: this project's profile.
abbrev pub Rise : ℕ → List Line → Type 0
Rise above [] = ⊤
Rise above (line ∷ lines) = (above < line.number) × Rise line.number lines
