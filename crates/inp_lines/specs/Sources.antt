use Rattle.std.specs.Prelude.{◌≡◌, ℕ, Bool, false, List, [], ◌∷◌, ◌++◌, ⊤}
use Rattle.net_types.specs.declared.faults.LineFault.{LineFault}
use Rattle.inp_lines.specs.declared.line.Line.{Line}
use Rattle.inp_lines.specs.declared.line.SectionName.{SectionName}

-- At most one fault, and on that line. Source: this project's profile.
abbrev pub OneOn : ℕ → List LineFault → Type 0
OneOn number [] = ⊤
OneOn number (x ∷ []) = x.line ≡ number
OneOn number (x ∷ y ∷ more) = ⊥

-- Faults come from lines of these sections alone, at most one from a line. Source: this project's profile.
pub record FaultsIn (sections : SectionName → Bool) (faults : List Line → Line → List LineFault) : Type 0 where
  pub one : (before : List Line) (line : Line) → OneOn line.number (faults before line)
  pub elsewhere : (before : List Line) (line : Line) → sections line.section ≡ false → faults before line ≡ []

-- The faults of two sources. Source: this project's profile.
abbrev pub both_of : (f g : List Line → Line → List LineFault) → List Line → Line → List LineFault
both_of f g before line = f before line ++ g before line
