-- What a reader says that makes a record of several lines, by what it holds after some lines of all lines.
use Rattle.std.specs.Prelude.{◌≡◌, List, [], ◌∷◌, ◌++◌, Option}
use Rattle.inp_lines.specs.declared.line.Line.{Line}
use Rattle.inp_lines.specs.declared.fault.Fault.{Fault}

-- Some lines were read, and this line comes next. Source: this project's profile.
abbrev pub ComesNext : (List Line → List Line → Type 0) → Line → Type 0
ComesNext is_after line = (before : List Line) × ((rest : List Line) × is_after before (before ++ line ∷ rest))

-- What is held after the lines before is held, one line on, after this line. Source: this project's profile.
abbrev pub GoesOn : (old new : List Line → List Line → Type 0) → Line → Type 0
GoesOn old new line = (before rest : List Line) → old before (before ++ line ∷ rest)
    → new (before ++ line ∷ []) (before ++ line ∷ rest)

-- The fault found is that of the line by the lines before it. Source: this project's profile.
abbrev pub Finds : (List Line → List Line → Type 0) → Line → Option Fault → (List Line → Line → Option Fault) → Type 0
Finds is_after line found fault_of = (before rest : List Line) → is_after before (before ++ line ∷ rest)
    → found ≡ fault_of before line
