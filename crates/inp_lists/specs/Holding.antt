-- What the walk over lines holds after some lines that count; for the walk alone.
use Rattle.std.specs.Prelude.{◌≡◌, ℕ, ◌≤◌, false, if◌then◌else◌, List, [], ◌∷◌, ◌++◌}
use Rattle.std.specs.Prelude.{map, length, bytes_eq, Option, ⊤}
use Rattle.inp_lines.specs.declared.fault.Fault.{Fault}
use Rattle.inp_lines.specs.declared.line.Line.{Line}
use Rattle.inp_lines.specs.Names.{is_repeat, number_in}
use Rattle.inp_lines.specs.Numbers.{numbers_of}
use Rattle.inp_lists.specs.declared.held.Held.{Held}
use Rattle.inp_lists.specs.Chains.{ChainForm, counts, names_in, own_lines, size_in, most_pairs}

-- These names are numbered, and each has the record and the state of its lines.
pub record HoldsNames {R S : Type 0} (form : ChainForm R S) (names : List (List ℕ)) (lines : List Line)
    (held : Held R S) : Type 0 where
  pub numbers : numbers_of held.names ≡ number_in names
  pub count : length names ≡ held.count
  pub records : held.records ≡ map (λ name. form.record_of name (own_lines name lines)) names
  pub states : held.states ≡ map (λ name. form.state_of (own_lines name lines)) names

-- The names of these lines are held, and how many pairs the lines have.
pub record HoldsLines {R S : Type 0} (form : ChainForm R S) (lines : List Line) (held : Held R S) : Type 0 where
  pub names : HoldsNames form (names_in lines) lines held
  pub total : size_in form lines ≡ held.total
  pub room : held.total ≤ most_pairs

-- A name is none of these.
abbrev pub IsApart : List ℕ → List (List ℕ) → Type 0
IsApart name [] = ⊤
IsApart name (other ∷ names) = (bytes_eq name other ≡ false) × IsApart name names

-- No name stands twice.
abbrev pub AreApart : List (List ℕ) → Type 0
AreApart [] = ⊤
AreApart (name ∷ names) = IsApart name names × AreApart names

pub record AreDistinct (names : List (List ℕ)) : Type 0 where
  pub distinct : AreApart names

-- All lines have one of the names that these lines define.
pub record AreNamed (lines : List Line) : Type 0 where
  pub apart : AreDistinct (names_in lines)
  pub named : (name : List ℕ) → is_repeat (names_in lines) name ≡ false → own_lines name lines ≡ []

-- The lines that count after one of the kind with this fault, or without one.
abbrev pub with_counted : List Line → Line → Option Fault → List Line
with_counted lines line fault = if counts fault then lines ++ line ∷ [] else lines
