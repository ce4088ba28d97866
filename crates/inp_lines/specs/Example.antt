use Rattle.std.specs.Prelude.{ℕ, List, [], ◌∷◌, cond, Option, None, Result, Ok, Err}
use Rattle.net_types.specs.declared.faults.FaultKind.TheVariants.{UndefinedName}
use Rattle.inp_lines.specs.declared.line.Line.{Line}
use Rattle.inp_lines.specs.declared.line.SectionName.{SectionName}
use Rattle.inp_lines.specs.declared.line.SectionName.TheVariants as section
use Rattle.inp_lines.specs.declared.fault.Fault.{Fault}
use Rattle.inp_lines.specs.declared.names.Naming.{Naming}
use Rattle.inp_lines.specs.declared.reading.Reading.{Reading}
use Rattle.inp_lines.specs.declared.reading.Reading.TheVariants.{Other}
use Rattle.inp_lines.specs.Faults.{token_at, too_few_of}
use Rattle.inp_lines.specs.Readings.{is_long, name_with_of, needed_of, new_name_of, and_then, reading_from}

-- The kinds of the tests: nodes are lines of JUNCTIONS with a name and an item, and pipes lines of CONDUITS with a
-- name and the names of two nodes. A pipe's record is its name and the numbers of its nodes.
abbrev pub at_junctions : {A : Type 0} → A → SectionName → A → A
at_junctions other section.Junctions here = here
at_junctions other _ here = other

abbrev pub at_conduits : {A : Type 0} → A → SectionName → A → A
at_conduits other section.Conduits here = here
at_conduits other _ here = other

abbrev pub node_name : Line → Option (List ℕ)
node_name line = at_junctions None line.section (name_with_of 2 line)

abbrev pub pipe_name : Line → Option (List ℕ)
pipe_name line = at_conduits None line.section (name_with_of 3 line)

-- the two nodes of a pipe; the first fault of the line counts
abbrev pub pipe_ends_of : (List ℕ → Option ℕ) → Naming → List (List ℕ) → Result (ℕ × ℕ) Fault
pipe_ends_of nodes naming (name ∷ first ∷ second ∷ rest) =
    and_then (new_name_of naming) (λ _. and_then (needed_of (nodes first) UndefinedName 1)
    (λ from. and_then (needed_of (nodes second) UndefinedName 2) (λ to. Ok (from, to))))
pipe_ends_of nodes naming (name ∷ first ∷ []) = Err (too_few_of (name ∷ first ∷ []))
pipe_ends_of nodes naming (name ∷ []) = Err (too_few_of (name ∷ []))
pipe_ends_of nodes naming [] = Err (too_few_of [])

abbrev pub pipe_of : (List ℕ → Option ℕ) → Naming → Line → Reading (List ℕ × ℕ × ℕ)
pipe_of nodes naming line = cond (is_long line) Other (reading_from
    (and_then (pipe_ends_of nodes naming line.tokens) (λ ends. Ok (token_at line.tokens 0, ends.0, ends.1))))

abbrev pub pipe_reading : (List ℕ → Option ℕ) → Naming → Line → Reading (List ℕ × ℕ × ℕ)
pipe_reading nodes naming line = at_conduits Other line.section (pipe_of nodes naming line)
