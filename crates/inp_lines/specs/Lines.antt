-- The lines of an input.
use Rattle.std.specs.Prelude.{ℕ, ◌+◌, ◌++◌, Bool, true, false, cond, not, List, [], ◌∷◌, length, Some, None}
use Rattle.std.specs.List.{filter_map, last_or}
use Rattle.std.specs.Option.{unwrap_or}
use Rattle.std.specs.Str.Lines.{lines}
use Rattle.inp_lines.specs.declared.line.Line.{Line}
use Rattle.inp_lines.specs.declared.line.SectionName.{SectionName}
use Rattle.inp_lines.specs.declared.line.SectionName.TheVariants as section
use Rattle.inp_lines.specs.Tokens.{before_comment, tokens_of}
use Rattle.inp_lines.specs.Sections.{named_section}

-- The section in which a line stands by the lines above it: the one that the nearest section line among them
-- names, and `Before` where there is none (this project's profile).
abbrev pub section_below : List (List ℕ) → SectionName
section_below above = unwrap_or (last_or None (filter_map named_section above)) section.Before

-- The section of a line: a section line stands in the section that it names itself, any other in the one by the
-- lines above it.
abbrev pub section_at : List (List ℕ) → List ℕ → SectionName
section_at above text = unwrap_or (named_section text) (section_below above)

abbrev pub is_unknown : SectionName → Bool
is_unknown section.Unknown = true
is_unknown _ = false

abbrev pub is_empty : List (List ℕ) → Bool
is_empty [] = true
is_empty (token ∷ tokens) = false

-- The lines that are kept: those that have a token and aren't section lines, and the section lines of unknown
-- sections (this project's profile).
abbrev pub is_kept : List ℕ → Bool
is_kept text =
    elim (named_section text)
    [ None ↦ not (is_empty (tokens_of (before_comment text))) | Some named ↦ is_unknown named ]

-- The line of a number, a section and the bytes without the line end.
abbrev pub line_of : ℕ → SectionName → List ℕ → Line
line_of number named text =
    record { number = number; section = named; tokens = tokens_of (before_comment text); bytes = text }

-- The line as a list: none where it isn't kept.
abbrev pub line_list : ℕ → SectionName → List ℕ → List Line
line_list number named text = cond (is_kept text) (line_of number named text ∷ []) []

-- The lines of texts, below these others; lines count from 1.
abbrev pub lines_below : List (List ℕ) → List (List ℕ) → List Line
lines_below above [] = []
lines_below above (text ∷ below) =
    line_list (length above + 1) (section_at above text) text ++ lines_below (above ++ text ∷ []) below

-- The lines of an input. It is cut at each LF, which with one CR before it is no part of a line; what stands
-- behind the last LF is a line if it isn't empty (this project's profile).
unfoldable pub lines_of : List ℕ → List Line
lines_of input = lines_below [] (lines input)
