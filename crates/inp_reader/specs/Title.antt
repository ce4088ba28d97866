-- The title of an input (User's Manual, section [TITLE]).
use Rattle.std.specs.Prelude.{ℕ, List, [], ◌∷◌, take, reverse}
use Rattle.std.specs.List.{flat_map}
use Rattle.inp_lines.specs.declared.line.Line.{Line}
use Rattle.inp_lines.specs.declared.line.SectionName.{SectionName}
use Rattle.inp_lines.specs.declared.line.SectionName.TheVariants as section
use Rattle.inp_lines.specs.Tokens.{before_comment, without_blanks}

-- A text without the blanks at both its ends.
abbrev pub trimmed : List ℕ → List ℕ
trimmed text = reverse (without_blanks (reverse (without_blanks text)))

-- The title line that a line gives: a line of TITLE gives what stands before its comment, without outer blanks.
abbrev pub at_title : {A : Type 0} → A → SectionName → A → A
at_title other section.Title here = here
at_title other _ here = other

abbrev pub title_lines : Line → List (List ℕ)
title_lines line = at_title [] line.section (trimmed (before_comment line.bytes) ∷ [])

-- The most lines of a title. Source: this project's profile.
abbrev pub title_limit : ℕ
title_limit = 3

-- The title: the first three lines of all sections TITLE.
unfoldable pub title_of : List Line → List (List ℕ)
title_of lines = take title_limit (flat_map title_lines lines)
