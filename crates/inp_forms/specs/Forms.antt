-- Forms of lines, and what a line is read as by its form.
use Rattle.std.specs.Prelude.{ℕ, Bool, not, ◌&&◌, if◌then◌else◌, List, is_some, Option, Some, None, Ok}
use Rattle.inp_lines.specs.declared.line.Line.{Line}
use Rattle.inp_lines.specs.declared.line.SectionName.{SectionName}
use Rattle.inp_lines.specs.declared.names.Naming.{Naming}
use Rattle.inp_lines.specs.declared.reading.Reading.{Reading}
use Rattle.inp_lines.specs.declared.reading.Reading.TheVariants.{Other}
use Rattle.inp_lines.specs.Readings.{is_long, name_with_of, and_then, reading_from}
use Rattle.inp_forms.specs.declared.item.Item.{Item}
use Rattle.inp_forms.specs.declared.item.Value.{Value}
use Rattle.inp_forms.specs.Context.{Context}
use Rattle.inp_forms.specs.Items.{least_of, values_of}

-- The form of a line: its items, and the record by the line's tokens and the values of the items.
pub record RowForm (R : Type 0) : Type 0 where
  pub items : List Item
  pub make : List (List ℕ) → List Value → R

-- The forms of the lines of a kind of record: none for a section of another kind, and else the one that the tokens
-- of the line choose.
abbrev pub Forms : Type 0 → Type 0
Forms R = SectionName → Option (List (List ℕ) → RowForm R)

-- What a line is read as by a form.
unfoldable pub row_reading : {R : Type 0} → Context → Naming → RowForm R → Line → Reading R
row_reading known naming form line = if is_long line then Other
    else reading_from (and_then (values_of known naming form.items line.tokens) (λ values. Ok
    (form.make line.tokens values)))

-- The name that a line defines by a form.
abbrev pub row_name : {R : Type 0} → RowForm R → Line → Option (List ℕ)
row_name form line = name_with_of (least_of form.items) line

-- The same by the forms of a kind of record.
abbrev pub reading_by : {R : Type 0} → Context → Naming → Option (List (List ℕ) → RowForm R) → Line → Reading R
reading_by known naming None line = Other
reading_by known naming (Some form) line = row_reading known naming (form line.tokens) line

abbrev pub name_by : {R : Type 0} → Option (List (List ℕ) → RowForm R) → Line → Option (List ℕ)
name_by None line = None
name_by (Some form) line = row_name (form line.tokens) line

abbrev pub form_reading : {R : Type 0} → Context → Forms R → Naming → Line → Reading R
form_reading known forms naming line = reading_by known naming (forms line.section) line

abbrev pub form_name : {R : Type 0} → Forms R → Line → Option (List ℕ)
form_name forms line = name_by (forms line.section) line

-- The sections of a kind of record, and its lines: those that aren't too long.
abbrev pub has_form : {R : Type 0} → Forms R → SectionName → Bool
has_form forms name = is_some (forms name)

abbrev pub is_form_line : {R : Type 0} → Forms R → Line → Bool
is_form_line forms line = has_form forms line.section && not (is_long line)
