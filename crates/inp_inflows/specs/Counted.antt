-- Lines that define no name, each of which gives one record, as many as there may be of a kind.
use Rattle.std.specs.Prelude.{◌≡◌, ◌≤◌, ◌+◌, ◌&&◌, ℕ, Bool, not, if◌then◌else◌, min}
use Rattle.std.specs.Prelude.{nat_lt, nat_le, List, [], filter, length}
use Rattle.std.specs.List.{AllZip}
use Rattle.fixed_num.specs.declared.constants.TheConstants.{RECORD_LIMIT}
use Rattle.net_types.specs.declared.faults.FaultKind.TheVariants.{OverLimit}
use Rattle.net_types.specs.declared.faults.LineFault.{LineFault}
use Rattle.inp_lines.specs.declared.line.Line.{Line}
use Rattle.inp_lines.specs.declared.line.SectionName.{SectionName}
use Rattle.inp_lines.specs.declared.names.Naming.TheVariants.{First}
use Rattle.inp_lines.specs.declared.reading.Reading.{Reading}
use Rattle.inp_lines.specs.declared.reading.Reading.TheVariants.{Other, Faulty}
use Rattle.inp_lines.specs.Faults.{too_few_of, fault_of_kind}
use Rattle.inp_lines.specs.Gather.{gather, records_in, faults_in}
use Rattle.inp_lines.specs.Readings.{is_long}
use Rattle.inp_forms.specs.Context.{Context}
use Rattle.inp_forms.specs.Forms.{RowForm, row_reading}
use Rattle.inp_forms.specs.Items.{least_of}
use Rattle.inp_forms.specs.Meaning.{IsMade}

-- A kind of such records: its section, and the form of its lines.
pub record CountedForm (R : Type 0) : Type 0 where
  pub is_of : SectionName → Bool
  pub row : RowForm R

-- the lines of the kind: those of the section that aren't too long
abbrev pub is_line_of : {R : Type 0} → CountedForm R → Line → Bool
is_line_of form line = form.is_of line.section && not (is_long line)

abbrev pub is_short : {R : Type 0} → CountedForm R → Line → Bool
is_short form line = nat_lt (length line.tokens) (least_of form.row.items)

-- A line counts as a record of the kind where it has its items, be they at fault or not (this project's profile).
abbrev pub is_counted : {R : Type 0} → CountedForm R → Line → Bool
is_counted form line = is_line_of form line && not (is_short form line)

-- Whether lines have as many records of the kind as may be.
abbrev pub is_full : {R : Type 0} → CountedForm R → List Line → Bool
is_full form before = nat_le RECORD_LIMIT (length (filter (is_counted form) before))

-- What a line is read as: too few items are a fault; else one record too many is one at the first item; else the items
-- are read by the form.
abbrev pub reading_with : {R : Type 0} → Context → CountedForm R → Bool → Line → Reading R
reading_with known form full line =
    if is_line_of form line
    then (if is_short form line then Faulty (too_few_of line.tokens)
    else if full then Faulty (fault_of_kind OverLimit 0)
    else row_reading known First form.row line)
    else Other

unfoldable pub counted_reading : {R : Type 0} → Context → CountedForm R → List Line → Line → Reading R
counted_reading known form before line = reading_with known form (is_full form before) line

-- The record of a line and its fault, each none or one, by the lines before it; and the records of lines in their
-- order.
abbrev pub counted_at : {R : Type 0} → Context → CountedForm R → List Line → Line → List R
counted_at known form before line = records_in (counted_reading known form before line)

abbrev pub counted_fault : {R : Type 0} → Context → CountedForm R → List Line → Line → List LineFault
counted_fault known form before line = faults_in line (counted_reading known form before line)

unfoldable pub counted_of : {R : Type 0} → Context → CountedForm R → List Line → List R
counted_of known form lines = gather (counted_at known form) [] lines

-- The count of records after a line, which ends at the greatest count.
abbrev pub count_after : {R : Type 0} → CountedForm R → Line → ℕ → ℕ
count_after form line count = if is_counted form line then min RECORD_LIMIT (count + 1) else count

-- Lines mean these records of a kind: one a line, in the order of the lines.
abbrev pub MeanCounted : {R : Type 0} → Context → CountedForm R → List Line → List R → Type 0
MeanCounted known form lines records =
    AllZip (λ line made. IsMade known form.row line.tokens made) (filter (is_line_of form) lines) records
