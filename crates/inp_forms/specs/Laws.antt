-- Laws of forms.
use Rattle.std.specs.Prelude.{◌≡◌, List, [], filter}
use Rattle.std.specs.List.{AllZip}
use Rattle.inp_lines.specs.declared.line.Line.{Line}
use Rattle.inp_lines.specs.Gather.{gather, record_at, fault_at}
use Rattle.inp_lines.specs.Sources.{FaultsIn}
use Rattle.inp_forms.specs.Context.{Context}
use Rattle.inp_forms.specs.Forms.{Forms, form_name, form_reading, has_form, is_form_line}
use Rattle.inp_forms.specs.Meaning.{IsRecord}

-- Lines mean these records of a kind: one a line, in the order of the lines.
abbrev pub MeanRecords : {R : Type 0} → Context → Forms R → List Line → List R → Type 0
MeanRecords known forms lines records = AllZip (IsRecord known forms) (filter (is_form_line forms) lines) records

-- Where no line of a kind is at fault, the records that are read are those that the lines mean.
abbrev pub RecordsAreMeant : Type 0 → Type 0
RecordsAreMeant R = (known : Context) (forms : Forms R) (lines : List Line)
    → gather (fault_at (form_name forms) (form_reading known forms)) [] lines ≡ []
    → MeanRecords known forms lines (gather (record_at (form_name forms) (form_reading known forms)) [] lines)

-- Lines mean one list of records of a kind.
abbrev pub RecordsAreOne : Type 0 → Type 0
RecordsAreOne R = (known : Context) (forms : Forms R) (lines : List Line) (a b : List R)
    → MeanRecords known forms lines a → MeanRecords known forms lines b → a ≡ b

-- A line has at most one fault by a form, and only a line of a section that has a form.
abbrev pub FaultsAreOfForms : Type 0 → Type 0
FaultsAreOfForms R = (known : Context) (forms : Forms R) → FaultsIn (has_form forms) (fault_at (form_name forms)
    (form_reading known forms))
