-- Lines that say more of an object that another line defines.
use Rattle.std.specs.Prelude.{◌≡◌, ℕ, if◌then◌else◌, List, [], filter, Option, None, Some, is_some}
use Rattle.std.specs.List.{AllZip}
use Rattle.net_types.specs.declared.faults.LineFault.{LineFault}
use Rattle.inp_lines.specs.declared.line.Line.{Line}
use Rattle.inp_lines.specs.Gather.{gather, record_at, fault_at}
use Rattle.inp_lines.specs.Sources.{FaultsIn}
use Rattle.inp_forms.specs.declared.item.Objects.{Objects}
use Rattle.inp_forms.specs.Context.{Context, object_number}
use Rattle.inp_forms.specs.Forms.{Forms, form_name, form_reading, has_form}
use Rattle.inp_forms.specs.Laws.{MeanRecords}

-- A name, if it is that of an object of this kind. Source: this project's profile.
abbrev pub name_of_object : Context → Objects → Option (List ℕ) → Option (List ℕ)
name_of_object known kind None = None
name_of_object known kind (Some name) = if is_some (object_number known kind name) then Some name else None

-- The name of the owner of a line. Source: this project's profile.
abbrev pub owner_of : {R : Type 0} → Context → Objects → Forms R → Line → Option (List ℕ)
owner_of known kind forms line = name_of_object known kind (form_name forms line)

-- What lines say of their owners, in the order of the lines. Source: this project's profile.
unfoldable pub owned_of : {R : Type 0} → Context → Objects → Forms R → List Line → List R
owned_of known kind forms lines = gather (record_at (owner_of known kind forms) (form_reading known forms)) [] lines

-- The fault of a line, none or one, by the lines before it. Source: this project's profile.
abbrev pub owned_fault : {R : Type 0} → Context → Objects → Forms R → List Line → Line → List LineFault
owned_fault known kind forms = fault_at (owner_of known kind forms) (form_reading known forms)

-- Where no line is at fault, what is read is what the lines mean, and they mean no other.
abbrev pub OwnedIsMeant : Type 0 → Type 0
OwnedIsMeant R = (known : Context) (kind : Objects) (forms : Forms R) (lines : List Line)
    → gather (owned_fault known kind forms) [] lines ≡ [] → MeanRecords known forms lines
    (owned_of known kind forms lines)

-- A line has at most one fault, and only a line of a section that has a form.
abbrev pub FaultsAreOwned : Type 0 → Type 0
FaultsAreOwned R = (known : Context) (kind : Objects) (forms : Forms R)
    → FaultsIn (has_form forms) (owned_fault known kind forms)
