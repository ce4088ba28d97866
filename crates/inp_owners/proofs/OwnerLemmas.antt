-- What is read of lines with owners.
use Rattle.std.proofs.Common.{◌≡◌, ◌∷◌, [], false, ℕ, List, Option, None, Some, is_some, refl}
use Rattle.inp_lines.specs.declared.line.Line.{Line}
use Rattle.inp_lines.specs.declared.names.Naming.{Naming}
use Rattle.inp_lines.specs.Gather.{gather, faults_in}
use Rattle.inp_lines.specs.Names.{defined, naming_of}
use Rattle.inp_lines.specs.Sources.{FaultsIn, OneOn}
use Rattle.inp_lines.proofs.ZipLemmas.{zip_records}
use Rattle.inp_forms.specs.declared.item.Objects.{Objects}
use Rattle.inp_forms.specs.Context.{Context}
use Rattle.inp_lines.specs.declared.reading.Reading.{Reading}
use Rattle.inp_lines.specs.declared.reading.Reading.TheVariants.{Other, Record, Faulty}
use Rattle.inp_forms.specs.Forms.{RowForm, Forms, form_name, form_reading, reading_by, has_form, is_form_line}
use Rattle.inp_forms.specs.Laws.{MeanRecords}
use Rattle.inp_forms.specs.Meaning.{IsRecord}
use Rattle.inp_forms.proofs.FormLemmas.{fits_form}
use Rattle.inp_owners.specs.Owners.{owned_fault, owned_of, owner_of}

one_of_reading : {A : Type 0} (line : Line) (reading : Reading A) → OneOn line.number (faults_in line reading)
one_of_reading line Other = tt
one_of_reading line (Record value) = tt
one_of_reading line (Faulty fault) = refl

no_form : {R : Type 0} (known : Context) (naming : Naming) (line : Line) (o : Option (List (List ℕ) → RowForm R))
    → is_some o ≡ false → faults_in line (reading_by known naming o line) ≡ []
no_form known naming line None e = refl
no_form known naming line (Some form) e = absurd (cc)

pub owned_mean : {R : Type 0} (known : Context) (kind : Objects) (forms : Forms R) (lines : List Line)
    → gather (owned_fault known kind forms) [] lines ≡ []
    → MeanRecords known forms lines (owned_of known kind forms lines)
unfolding owned_of
owned_mean known kind forms lines none = zip_records (IsRecord known forms) (is_form_line forms)
    (owner_of known kind forms) (form_reading known forms) (λ naming line. fits_form known forms naming line) lines none

pub owned_faults_in : {R : Type 0} (known : Context) (kind : Objects) (forms : Forms R)
    → FaultsIn (has_form forms) (owned_fault known kind forms)
owned_faults_in known kind forms = record {
  one = λ before line. one_of_reading line (form_reading known forms (naming_of (defined
      (owner_of known kind forms) before) (owner_of known kind forms line)) line);
  elsewhere = λ before line e. no_form known (naming_of (defined (owner_of known kind forms) before)
      (owner_of known kind forms line)) line (forms line.section) e;
}
