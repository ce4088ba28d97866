-- Records that are read by forms: what a line is read as is what it means, and it means one record.
use Rattle.std.proofs.Common.{◌≡◌, [], ◌&&◌, ℕ, Bool, true, false, not, cond, List, filter, refl, ap, sym, ◌∙◌}
use Rattle.std.proofs.Common.{Option, None, Some, is_some, Result, Ok, Err}
use Rattle.std.specs.Bool.{⊤}
use Rattle.std.specs.List.{AllZip}
use Rattle.inp_lines.specs.declared.fault.Fault.{Fault}
use Rattle.inp_lines.specs.declared.line.Line.{Line}
use Rattle.inp_lines.specs.declared.names.Naming.{Naming}
use Rattle.inp_lines.specs.declared.reading.Reading.{Reading}
use Rattle.inp_lines.specs.declared.reading.Reading.TheVariants.{Other, Record, Faulty}
use Rattle.inp_lines.specs.Gather.{gather, record_at, fault_at, faults_in}
use Rattle.inp_lines.specs.Laws.{Fits}
use Rattle.inp_lines.specs.Names.{defined, naming_of}
use Rattle.inp_lines.specs.Readings.{is_long, and_then, reading_from}
use Rattle.inp_lines.specs.Sources.{FaultsIn, OneOn}
use Rattle.inp_lines.proofs.ZipLemmas.{zip_records, zip_unique}
use Rattle.inp_forms.specs.declared.item.Value.{Value}
use Rattle.inp_forms.specs.Context.{Context}
use Rattle.inp_forms.specs.Forms.{RowForm, Forms, row_reading, reading_by, form_reading, form_name, has_form}
use Rattle.inp_forms.specs.Forms.{is_form_line}
use Rattle.inp_forms.specs.Items.{values_of}
use Rattle.inp_forms.specs.Meaning.{IsMade, IsMadeBy, IsRecord}
use Rattle.inp_forms.proofs.ItemLemmas.{values_mean, values_unique}

-- ---- a line means one record
made_unique : {R : Type 0} (known : Context) (form : RowForm R) (tokens : List (List ℕ)) (a b : R)
    → IsMade known form tokens a → IsMade known form tokens b → a ≡ b
made_unique known form tokens a b p q = p.made_is ∙ (ap (form.make tokens)
    (values_unique known form.items tokens p.values q.values p.are q.are) ∙ sym q.made_is)

made_by_unique : {R : Type 0} (known : Context) (o : Option (List (List ℕ)
    → RowForm R)) (tokens : List (List ℕ)) (a b : R) → IsMadeBy known o tokens a → IsMadeBy known o tokens b → a ≡ b
made_by_unique known None tokens a b p q = absurd p
made_by_unique known (Some form) tokens a b p q = made_unique known (form tokens) tokens a b p q

pub record_unique : {R : Type 0} (known : Context) (forms : Forms R) (line : Line) (a b : R)
    → IsRecord known forms line a → IsRecord known forms line b → a ≡ b
record_unique known forms line a b p q = made_by_unique known (forms line.section) line.tokens a b p q

-- ---- what a line is read as is what it means
-- of a reading that gives a record
abbrev pub OnRecord : {R : Type 0} → Reading R → (R → Type 0) → Type 0
OnRecord Other P = ⊤
OnRecord (Record made) P = P made
OnRecord (Faulty fault) P = ⊤

outcome_means : {R : Type 0} (known : Context) (naming : Naming) (form : RowForm R) (tokens : List (List ℕ))
    (r : Result (List Value) Fault) → values_of known naming form.items tokens ≡ r
    → OnRecord (reading_from (and_then r (λ values. Ok (form.make tokens values)))) (IsMade known form tokens)
outcome_means known naming form tokens (Ok values) e = record {
  values = values;
  are = values_mean known naming
      form.items tokens values e;
  made_is = refl;
}
outcome_means known naming form tokens (Err fault) e = tt

-- a reading of a line of the kind has a record or a fault, unless the line is too long
fits_by : {R : Type 0} (known : Context) (naming : Naming) (o : Option (List (List ℕ)
    → RowForm R)) (line : Line) (long : Bool) → is_long line ≡ long
    → Fits (λ l made. IsMadeBy known o l.tokens made) (λ l. is_some o && not (is_long l)) line
    (reading_by known naming o line)
unfolding row_reading
fits_by known naming None line long e = refl
fits_by {R} known naming (Some form) line long e = go (is_long line) refl where
  shown : (r : Result (List Value) Fault) → values_of known naming (form line.tokens).items line.tokens ≡ r
      → is_long line ≡ false
      → Fits (λ l made. IsMade known (form l.tokens) l.tokens made) (λ l. not (is_long l)) line (reading_from
      (and_then r (λ values. Ok ((form line.tokens).make line.tokens values))))
  shown (Ok values) t e = (ap not e, outcome_means known naming (form line.tokens) line.tokens (Ok values) t)
  shown (Err fault) t e = tt

  go : (b : Bool) → is_long line ≡ b
      → Fits (λ l made. IsMade known (form l.tokens) l.tokens made) (λ l. not (is_long l)) line
      (cond b Other (reading_from (and_then (values_of known naming (form line.tokens).items line.tokens)
      (λ values. Ok ((form line.tokens).make line.tokens values)))))
  go true e = ap not e
  go false e = shown (values_of known naming (form line.tokens).items line.tokens) refl e

pub fits_form : {R : Type 0} (known : Context) (forms : Forms R) (naming : Naming) (line : Line)
    → Fits (IsRecord known forms) (is_form_line forms) line (form_reading known forms naming line)
fits_form {R} known forms naming line = moved (form_reading known forms naming line) (fits_by known naming
    (forms line.section) line (is_long line) refl) where
      moved : (reading : Reading R) → Fits (λ l made. IsMadeBy known (forms line.section) l.tokens made) (λ l. is_some
          (forms line.section) && not (is_long l)) line reading → Fits (IsRecord known forms)
          (is_form_line forms) line reading
      moved Other fits = fits
      moved (Record made) fits = fits
      moved (Faulty fault) fits = tt

-- ---- faults
one_of_reading : {A : Type 0} (line : Line) (reading : Reading A) → OneOn line.number (faults_in line reading)
one_of_reading line Other = tt
one_of_reading line (Record value) = tt
one_of_reading line (Faulty fault) = refl

no_form : {R : Type 0} (known : Context) (naming : Naming) (line : Line) (o : Option (List (List ℕ) → RowForm R))
    → is_some o ≡ false → faults_in line (reading_by known naming o line) ≡ []
no_form known naming line None e = refl
no_form known naming line (Some form) e = absurd (cc)

-- the faults of lines of a kind: one a line at most, and in the sections of the kind alone
pub form_faults_in : {R : Type 0} (known : Context) (forms : Forms R) → FaultsIn (has_form forms) (fault_at
    (form_name forms) (form_reading known forms))
form_faults_in known forms = record {
  one = λ before line. one_of_reading line (form_reading known forms (naming_of (defined (form_name forms) before)
      (form_name forms line)) line);
  elsewhere = λ before line e. no_form known (naming_of (defined (form_name forms) before)
      (form_name forms line)) line (forms line.section) e;
}

-- ---- lists of records
-- where no line is at fault, the records of all lines are those that the lines of the kind mean, one each
pub forms_mean : {R : Type 0} (known : Context) (forms : Forms R) (lines : List Line)
    → gather (fault_at (form_name forms) (form_reading known forms)) [] lines ≡ []
    → AllZip (IsRecord known forms) (filter (is_form_line forms) lines) (gather (record_at (form_name forms)
    (form_reading known forms)) [] lines)
forms_mean known forms lines none = zip_records (IsRecord known forms) (is_form_line forms) (form_name forms)
    (form_reading known forms) (λ naming line. fits_form known forms naming line) lines none

pub forms_mean_one : {R : Type 0} (known : Context) (forms : Forms R) (lines : List Line) (a b : List R)
    → AllZip (IsRecord known forms) (filter (is_form_line forms) lines) a
    → AllZip (IsRecord known forms) (filter (is_form_line forms) lines) b → a ≡ b
forms_mean_one known forms lines a b p q = zip_unique (IsRecord known forms) (record_unique known forms) (filter
    (is_form_line forms) lines) a b p q
