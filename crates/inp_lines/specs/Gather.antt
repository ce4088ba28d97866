use Rattle.std.specs.Prelude.{ℕ, Option, Some, None, List, [], ◌∷◌, ◌++◌}
use Rattle.net_types.specs.declared.faults.LineFault.{LineFault}
use Rattle.inp_lines.specs.declared.line.Line.{Line}
use Rattle.inp_lines.specs.declared.names.Naming.{Naming}
use Rattle.inp_lines.specs.declared.reading.Reading.{Reading}
use Rattle.inp_lines.specs.declared.reading.Reading.TheVariants.{Other, Record, Faulty}
use Rattle.inp_lines.specs.declared.fault.Fault.{Fault}
use Rattle.inp_lines.specs.Faults.{line_fault}
use Rattle.inp_lines.specs.Names.{defined, naming_of}

-- What a walk over lines gathers: for each line what it gives, by the lines before it. Source: this project's profile.
abbrev pub gather : {A : Type 0} → (List Line → Line → List A) → List Line → List Line → List A
gather f before [] = []
gather f before (line ∷ rest) = f before line ++ gather f (before ++ line ∷ []) rest

-- The record that a line gives, none or one. Source: this project's profile.
abbrev pub records_in : {A : Type 0} → Reading A → List A
records_in Other = []
records_in (Record record_read) = record_read ∷ []
records_in (Faulty fault) = []

-- The fault of a line, none or one. Source: this project's profile.
abbrev pub faults_in : {A : Type 0} → Line → Reading A → List LineFault
faults_in line Other = []
faults_in line (Record record_read) = []
faults_in line (Faulty fault) = line_fault line fault ∷ []

-- What a line is read as where these lines stand before it. Source: this project's profile.
abbrev pub reading_at : {A : Type 0}
    → (Line → Option (List ℕ)) → (Naming → Line → Reading A) → List Line → Line → Reading A
reading_at name_of reading_of before line = reading_of (naming_of (defined name_of before) (name_of line)) line

abbrev pub record_at : {A : Type 0} → (Line → Option (List ℕ)) → (Naming → Line → Reading A) → List Line → Line → List A
record_at name_of reading_of before line = records_in (reading_at name_of reading_of before line)

abbrev pub fault_at : {A : Type 0}
    → (Line → Option (List ℕ)) → (Naming → Line → Reading A) → List Line → Line → List LineFault
fault_at name_of reading_of before line = faults_in line (reading_at name_of reading_of before line)

-- The fault of a line as a list. Source: this project's profile.
abbrev pub fault_found : Line → Option Fault → List LineFault
fault_found line None = []
fault_found line (Some fault) = line_fault line fault ∷ []

-- The fault of a line by the lines before it, as a list. Source: this project's profile.
abbrev pub walk_fault : (List Line → Line → Option Fault) → List Line → Line → List LineFault
walk_fault fault_of before line = fault_found line (fault_of before line)
