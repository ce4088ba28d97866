use Rattle.std.specs.Prelude.{ℕ, Bool, List, [], ◌∷◌, cond, nat_lt, length, Option, Some, None, Result, Ok, Err}
use Rattle.net_types.specs.declared.faults.FaultKind.{FaultKind}
use Rattle.net_types.specs.declared.faults.FaultKind.TheVariants.{DuplicateName, OverLimit as OverLimitFault}
use Rattle.inp_lines.specs.Faults.{fault_of_kind}
use Rattle.inp_lines.specs.declared.line.Line.{Line}
use Rattle.inp_lines.specs.declared.fault.Fault.{Fault}
use Rattle.inp_lines.specs.declared.names.Naming.{Naming}
use Rattle.inp_lines.specs.declared.names.Naming.TheVariants.{First, Repeated, OverLimit}
use Rattle.inp_lines.specs.declared.reading.Reading.{Reading}
use Rattle.inp_lines.specs.declared.reading.Reading.TheVariants.{Record, Faulty}

-- The most bytes of a line. Source: this project's profile.
abbrev pub line_limit : ℕ
line_limit = 1024

-- Whether a line is too long. Source: this project's profile.
abbrev pub is_long : Line → Bool
is_long line = nat_lt line_limit (length line.bytes)

-- The first of a list of tokens. Source: this project's profile.
abbrev pub first_token : List (List ℕ) → Option (List ℕ)
first_token [] = None
first_token (name ∷ tokens) = Some name

-- The name that a line defines if it has so many items: a line that is too long or has too few defines none.
-- Source: this project's profile.
abbrev pub name_with_of : ℕ → Line → Option (List ℕ)
name_with_of least line =
    cond (is_long line) None (cond (nat_lt (length line.tokens) least) None (first_token line.tokens))

-- The value of an item, or a fault of a kind at its place. Source: this project's profile.
abbrev pub needed_of : {A : Type 0} → Option A → FaultKind → ℕ → Result A Fault
needed_of None kind place = Err (fault_of_kind kind place)
needed_of (Some value) kind place = Ok value

-- The first fault of two readings counts. Source: this project's profile.
abbrev pub and_then : {A B : Type 0} → Result A Fault → (A → Result B Fault) → Result B Fault
and_then (Ok value) next = next value
and_then (Err fault) next = Err fault

-- A name has to be new: that it is repeated comes before that it is one too many. Source: this project's profile.
abbrev pub new_name_of : Naming → Result (Unit {0}) Fault
new_name_of First = Ok tt
new_name_of Repeated = Err (fault_of_kind DuplicateName 0)
new_name_of OverLimit = Err (fault_of_kind OverLimitFault 0)

-- A line's reading from its record or its fault. Source: this project's profile.
abbrev pub reading_from : {A : Type 0} → Result A Fault → Reading A
reading_from (Ok value) = Record value
reading_from (Err fault) = Faulty fault
