use Rattle.std.specs.Prelude.{ℕ, List, [], ◌-◌, take, get_or, length}
use Rattle.net_types.specs.Faults.{number_of}
use Rattle.net_types.specs.declared.faults.FaultKind.{FaultKind}
use Rattle.net_types.specs.declared.faults.FaultKind.TheVariants.{TooFewItems}
use Rattle.net_types.specs.declared.faults.LineFault.{LineFault}
use Rattle.inp_lines.specs.declared.line.Line.{Line}
use Rattle.inp_lines.specs.declared.fault.Fault.{Fault}

-- The token at a place of a line; past the last token there is the empty one. Source: this project's profile.
abbrev pub token_at : List (List ℕ) → ℕ → List ℕ
token_at tokens place = get_or tokens place []

-- A fault as it is reported: its line, its number, its token. Source: this project's profile.
abbrev pub line_fault : Line → Fault → LineFault
line_fault line fault = record { line = line.number; number = fault.number; token = token_at line.tokens fault.place }

-- A fault of a kind at the token of a place. Source: this project's profile.
abbrev pub fault_of_kind : FaultKind → ℕ → Fault
fault_of_kind kind place = record { number = number_of kind; place = place }

-- Too few items, at the last token. Source: this project's profile.
abbrev pub too_few_of : List (List ℕ) → Fault
too_few_of tokens = fault_of_kind TooFewItems (length tokens - 1)

-- How many faults of an input are kept. Source: this project's profile.
abbrev pub fault_limit : ℕ
fault_limit = 100

-- The faults that are kept: the first hundred. Source: this project's profile.
abbrev pub cut : {A : Type 0} → List A → List A
cut faults = take fault_limit faults
