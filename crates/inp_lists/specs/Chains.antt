-- Records that are made of several lines: all lines of a section with the same name, in their order.
use Rattle.std.specs.Prelude.{ℕ, ◌+◌, ◌==◌, ◌||◌, ◌&&◌, Bool, true, false, not, if◌then◌else◌}
use Rattle.std.specs.Prelude.{nat_lt, List, [], ◌∷◌, ◌++◌}
use Rattle.std.specs.Prelude.{map, filter, sum, bytes_eq, Option, Some, None}
use Rattle.net_types.specs.declared.faults.FaultKind.{FaultKind}
use Rattle.net_types.specs.declared.faults.FaultKind.TheVariants.{TooFewItems, OverLimit}
use Rattle.net_types.specs.Faults.{number_of}
use Rattle.inp_lines.specs.declared.fault.Fault.{Fault}
use Rattle.inp_lines.specs.declared.line.Line.{Line}
use Rattle.inp_lines.specs.declared.names.Naming.{Naming}
use Rattle.inp_lines.specs.declared.names.Naming.TheVariants as naming
use Rattle.inp_lines.specs.Faults.{fault_of_kind, token_at, too_few_of}
use Rattle.inp_lines.specs.Gather.{gather}
use Rattle.inp_lines.specs.Names.{defined, naming_among}

-- How lines of a kind become records `R`. A line is judged by the lines of its name before it, its own lines, and a
-- state `S` is what a reader needs to know of them.
pub record ChainForm (R S : Type 0) : Type 0 where
  -- whether a line is of the kind: it stands in the section, and isn't too long
  pub is_of : Line → Bool
  -- whether a line has too few items
  pub is_short : List Line → Line → Bool
  -- how many pairs of items a line has, be they values or not
  pub size_of : List Line → Line → ℕ
  -- the first item at fault
  pub item_fault : List Line → Line → Option Fault
  -- the record of a name, and the state, by all lines of the name
  pub record_of : List ℕ → List Line → R
  pub state_of : List Line → S

-- The name of a line is its first token.
abbrev pub line_name : Line → List ℕ
line_name line = token_at line.tokens 0

-- The lines of a name.
abbrev pub own_lines : List ℕ → List Line → List Line
own_lines name lines = filter (λ line. bytes_eq name (line_name line)) lines

-- The names of lines, each once, in the order of their first lines.
unfoldable pub names_in : List Line → List (List ℕ)
names_in lines = defined (λ line. Some (line_name line)) lines

-- How many pairs of items lines have in all, and how many they may have (this project's profile).
abbrev pub size_at : {R S : Type 0} → ChainForm R S → List Line → Line → List ℕ
size_at form before line = form.size_of (own_lines (line_name line) before) line ∷ []

unfoldable pub size_in : {R S : Type 0} → ChainForm R S → List Line → ℕ
size_in form lines = sum (gather (size_at form) [] lines)

abbrev pub most_pairs : ℕ
most_pairs = 1_000_000

-- whether a name is new, where there are as many names as may be
abbrev pub is_over : Naming → Bool
is_over naming.First = false
is_over naming.Repeated = false
is_over naming.OverLimit = true

-- The fault of a line of the kind: too few items; else, at its first item, a name too many or pairs too many in all;
-- else its first item at fault.
abbrev pub fault_by : {R S : Type 0} → ChainForm R S → List Line → Naming → ℕ → Line → Option Fault
fault_by form own naming total line =
    if form.is_short own line then Some (too_few_of line.tokens)
    else if is_over naming then Some (fault_of_kind OverLimit 0)
    else if nat_lt most_pairs (total + form.size_of own line) then Some (fault_of_kind OverLimit 0)
    else form.item_fault own line

-- The same by the lines before it that count.
unfoldable pub fault_in : {R S : Type 0} → ChainForm R S → List Line → Line → Option Fault
fault_in form held line =
    fault_by form (own_lines (line_name line) held) (naming_among (names_in held) (line_name line))
    (size_in form held) line

-- Whether a line with this fault, or without one, counts: a line with too few items or over a limit defines no name
-- and gives no pairs, any other does (this project's profile).
abbrev pub counts : Option Fault → Bool
counts None = true
counts (Some fault) = not ((fault.number == number_of TooFewItems) || (fault.number == number_of OverLimit))

-- The lines that count: one more line, and one line after the other.
abbrev pub with_line : {R S : Type 0} → ChainForm R S → List Line → Line → List Line
with_line form held line = if form.is_of line && counts (fault_in form held line) then held ++ line ∷ [] else held

unfoldable pub kept_after : {R S : Type 0} → ChainForm R S → List Line → List Line → List Line
kept_after form held [] = held
kept_after form held (line ∷ lines) = kept_after form (with_line form held line) lines

abbrev pub kept : {R S : Type 0} → ChainForm R S → List Line → List Line
kept form lines = kept_after form [] lines

-- The fault of a line by all lines before it; a line of another kind has none.
unfoldable pub chain_fault : {R S : Type 0} → ChainForm R S → List Line → Line → Option Fault
chain_fault form before line = if form.is_of line then fault_in form (kept form before) line else None

-- The names that lines define, and the records and the states of these names.
unfoldable pub chain_names : {R S : Type 0} → ChainForm R S → List Line → List (List ℕ)
chain_names form lines = names_in (kept form lines)

unfoldable pub chain_records : {R S : Type 0} → ChainForm R S → List Line → List R
chain_records form lines =
    map (λ name. form.record_of name (own_lines name (kept form lines))) (chain_names form lines)

unfoldable pub chain_states : {R S : Type 0} → ChainForm R S → List Line → List S
chain_states form lines = map (λ name. form.state_of (own_lines name (kept form lines))) (chain_names form lines)
