-- The faults of lines of control rules (User's Manual, section [CONTROLS]; which line is at fault, its fault and the
-- limits are this project's profile).
use Rattle.std.specs.Prelude.{ℕ, ◌&&◌, Bool, true, false, not, if◌then◌else◌, nat_lt, nat_le, List, [], ◌∷◌, length}
use Rattle.std.specs.Prelude.{Option, Some, None, is_some, is_none, Result, Ok, Err, min, ◌+◌}
use Rattle.net_types.specs.declared.faults.FaultKind.TheVariants as fault_kind
use Rattle.net_types.specs.declared.faults.LineFault.{LineFault}
use Rattle.inp_lines.specs.declared.fault.Fault.{Fault}
use Rattle.inp_lines.specs.declared.line.Line.{Line}
use Rattle.inp_lines.specs.declared.names.Naming.{Naming}
use Rattle.inp_lines.specs.declared.names.Naming.TheVariants as naming
use Rattle.inp_lines.specs.Faults.{token_at, too_few_of, fault_of_kind}
use Rattle.inp_lines.specs.Gather.{gather, walk_fault}
use Rattle.inp_lines.specs.Names.{defined, naming_of}
use Rattle.inp_lines.specs.Readings.{is_long}
use Rattle.inp_forms.specs.Context.{Context}
use Rattle.inp_rules.specs.declared.clauses.Clause.{Clause}
use Rattle.inp_rules.specs.declared.clauses.Clause.TheVariants as clause
use Rattle.inp_rules.specs.declared.order.RulePart.{RulePart}
use Rattle.inp_rules.specs.declared.roles.Role.{Role}
use Rattle.inp_rules.specs.declared.roles.Role.TheVariants as role
use Rattle.inp_rules.specs.Actions.{action_of, priority_of}
use Rattle.inp_rules.specs.Order.{next_of}
use Rattle.inp_rules.specs.RuleLines.{begins_rule, clause_at, comes_to_then, is_controls, is_past_tests, lines_after}
use Rattle.inp_rules.specs.RuleLines.{own_lines, part_of, placed}
use Rattle.inp_rules.specs.Tests.{least_of_test, test_of}

-- ---- what a clause is: an AND is a test until the rule's THEN, and an action from then on
abbrev pub role_of : RulePart → Clause → Role
role_of part clause.Rule = role.Name
role_of part clause.If = role.Test
role_of part clause.And = if is_past_tests part then role.Action else role.Test
role_of part clause.Or = role.Test
role_of part clause.Then = role.Action
role_of part clause.Else = role.Action
role_of part clause.Priority = role.Priority

-- how many items it needs
abbrev pub least_of_role : Role → List (List ℕ) → ℕ
least_of_role role.Name tokens = 2
least_of_role role.Test tokens = least_of_test (token_at tokens 1)
least_of_role role.Action tokens = 6
least_of_role role.Priority tokens = 2

abbrev pub is_short : Role → List (List ℕ) → Bool
is_short used tokens = nat_lt (length tokens) (least_of_role used tokens)

-- ---- the limit: the tests and actions of all rules, be their items at fault or not
abbrev pub most_pieces : ℕ
most_pieces = 1_000_000

abbrev pub is_limited : Role → Bool
is_limited role.Test = true
is_limited role.Action = true
is_limited _ = false

-- whether a clause is a test or an action of its rule: it has its items, and stands in sequence
abbrev pub is_piece : RulePart → List (List ℕ) → Option Clause → Bool
is_piece part tokens None = false
is_piece part tokens (Some next) =
    is_limited (role_of part next) && not (is_short (role_of part next) tokens) && is_some (next_of part next)

unfoldable pub gives_piece : RulePart → Line → Bool
gives_piece part line = not (is_long line) && is_piece part line.tokens (clause_at line)

abbrev pub piece_at : List Line → Line → List Line
piece_at before line = if gives_piece (part_of before) line then line ∷ [] else []

-- the tests and actions of lines
abbrev pub pieces_of : List Line → List Line
pieces_of lines = gather piece_at [] lines

abbrev pub is_full : List Line → Bool
is_full before = nat_le most_pieces (length (pieces_of before))

-- ---- the names of rules: a RULE line with too few items, or too long, defines none
abbrev pub name_in : List (List ℕ) → Option (List ℕ)
name_in tokens = if nat_lt (length tokens) 2 then None else Some (token_at tokens 1)

unfoldable pub rule_name : Line → Option (List ℕ)
rule_name line = if begins_rule line && not (is_long line) then name_in line.tokens else None

-- ---- the fault of a clause
abbrev pub first_fault : Option Fault → Option Fault → Option Fault
first_fault None other = other
first_fault (Some fault) other = Some fault

abbrev pub error_of : {A : Type 0} → Result A Fault → Option Fault
error_of (Ok value) = None
error_of (Err fault) = Some fault

abbrev pub is_over : Naming → Bool
is_over naming.OverLimit = true
is_over _ = false

abbrev pub is_repeated : Naming → Bool
is_repeated naming.Repeated = true
is_repeated _ = false

-- of a RULE line: too few items; else one rule too many; else a rule that does not come to its THEN; else a name that
-- another rule has
abbrev pub name_fault : List (List ℕ) → Naming → (own : List Line) → Option Fault
name_fault tokens standing own =
    if nat_lt (length tokens) 2 then Some (too_few_of tokens)
    else if is_over standing then Some (fault_of_kind fault_kind.OverLimit 0)
    else if not (comes_to_then own) then Some (fault_of_kind fault_kind.RuleSequence 0)
    else if is_repeated standing then Some (fault_of_kind fault_kind.DuplicateName 1)
    else None

-- of another clause before its items are looked at: too few of them; else out of sequence; else one too many
abbrev pub clause_fault : RulePart → Clause → (full : Bool) → List (List ℕ) → Role → Option Fault
clause_fault part next full tokens used =
    if is_short used tokens then Some (too_few_of tokens)
    else if is_none (next_of part next) then Some (fault_of_kind fault_kind.RuleSequence 0)
    else if full && is_limited used then Some (fault_of_kind fault_kind.OverLimit 0)
    else None

-- its first item at fault
abbrev pub item_fault : Context → Role → List (List ℕ) → Option Fault
item_fault known role.Name tokens = None
item_fault known role.Test tokens = error_of (test_of known tokens)
item_fault known role.Action tokens = error_of (action_of known tokens)
item_fault known role.Priority tokens = error_of (priority_of known tokens)

abbrev pub fault_by_clause : Context → RulePart → (full : Bool) → Naming → (after : List Line) → List (List ℕ)
    → Option Clause → Option Fault
fault_by_clause known part full standing after tokens None = Some (fault_of_kind fault_kind.InvalidKeyword 0)
fault_by_clause known part full standing after tokens (Some clause.Rule) = name_fault tokens standing (own_lines after)
fault_by_clause known part full standing after tokens (Some next) =
    first_fault (clause_fault part next full tokens (role_of part next)) (item_fault known (role_of part next) tokens)

-- The fault of a line of the section that isn't too long, by how far its rule has come, whether there are as many tests
-- and actions as may be, how the name stands that it defines, and the lines after it.
unfoldable pub fault_with : Context → RulePart → (full : Bool) → Naming → (after : List Line) → Line → Option Fault
fault_with known part full standing after line =
    if is_controls line.section && not (is_long line)
    then fault_by_clause known part full standing after line.tokens (clause_at line)
    else None

-- The same by all lines and the lines before it; a line of another section has none.
unfoldable pub line_fault_of : Context → (all : List Line) → List Line → Line → Option Fault
line_fault_of known all before line =
    fault_with known (part_of before) (is_full before) (naming_of (defined rule_name before) (rule_name line))
    (lines_after all before) line

abbrev pub rule_fault : Context → (all : List Line) → List Line → Line → List LineFault
rule_fault known all = walk_fault (line_fault_of known all)

-- the count of tests and actions after a line, which ends at the limit
abbrev pub pieces_after : RulePart → Line → ℕ → ℕ
pieces_after part line count = if gives_piece part line then min most_pieces (count + 1) else count
