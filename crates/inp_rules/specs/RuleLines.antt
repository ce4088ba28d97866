-- The lines of control rules: which clause a line is, how far its rule has come, and which lines belong to one rule
-- (User's Manual, section [CONTROLS]; this project's profile).
use Rattle.std.specs.Prelude.{ℕ, ◌+◌, Bool, true, false, if◌then◌else◌, List, [], ◌∷◌, drop, length, Option, Some, None}
use Rattle.std.specs.List.{before_first}
use Rattle.inp_lines.specs.declared.line.Line.{Line}
use Rattle.inp_lines.specs.declared.line.SectionName.{SectionName}
use Rattle.inp_lines.specs.declared.line.SectionName.TheVariants as section
use Rattle.inp_lines.specs.Faults.{token_at}
use Rattle.inp_rules.specs.declared.clauses.Clause.{Clause}
use Rattle.inp_rules.specs.declared.clauses.Clause.TheVariants as clause
use Rattle.inp_rules.specs.declared.order.RulePart.{RulePart}
use Rattle.inp_rules.specs.declared.order.RulePart.TheVariants as rule
use Rattle.inp_rules.specs.Order.{next_of, part_after}
use Rattle.inp_rules.specs.RuleWords.{clause_of}

-- All sections CONTROLS are one list of lines.
abbrev pub is_controls : SectionName → Bool
is_controls section.Controls = true
is_controls _ = false

-- The clause that a line is, by its first word alone: a line that is too long, or at fault for its items, is one too.
unfoldable pub clause_at : Line → Option Clause
clause_at line = if is_controls line.section then clause_of (token_at line.tokens 0) else None

abbrev pub is_rule : Option Clause → Bool
is_rule (Some clause.Rule) = true
is_rule _ = false

-- whether a rule begins with a line
abbrev pub begins_rule : Line → Bool
begins_rule line = is_rule (clause_at line)

-- ---- how far a rule has come
-- after these lines, where it had come this far before them
abbrev pub part_from : RulePart → List Line → RulePart
part_from part [] = part
part_from part (line ∷ lines) = part_from (part_after part (clause_at line)) lines

-- after these lines of an input
unfoldable pub part_of : List Line → RulePart
part_of lines = part_from rule.Outside lines

-- after these lines that follow its RULE line
unfoldable pub own_part : List Line → RulePart
own_part own = part_from rule.Named own

-- where a clause stands in its rule, if it may stand there
abbrev pub placed : RulePart → Option Clause → Option RulePart
placed part None = None
placed part (Some next) = next_of part next

-- whether a rule has come past its tests
abbrev pub is_past_tests : RulePart → Bool
is_past_tests rule.ThenActions = true
is_past_tests rule.ElseActions = true
is_past_tests rule.Ended = true
is_past_tests _ = false

-- ---- the lines of a rule
-- those of all lines that come after these and the next
abbrev pub lines_after : List Line → List Line → List Line
lines_after all before = drop (length before + 1) all

-- those that belong to the rule of a RULE line, of the lines after it: up to the next RULE line
abbrev pub own_lines : List Line → List Line
own_lines after = before_first begins_rule after

-- whether a rule comes to its THEN, by its own lines
abbrev pub comes_to_then : List Line → Bool
comes_to_then own = is_past_tests (own_part own)
