-- The order of the clauses of a rule (User's Manual, section [CONTROLS]): RULE, IF, any AND or OR, THEN, any AND,
-- perhaps ELSE and any AND, perhaps PRIORITY.
use Rattle.std.specs.Prelude.{Option, None, Some}
use Rattle.inp_rules.specs.declared.clauses.Clause.{Clause}
use Rattle.inp_rules.specs.declared.clauses.Clause.TheVariants as clause
use Rattle.inp_rules.specs.declared.order.RulePart.{RulePart}
use Rattle.inp_rules.specs.declared.order.RulePart.TheVariants as rule

abbrev pub after_if : RulePart → Option RulePart
after_if rule.Named = Some rule.Tests
after_if _ = None

abbrev pub after_and : RulePart → Option RulePart
after_and rule.Tests = Some rule.Tests
after_and rule.ThenActions = Some rule.ThenActions
after_and rule.ElseActions = Some rule.ElseActions
after_and _ = None

abbrev pub after_tests : RulePart → (next : RulePart) → Option RulePart
after_tests rule.Tests next = Some next
after_tests _ next = None

abbrev pub after_else : RulePart → Option RulePart
after_else rule.ThenActions = Some rule.ElseActions
after_else _ = None

abbrev pub after_priority : RulePart → Option RulePart
after_priority rule.ThenActions = Some rule.Ended
after_priority rule.ElseActions = Some rule.Ended
after_priority _ = None

-- how far a rule has come with a clause more, where the clause may stand there
abbrev pub next_of : RulePart → Clause → Option RulePart
next_of part clause.Rule = Some rule.Named
next_of part clause.If = after_if part
next_of part clause.And = after_and part
next_of part clause.Or = after_tests part rule.Tests
next_of part clause.Then = after_tests part rule.ThenActions
next_of part clause.Else = after_else part
next_of part clause.Priority = after_priority part

-- how far it has come after a line: a line that is no clause, or a clause out of sequence, changes nothing
abbrev pub stays_or : RulePart → Option RulePart → RulePart
stays_or part None = part
stays_or part (Some next) = next

abbrev pub part_after : RulePart → Option Clause → RulePart
part_after part None = part
part_after part (Some next) = stays_or part (next_of part next)
