-- When a test of a rule is true (User's Manual, section [CONTROLS]).
use Rattle.std.specs.Prelude.{Bool, not, List, ℤ, pos, ◌-ℤ◌, int_lt, int_le}
use Rattle.std.specs.List.{list_all, list_any}
use Rattle.std.specs.Ordering.{int_eq}
use Rattle.fixed_num.specs.Lists.{number}
use Rattle.net_types.specs.declared.network.Node.{Node}
use Rattle.net_types.specs.declared.rules.Relation.{Relation}
use Rattle.net_types.specs.declared.rules.Relation.TheVariants.{Eq, Ne, Lt, Le, Gt, Ge}
use Rattle.net_types.specs.declared.rules.Rule.{Rule}
use Rattle.net_types.specs.declared.rules.Subject.{Subject}
use Rattle.net_types.specs.declared.rules.Subject.TheVariants.{NodeDepth, NodeHead, NodeInflow, LinkFlow}
use Rattle.net_types.specs.declared.rules.Subject.TheVariants.{LinkSetting, Elapsed, ClockTime, Month, Weekday}
use Rattle.net_types.specs.declared.rules.Test.{Test}
use Rattle.net_types.specs.Records.{node_at}
use Rattle.control_rules.specs.Conditions.{Conditions}

-- the stored value of what a test looks at: a depth is the head above the invert, a status is the setting
abbrev pub value_of : List Node → Conditions → Subject → ℤ
value_of nodes seen (NodeDepth node) = number seen.heads node -ℤ (node_at nodes node).invert
value_of nodes seen (NodeHead node) = number seen.heads node
value_of nodes seen (NodeInflow node) = number seen.inflows node
value_of nodes seen (LinkFlow link) = number seen.flows link
value_of nodes seen (LinkSetting link) = number seen.settings link
value_of nodes seen Elapsed = seen.elapsed
value_of nodes seen ClockTime = seen.calendar.ms_of_day
value_of nodes seen Month = pos seen.calendar.month
value_of nodes seen Weekday = pos seen.calendar.weekday

-- whether the first number stands in the relation to the second
abbrev pub compares : Relation → ℤ → ℤ → Bool
compares Eq a b = int_eq a b
compares Ne a b = not (int_eq a b)
compares Lt a b = int_lt a b
compares Le a b = int_le a b
compares Gt a b = int_lt b a
compares Ge a b = int_le b a

-- whether a test is true
unfoldable pub is_true : List Node → Conditions → Test → Bool
is_true nodes seen test = compares test.relation (value_of nodes seen test.subject) test.value

-- whether a rule is met: each of its groups has a true test
unfoldable pub is_met : List Node → Conditions → Rule → Bool
is_met nodes seen rule = list_all (λ group. list_any (is_true nodes seen) group) rule.groups
