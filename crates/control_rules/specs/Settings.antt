-- The settings that the rules of a project give (User's Manual, section [CONTROLS]; which of several actions on a link
-- counts is this project's profile).
use Rattle.std.specs.Prelude.{◌≡◌, ℕ, ◌<◌, ◌==◌, Bool, true, false, if◌then◌else◌, List, []}
use Rattle.std.specs.Prelude.{◌∷◌, length, map, slice_get, Option, Some, None, ℤ, int_lt}
use Rattle.std.specs.List.{flat_map}
use Rattle.std.specs.Option.{option_map_or}
use Rattle.fixed_num.specs.Lists.{list_of, number}
use Rattle.net_types.specs.declared.network.Node.{Node}
use Rattle.net_types.specs.declared.project.Project.{Project}
use Rattle.net_types.specs.declared.rules.Action.{Action}
use Rattle.net_types.specs.declared.rules.Rule.{Rule}
use Rattle.control_rules.specs.Conditions.{Conditions}
use Rattle.control_rules.specs.Tests.{is_met}

-- the actions that a rule takes: those after THEN where it is met, else those after ELSE
abbrev pub actions_of : List Node → Conditions → Rule → List Action
actions_of nodes seen rule = if is_met nodes seen rule then rule.then_acts else rule.else_acts

-- an action that is taken, with the priority of its rule
pub record Taken : Type 0 where
  pub priority : Option ℤ
  pub action : Action

abbrev pub taken_by : Option ℤ → Action → Taken
taken_by priority action = record { priority = priority; action = action }

-- all actions that these rules take, in the order of the file
abbrev pub all_taken : List Node → Conditions → List Rule → List Taken
all_taken nodes seen rules = flat_map (λ rule. map (taken_by rule.priority6) (actions_of nodes seen rule)) rules

-- whether the first priority is above the second; none is below all
abbrev pub outranks : Option ℤ → Option ℤ → Bool
outranks None b = false
outranks (Some a) None = true
outranks (Some a) (Some b) = int_lt b a

-- the action at a place decides on a link: it is on the link, no action on the link outranks it, and it
-- outranks each one on the link that stands before it
pub record IsDecisive (taken : List Taken) (link : ℕ) (one : Taken) : Type 0 where
  pub place : ℕ
  pub stands : slice_get taken place ≡ Some one
  pub on_link : one.action.link ≡ link
  pub greatest : (k : ℕ) (other : Taken) → slice_get taken k ≡ Some other → other.action.link ≡ link
      → outranks other.priority one.priority ≡ false
  pub first : (k : ℕ) (other : Taken) → k < place → slice_get taken k ≡ Some other → other.action.link ≡ link
      → outranks one.priority other.priority ≡ true

-- the stronger of an action and one that stands later, if there is one: the first, unless the later one outranks it
abbrev pub stronger : Taken → Option Taken → Taken
stronger one None = one
stronger one (Some later) = if outranks later.priority one.priority then later else one

-- the action that decides on a link: the first of the greatest priority among those on it
abbrev pub decisive : List Taken → (link : ℕ) → Option Taken
decisive [] link = None
decisive (one ∷ later) link =
    if one.action.link == link then Some (stronger one (decisive later link)) else decisive later link

-- the setting of a link after the rules: that of the action which decides on it, else the one that it has
unfoldable pub setting_after : List Node → List Rule → Conditions → (link : ℕ) → ℤ
setting_after nodes rules seen link =
    option_map_or (λ one. one.action.setting6) (decisive (all_taken nodes seen rules) link) (number seen.settings link)

-- the settings of all links after the rules of a project
unfoldable pub settings_of : Project → Conditions → List ℤ
settings_of project seen = list_of (setting_after project.nodes project.rules seen) (length seen.settings)
