-- Words of the proofs alone: what stands in the places of the links while the rules are gone through.
use Rattle.std.specs.Prelude.{◌≡◌, ◌≢◌, ℕ, zero, suc, ◌+◌, ◌-◌, ◌*◌, ◌/◌, ◌%◌, ◌^◌, ◌<◌, ◌==◌, Bool, true, ◌&&◌}
use Rattle.std.specs.Prelude.{if◌then◌else◌, List, [], None, slice_index_or, ℤ, pos, negsuc, neg_ℤ, unsigned_abs}
use Rattle.std.specs.List.{All, find, list_any}
use Rattle.std.specs.Option.{option_map_or}
use Rattle.std.specs.Ordering.{int_eq}
use Rattle.fixed_num.specs.Ranges.{IsPart}
use Rattle.net_types.specs.declared.network.Node.{Node}
use Rattle.net_types.specs.declared.rules.Action.{Action}
use Rattle.net_types.specs.declared.rules.Rule.{Rule}
use Rattle.control_rules.specs.Conditions.{Conditions}
use Rattle.control_rules.specs.Settings.{outranks}
use Rattle.control_rules.specs.Tests.{is_met}

-- an action names one of so many links, and gives it a setting in range
pub record IsAction (links : ℕ) (action : Action) : Type 0 where
  pub named : action.link < links
  pub setting : IsPart action.setting6

-- the actions of a rule are such
pub record IsRule (links : ℕ) (rule : Rule) : Type 0 where
  pub then_acts : All (IsAction links) rule.then_acts
  pub else_acts : All (IsAction links) rule.else_acts

-- what stands for a rule past the end of the list
abbrev pub no_rule : Rule
no_rule = record { name = []; groups = []; then_acts = []; else_acts = []; priority6 = None }

abbrev pub rule_at : List Rule → ℕ → Rule
rule_at rules k = slice_index_or rules k no_rule

-- the list of actions of a number: rule k has the lists 2 k, after THEN, and 2 k + 1, after ELSE
abbrev pub list_at : List Rule → ℕ → List Action
list_at rules list =
    if list % 2 == 0 then (rule_at rules (list / 2)).then_acts else (rule_at rules (list / 2)).else_acts

-- the number of the list that a rule takes
abbrev pub list_taken : List Node → Conditions → List Rule → ℕ → ℕ
list_taken nodes seen rules k = if is_met nodes seen (rule_at rules k) then 2 * k else 2 * k + 1

-- the place of a link that no list has claimed; list n claims it by the number -n - 1
abbrev pub unclaimed : ℤ
unclaimed = neg_ℤ (pos (2 ^ 63))

-- the list that has claimed a place
abbrev pub holder : ℤ → ℕ
holder place = unsigned_abs place - 1

-- a place is unclaimed or claimed by one of the lists
pub record IsPlace (rules : ℕ) (place : ℤ) : Type 0 where
  pub claim : place ≢ unclaimed → (list : ℕ) × (list < 2 * rules) × (place ≡ negsuc list)

-- whether a place gives way to a list
unfoldable pub gives_way : List Rule → (list : ℕ) → (place : ℤ) → Bool
gives_way rules list place = if int_eq place unclaimed then true
    else outranks (rule_at rules (list / 2)).priority6 (rule_at rules (holder place / 2)).priority6

abbrev pub is_on : ℕ → Action → Bool
is_on link action = action.link == link

-- the place of a link after these actions of a list have claimed what gives way to them
unfoldable pub claimed : List Rule → (list : ℕ) → List Action → (link : ℕ) → (place : ℤ) → ℤ
claimed rules list acts link place =
    if list_any (is_on link) acts && gives_way rules list place then negsuc list else place

-- the place of a link after the first so many rules
abbrev pub claimed_after : List Node → Conditions → List Rule → (link : ℕ) → (count : ℕ) → ℤ
claimed_after nodes seen rules link zero = unclaimed
claimed_after nodes seen rules link (suc k) =
    let list = list_taken nodes seen rules k in
    claimed rules list (list_at rules list) link (claimed_after nodes seen rules link k)

-- the place of a link after these actions have given their settings to what their list has claimed
unfoldable pub settled : (list : ℕ) → List Action → (link : ℕ) → (place : ℤ) → ℤ
settled list acts link place = if int_eq place (negsuc list)
    then option_map_or (λ (action : Action). action.setting6) (find (is_on link) acts) place else place

-- the place of a link after the first so many lists
abbrev pub settled_after : List Rule → (link : ℕ) → (place : ℤ) → (count : ℕ) → ℤ
settled_after rules link place zero = place
settled_after rules link place (suc list) = settled list (list_at rules list) link (settled_after rules link place list)
