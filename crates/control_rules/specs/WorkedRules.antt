-- Worked examples of rules (this project's profile).
use Rattle.std.specs.Prelude.{◌≡◌, ℕ, false, List, [], ◌∷◌, Some, None, ℤ, pos}
use Rattle.net_types.specs.declared.network.Node.{Node}
use Rattle.net_types.specs.declared.rules.Action.{Action}
use Rattle.net_types.specs.declared.rules.Relation.{Relation}
use Rattle.net_types.specs.declared.rules.Relation.TheVariants.{Gt, Lt}
use Rattle.net_types.specs.declared.rules.Rule.{Rule}
use Rattle.net_types.specs.declared.rules.Subject.TheVariants.{NodeDepth}
use Rattle.net_types.specs.declared.rules.Test.{Test}
use Rattle.control_rules.specs.Conditions.{Conditions}
use Rattle.control_rules.specs.Settings.{Taken, decisive, taken_by}
use Rattle.control_rules.specs.Tests.{is_met, value_of}

-- a test of the depth of a node (µm), and an action on the first link (millionths)
abbrev pub depth_test : (node : ℕ) → Relation → (depth : ℤ) → Test
depth_test node relation depth = record { subject = NodeDepth node; relation = relation; value = depth }

abbrev pub on_first_link : (setting6 : ℤ) → Action
on_first_link setting6 = record { link = 0; setting6 = setting6 }

-- `IF NODE J1 DEPTH > 1 OR NODE J1 DEPTH < 0.5 AND NODE J2 DEPTH > 1`, in m
abbrev pub or_and_and : List (List Test)
or_and_and = (depth_test 0 Gt (pos 1_000_000) ∷ depth_test 0 Lt (pos 500_000) ∷ [])
    ∷ (depth_test 1 Gt (pos 1_000_000) ∷ []) ∷ []

-- a rule with these tests isn't met by depths of 2 m and 0 m
abbrev pub OrIsStronger : Type 0
OrIsStronger = (nodes : List Node) (seen : Conditions) (rule : Rule)
    → value_of nodes seen (NodeDepth 0) ≡ pos 2_000_000 → value_of nodes seen (NodeDepth 1) ≡ pos 0
    → rule.groups ≡ or_and_and → is_met nodes seen rule ≡ false

-- two rules of priority 1 that open and close a link, in this order, and one without priority that closes it: the
-- first decides
abbrev pub opens_first : List Taken
opens_first = taken_by (Some (pos 1_000_000)) (on_first_link (pos 1_000_000))
    ∷ taken_by (Some (pos 1_000_000)) (on_first_link (pos 0)) ∷ taken_by None (on_first_link (pos 0)) ∷ []

abbrev pub FirstOfEqualsDecides : Type 0
FirstOfEqualsDecides = decisive opens_first 0
    ≡ Some (taken_by (Some (pos 1_000_000)) (on_first_link (pos 1_000_000)))
