use Rattle.std.proofs.Common.{◌≡◌, ◌∙◌, Bool, false, true, ◌||◌, ◌&&◌, List, pos, ℤ, int_lt, refl, ap}
use Rattle.net_types.specs.declared.network.Node.{Node}
use Rattle.net_types.specs.declared.rules.Rule.{Rule}
use Rattle.net_types.specs.declared.rules.Subject.TheVariants.{NodeDepth}
use Rattle.net_types.specs.declared.rules.Test.{Test}
use Rattle.std.specs.List.{list_all, list_any}
use Rattle.control_rules.specs.Conditions.{Conditions}
use Rattle.control_rules.specs.Tests.{is_met, is_true, value_of}
use Rattle.control_rules.specs.WorkedRules.{OrIsStronger, or_and_and}
use Rattle.control_rules.proofs.laws.worked_rules.Goals as goal

or_is_stronger : OrIsStronger
unfolding is_met is_true
or_is_stronger nodes seen rule deep dry groups =
    ap (λ (g : List (List Test)). list_all (λ group. list_any (is_true nodes seen) group) g) groups
    ∙ ap (λ (d : ℤ). (int_lt (pos 1_000_000) d || (int_lt d (pos 500_000) || false))
    && ((int_lt (pos 1_000_000) (value_of nodes seen (NodeDepth 1)) || false) && true)) deep
    ∙ ap (λ (d : ℤ). (int_lt (pos 1_000_000) d || false) && true) dry

pub returns : goal.returns
returns c = record { tests = or_is_stronger; priorities = refl }
