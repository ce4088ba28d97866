use Rattle.std.proofs.Common.{◌≡◌, ◌∙◌, List, get_or, subst, sym, ap}
use Rattle.net_types.specs.declared.rules.Rule.{Rule}
use Rattle.net_types.specs.Sound.{RuleNames}
use Rattle.control_rules.proofs.places.list_taken.Goals as goal

pub is_met-requires-clause-tests : goal.is_met-requires-clause-tests
is_met-requires-clause-tests c =
    let project = c.args.project.now in
    let rule = c.index-as_slice-rule.result in
    let is : rule ≡ get_or project.rules c.args.rule rule = c.index-as_slice-rule.is ∙ ap (λ (l : List Rule). get_or l c.args.rule rule) c.as_slice.ensures in
    (subst (RuleNames project) (sym is) (c.requires.sound.names.rules c.args.rule rule c.requires.rule)).groups
