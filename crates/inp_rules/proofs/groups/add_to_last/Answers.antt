use Rattle.std.proofs.Common.{◌∙◌, ap, sym, option_to_list}
use Rattle.inp_rules.specs.Grouping.{with_last}
use Rattle.inp_rules.proofs.GroupLemmas.{last_nothing}
use Rattle.inp_rules.proofs.groups.add_to_last.Goals as goal

pub returns-in-None : goal.returns-in-None
returns-in-None c = sym (ap (λ test. with_last c.args.groups.now (option_to_list test)) c.in-None.is ∙ last_nothing c.args.groups.now)
