use Rattle.inp_rules.proofs.FewLemmas.{rules_few}
use Rattle.inp_rules.proofs.laws.rules_are_few.Goals as goal

pub returns : goal.returns
returns c = rules_few
