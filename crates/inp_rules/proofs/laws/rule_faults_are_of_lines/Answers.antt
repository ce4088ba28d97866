use Rattle.inp_rules.proofs.SoundLemmas.{faults_of_rules}
use Rattle.inp_rules.proofs.laws.rule_faults_are_of_lines.Goals as goal

pub returns : goal.returns
returns c = faults_of_rules
