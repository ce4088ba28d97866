use Rattle.inp_rules.proofs.MeaningLemmas.{rules_meant, rules_one}
use Rattle.inp_rules.proofs.laws.rules_have_one_meaning.Goals as goal

pub returns : goal.returns
returns c = record {
  meant = λ known lines faultless. rules_meant known lines faultless;
  one = λ known lines a b p q. rules_one known lines a b p q;
}
