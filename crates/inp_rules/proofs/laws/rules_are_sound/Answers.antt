use Rattle.inp_rules.proofs.SoundLemmas.{rules_sound}
use Rattle.inp_rules.proofs.laws.rules_are_sound.Goals as goal

pub returns : goal.returns
returns c = λ known project objects_are lines faultless. rules_sound known lines faultless project objects_are
