use Rattle.fixed_num.proofs.RootLemmas.{IsRoot2-unique}
use Rattle.fixed_num.proofs.roots.root2_is_unique.Goals as goal

pub returns : goal.returns
returns c = IsRoot2-unique
