use Rattle.fixed_num.proofs.RootLemmas.{IsRoot3-unique}
use Rattle.fixed_num.proofs.roots.root3_is_unique.Goals as goal

pub returns : goal.returns
returns c = IsRoot3-unique
