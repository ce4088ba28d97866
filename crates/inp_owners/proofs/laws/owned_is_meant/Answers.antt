use Rattle.inp_owners.proofs.OwnerLemmas.{owned_mean}
use Rattle.inp_owners.proofs.laws.owned_is_meant.Goals as goal

pub returns : goal.returns
returns g c = λ known kind forms lines none. owned_mean known kind forms lines none
