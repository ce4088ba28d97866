use Rattle.inp_inflows.proofs.CountedLemmas.{counted_mean, counted_mean_one}
use Rattle.inp_inflows.proofs.laws.counted_have_one_meaning.Goals as goal

pub returns : goal.returns
returns g c = record {
  meant = λ known form lines none. counted_mean form known lines none;
  one = λ known form lines a b p q. counted_mean_one form known lines a b p q;
}
