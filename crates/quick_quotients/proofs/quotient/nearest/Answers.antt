use Rattle.quick_quotients.proofs.LineLemmas.{half_up}
use Rattle.quick_quotients.proofs.quotient.nearest.Goals as goal

pub returns : goal.returns
returns c = half_up c.args.n c.args.k c.quotient.result c.requires.divisor c.quotient.ensures
