use Rattle.std.proofs.Common.{refl}
use Rattle.link_eval.specs.Hydraulics.{law_of}
use Rattle.link_eval.proofs.law.HydraulicLawPhaseLaw.head_limit.Goals as goal

pub returns : goal.returns
unfolding law_of
returns c = refl
