use Rattle.std.proofs.Common.{length, ap}
use Rattle.link_eval.specs.Hydraulics.{law_of}
use Rattle.link_eval.proofs.law.HydraulicLawPhaseLaw.nodes.Goals as goal

pub returns : goal.returns
unfolding law_of
returns c = ap length c.as_slice.ensures
