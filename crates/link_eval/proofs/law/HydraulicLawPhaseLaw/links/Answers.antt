use Rattle.std.proofs.Common.{◌≡◌, ◌∙◌, length, ap, arith}
use Rattle.link_eval.specs.Hydraulics.{law_of}
use Rattle.link_eval.proofs.SharedLemmas.{law_count}
use Rattle.link_eval.proofs.law.HydraulicLawPhaseLaw.links.Goals as goal
use Rattle.link_eval.proofs.law.HydraulicLawPhaseLaw.links.Goals.{After-as_slice}

count : (c : After-as_slice) → length c.as_slice.result.now ≡ length c.args.self.now.hydraulics.links
count c = ap length c.as_slice.ensures ∙ law_count c.links.inside.tables c.links.inside.laws c.args.self.now.hydraulics.links c.links.view_is

pub overflow_cast-result : goal.overflow_cast-result
overflow_cast-result c = omega (arith, count c, c.args.self.now.good.few_links)

pub returns : goal.returns
unfolding law_of
returns c = count c
