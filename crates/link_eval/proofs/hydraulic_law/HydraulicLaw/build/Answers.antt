use Rattle.std.proofs.Common.{◌∙◌}
use Rattle.link_eval.specs.Hydraulics.{hydraulics_of}
use Rattle.link_eval.proofs.BuildLemmas.{laws_are_good}
use Rattle.link_eval.proofs.hydraulic_law.HydraulicLaw.build.Goals as goal

pub invariant_of-result : goal.invariant_of-result
invariant_of-result c = record {
  good = laws_are_good c.args.project.now (record { nodes = c.in_ok-nodes.nodes; links = c.in_ok-links.links; curves = c.in_ok-curves.curves }) c.requires.faultless.sound
      c.in_ok-nodes.ensures.value c.in_ok-nodes.ensures.range c.in_ok-links.ensures.value c.in_ok-links.ensures.good (c.in_ok-curves.ensures ∙ c.as_slice.ensures);
}

pub returns : goal.returns
unfolding hydraulics_of
returns c = cc (c.in_ok-nodes.ensures.value, c.in_ok-links.ensures.value, c.in_ok-curves.ensures, c.as_slice.ensures)
