use Rattle.continuity.specs.Parts.{link_part}
use Rattle.continuity.proofs.TotalLemmas.{summed_none, summed_more}
use Rattle.continuity.proofs.link_part.all_links.Goals as goal

pub loop-link-init : goal.loop-link-init
loop-link-init c = rw c.no_account-total.ensures (summed_none (link_part c.args.law.now.hydraulics c.args.before.now c.args.after.now))

pub loop-link-preserved : goal.loop-link-preserved
loop-link-preserved c =
    summed_more c.loop-link.invariant c.part_of-part.result c.plus-total.result c.part_of-part.ensures.value c.part_of-part.ensures.range c.plus-total.ensures
