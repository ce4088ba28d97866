use Rattle.std.proofs.lemmas.Int.{to_z-of_z}
use Rattle.fixed_num.proofs.Bounds.{within_between, fits64, fits128}
use Rattle.node_update.proofs.GainLemmas.{inflow_between, outflow_between}
use Rattle.link_eval.specs.LawGood.{fixed_in}
use Rattle.continuity.proofs.NodeLemmas.{gain_in}
use Rattle.continuity.proofs.node_part.gain_at.Goals as goal

pub gain-requires-clause-fixed : goal.gain-requires-clause-fixed
gain-requires-clause-fixed c = rw c.as_slice.ensures (fixed_in c.args.law.now.hydraulics (c.requires.after.nodes.each c.args.node c.requires.node))

pub returns-clause-range : goal.returns-clause-range
returns-clause-range c =
    let sums = c.requires.after.sums.each c.args.node c.requires.node in
    let inflow = fits64 (within_between (inflow_between sums)) tt in
    let outflow = fits64 (within_between (outflow_between sums)) tt in
    let value = simp (to_z-of_z, c.as_slice.ensures, c.as_slice-2.ensures, c.as_slice-3.ensures, inflow, outflow) at c.gain.ensures.value in
    simp (to_z-of_z, fits128 c.gain.ensures.range tt)
    (rw value (gain_in c.args.law.now.hydraulics c.args.law.now.good c.args.node c.requires.node c.requires.after))
