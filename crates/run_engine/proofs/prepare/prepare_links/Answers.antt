use Rattle.std.proofs.Common.{arith}
use Rattle.std.proofs.lemmas.Int.{to_z-of_z}
use Rattle.run_engine.proofs.FillLemmas.{filled_all}
use Rattle.run_engine.proofs.prepare.prepare_links.Goals as goal

pub returns : goal.returns
returns c =
    let kept = simp (to_z-of_z, c.ranges.dt) at c.loop-link.invariant in
    filled_all kept _ c.requires.links (omega (arith, c.loop-link-test.false, c.links-link-end.ensures))
