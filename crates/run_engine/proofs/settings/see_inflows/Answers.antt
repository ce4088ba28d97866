use Rattle.std.proofs.Common.{length, ap, arith}
use Rattle.run_engine.proofs.FillLemmas.{filled_all}
use Rattle.run_engine.proofs.settings.see_inflows.Goals as goal

pub returns : goal.returns
returns c = filled_all c.loop-n.invariant _ c.requires.places (omega (arith, c.loop-n-test.false, ap length c.as_slice-count.ensures))
