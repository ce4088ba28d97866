use Rattle.std.proofs.Common.{arith, ap, length}
use Rattle.run_engine.proofs.FillLemmas.{filled_all}
use Rattle.run_engine.proofs.opening.open_flows.Goals as goal

pub returns : goal.returns
returns c = filled_all c.loop-l.invariant _ c.requires.flows (omega (arith, c.loop-l-test.false, ap length c.as_slice-count.ensures))
