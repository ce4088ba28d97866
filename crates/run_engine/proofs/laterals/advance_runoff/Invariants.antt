-- All steps that were made have ended by the moment, and are in the summaries.
use Rattle.std.proofs.Common.{ℕ, ◌-ℤ◌}
use Rattle.std.specs.Int.RustNames.{unsigned_abs}
use Rattle.run_engine.specs.Kept.{AreRunoffsOf}
use Rattle.run_engine.proofs.RunoffLemmas.{IsLastAt}
use Rattle.run_engine.proofs.laterals.advance_runoff.Given as goal

abbrev pub invariant-loop-runoff : goal.invariant-loop-runoff
invariant-loop-runoff l = (steps : ℕ) × IsLastAt l.start l.moment steps l.runoff × AreRunoffsOf l.start steps l.subs

abbrev pub decreases-loop-runoff : goal.decreases-loop-runoff
decreases-loop-runoff l = unsigned_abs (l.moment -ℤ l.runoff.begin)
