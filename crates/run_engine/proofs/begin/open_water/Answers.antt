use Rattle.std.proofs.Common.{◌∙◌, length, pos, ap, arith}
use Rattle.std.proofs.lemmas.Int.{ints}
use Rattle.std.proofs.lemmas.List.{length-replicate}
use Rattle.trial_model.proofs.TrialLemmas.{written_whole}
use Rattle.run_engine.proofs.RunLemmas.{run_start}
use Rattle.run_engine.proofs.RunoffLemmas.{opened}
use Rattle.run_engine.proofs.begin.open_water.Goals as goal

pub find_laterals-requires-clause-calendar : goal.find_laterals-requires-clause-calendar
find_laterals-requires-clause-calendar c = run_start c.args.start.now.project c.requires.project

pub find_laterals-requires-clause-moment : goal.find_laterals-requires-clause-moment
find_laterals-requires-clause-moment c = record { from = omega (arith, ints); to = omega (arith, ints) }

pub find_laterals-requires-clause-runoff : goal.find_laterals-requires-clause-runoff
find_laterals-requires-clause-runoff c = opened c.requires.project c.in_ok-runoff.ensures

pub find_laterals-requires-clause-places : goal.find_laterals-requires-clause-places
find_laterals-requires-clause-places c =
    let zeros = rw c.as_slice.ensures at c.in_ok-laterals.ensures in
    ap length c.as_mut_slice.ensures.value ∙ ap length zeros ∙ length-replicate (length c.args.start.now.project.nodes) (pos 0)

pub returns-clause-runoff : goal.returns-clause-runoff
returns-clause-runoff c = opened c.requires.project c.in_ok-runoff.ensures

pub returns-clause-laterals : goal.returns-clause-laterals
returns-clause-laterals c =
    written_whole _ _ (c.find_laterals.auto.laterals ∙ ap length c.as_mut_slice.ensures.value) ∙ c.find_laterals.ensures
