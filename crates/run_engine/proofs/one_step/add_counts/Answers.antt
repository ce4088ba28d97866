use Rattle.run_engine.proofs.StateLemmas.{counted_more}
use Rattle.run_engine.proofs.one_step.add_counts.Goals as goal

pub returns-clause-counts : goal.returns-clause-counts
returns-clause-counts c =
    counted_more c.args.start.now c.args.counts.now c.args.end.now c.from-trials.result c.unsettled_one.result c.requires.counts c.requires.end c.requires.trials c.from-trials.ensures c.unsettled_one.ensures
